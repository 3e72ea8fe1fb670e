-- `list_version::values::stamp_of` meets its contract: the fields that are read are those of the edit. Assumes nothing.
use mathlib.Core.Path.{◌≡◌, refl, subst, ◌∙◌}
use mathlib.Core.List.{List}
use Prim.Native.Nat.{ℕ, ◌*◌, ◌-◌, ◌≤◌}
use native.Mathlib.Omega.{arith}
use borrow.Author.Tests.{lt-ltb, le-ltb}
use Rattle.edit_record.specs.Layout.{most_sites, keys, two_bytes}
use Rattle.edit_causal.specs.TotalOrder.{vector_sum}
use Rattle.list_version.proofs.ValuesByStamps.{stamp-is}
use Rattle.list_version.proofs.values.stamp_of.Goals as goal

pub returns-then-key-ge-KEYS : goal.returns-then-key-ge-KEYS
returns-then-key-ge-KEYS c e f =
    let key = c in
    let site = key in
    let value = site in
    let sum = value.sum_of-sum.ensures in (
      rw (le-ltb e.key keys (omega (arith, key.byte_at-key.ensures, f.key))) refl,
      (
        subst (λ (v : List ℕ). vector_sum v ≤ most_sites * (two_bytes - 1)) f.vector (omega (arith, sum.0, sum.1)),
        omega (arith, site.byte_at-site.ensures, f.site),
        omega (arith, value.value_of-value.ensures, f.value),
      ),
    )

pub returns : goal.returns
returns c e f =
    let key = c in
    let site = key in
    let value = site in
    let sum = value.sum_of-sum.ensures in
    let sent = value.value_of-value.ensures ∙ f.value in
    let made = site.byte_at-site.ensures ∙ f.site in
    let added = subst (λ (v : List ℕ). value.sum_of-sum.result ≡ vector_sum v) f.vector sum.0 in (
      rw (lt-ltb e.key keys (omega (arith, key.byte_at-key.ensures, f.key)))
          (c.stamped.ensures ∙ stamp-is e _ _ _ _ (key.byte_at-key.ensures ∙ f.key) added made sent),
      (omega (arith, added, sum.1), omega (arith, made), omega (arith, sent)),
    )
