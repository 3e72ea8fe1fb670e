-- The numbers that have a member of m, one Set more at a time. Assumes nothing.
use mathlib.Core.Path.{◌≡◌, sym, ◌∙◌}
use mathlib.Core.Bool.{Bool, not}
use mathlib.Core.List.{List}
use Prim.Native.Nat.{ℕ, ◌+◌, ◌^◌}
use native.Mathlib.Numerals.{add-one}
use lib.Bits.{bit_and, bit_or}
use lib.ListN.{get_or}
use borrow.Author.Tests.{eq-eqb, ne_eqb}
use Rattle.math_maximal.specs.Step.{compatible}
use Rattle.math_maximal.proofs.Masks.{mask-by-or}
use Rattle.group_context.specs.RowForms.{meeting}

module _ (rows : List ℕ) (m found j : ℕ) (inv : found ≡ meeting rows j m) where
  abbrev meets : ℕ → Bool
  meets j = not (compatible m (get_or rows j 0))

  pub one_more_lem :
      (own : ℕ) → own ≡ 2 ^ j → (bit_and (get_or rows j 0) m ≡ 0 → ⊥) → bit_or found own ≡ meeting rows (j + 1) m
  unfolding meeting
  one_more_lem own e h =
      rw (add-one j, e, inv) (sym (mask-by-or j meets ∙ rw (ne_eqb (bit_and (get_or rows j 0) m) 0 h)))

  pub none_more : bit_and (get_or rows j 0) m ≡ 0 → found ≡ meeting rows (j + 1) m
  unfolding meeting
  none_more h = rw (add-one j, inv) (sym (mask-by-or j meets ∙ rw (eq-eqb (bit_and (get_or rows j 0) m) 0 h)))
