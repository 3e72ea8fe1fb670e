-- `edit_next::whole::is_all_seen` meets its contract, whatever is said of the last record. Assumes nothing.
use mathlib.Core.Path.{refl, sym, ap, ◌∙◌}
use lib.Dec.{eqb}
use lib.ListN.{get_or}
use Prim.Native.Nat.{ℕ, ◌+◌}
use borrow.Author.Tests.{eq-eqb}
use Rattle.math_lists.proofs.Booleans.{clash, and-on}
use Rattle.edit_record.specs.RecordBytes.{decode_of}
use Rattle.edit_walk.specs.WalkForms.{same_but, sees_all}
use Rattle.edit_next.proofs.whole.is_all_seen.Goals as goal

pub returns-then-not-is_last_seen : goal.returns-then-not-is_last_seen
returns-then-not-is_last_seen c ok = clash ok refl

pub returns-then-pair_at-have : goal.returns-then-pair_at-have
returns-then-pair_at-have c ok = clash ok refl

pub returns : goal.returns
unfolding sees_all
returns c ok =
    let s = c in
    let counts = s.args.held.now in
    let e = decode_of s.args.rec.now in
    let next = sym c.pair_at.ensures ∙ c.if-pair_at-have.false
    ∙ ap (λ (x : ℕ). x + 1) c.held_from-have.ensures in
    and-on (eqb e.seq.0 (get_or counts e.site.0 0 + 1)) (same_but counts e.vector e.site.0)
    (eq-eqb e.seq.0 (get_or counts e.site.0 0 + 1) next)
    (sym c.is_as_counted.ensures ∙ ok)
