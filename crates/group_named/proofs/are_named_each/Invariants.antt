-- `group_named::are_named_each` meets its contract: whether each of those passed is named, and what is put down last.
-- Assumes nothing.
use mathlib.Core.Path.{◌≡◌}
use mathlib.Core.Bool.{true}
use lib.ListN.{length}
use Rattle.math_lists.specs.NumbersBelow.{all}
use Rattle.edit_history.specs.EditsHeld.{edits_of}
use Rattle.group_named.specs.ChainForms.{ByteChained}
use Rattle.group_named.specs.NamedForms.{LawfulSets, is_named_at, swap_of, BoxTold}
use Rattle.group_named.proofs.are_named_each.Given as goal

abbrev pub invariant-loop-i : goal.invariant-loop-i
invariant-loop-i l =
    (length l.members ≡ length l.initial.members)
    × (length l.plain ≡ length l.initial.plain)
    × (length l.ctx ≡ length l.initial.ctx)
    × (length l.sees ≡ length l.initial.sees)
    × (length l.names ≡ length l.initial.names)
    × (ByteChained l.recs l.n l.chain → LawfulSets (edits_of l.recs l.n) →
    (l.named ≡ all l.i (λ j. is_named_at l.recs l.n (swap_of l.end l.last j)))
    × (l.i ≡ l.n → l.named ≡ true → BoxTold l.recs l.n l.last l.members l.names l.plain l.ctx l.sees))
