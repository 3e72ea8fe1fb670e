-- `group_sight::seen::seen_of` meets its contract: of the Sets that are not left, those are found that were seen.
-- Assumes nothing.
use mathlib.Core.Path.{◌≡◌}
use mathlib.Core.List.{List, [], ◌∷◌, ◌++◌}
use Prim.Native.Nat.{suc, ◌^◌, ◌<◌}
use lib.ListN.{length}
use Rattle.math_contexts.specs.Box.{Lawful}
use Rattle.edit_record.specs.declared.Edit.{Edit}
use Rattle.edit_causal.specs.Conflict.{box_on}
use Rattle.group_sight.specs.SightForms.{NameOf, NamesOf, SeesTell}
use Rattle.group_sight.proofs.SeenThrough.{Known}
use Rattle.group_sight.proofs.seen.seen_of.Given as goal

abbrev pub invariant-loop-left : goal.invariant-loop-left
invariant-loop-left l =
    (l.left < 2 ^ l.k)
    × ((ms : List Edit) (e : Edit) → length ms ≡ l.k → NamesOf l.names ms → NameOf l.y e → e.vector ≡ l.v →
    SeesTell ms l.sees → Lawful (box_on (ms ++ (e ∷ []))) (suc (length ms)) → Known ms e l.left l.seen)

abbrev pub decreases-loop-left : goal.decreases-loop-left
decreases-loop-left l = l.left
