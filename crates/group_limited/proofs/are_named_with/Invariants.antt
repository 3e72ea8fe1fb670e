-- `group_limited::are_named_with` meets its contract: 16 is given to none of the Sets passed, whose rows are put down.
-- Assumes nothing.
use mathlib.Core.Path.{◌≡◌}
use mathlib.Core.Bool.{false}
use Prim.Native.Nat.{ℕ, ◌<◌}
use lib.ListN.{length}
use Rattle.math_contexts.specs.Box.{Lawful}
use Rattle.edit_causal.specs.Conflict.{box_on}
use Rattle.group_limited.specs.LimitedForms.{RowsTell}
use Rattle.group_sight.specs.SightForms.{sets_in, SeesTell}
use Rattle.group_limited.proofs.NamedInTurn.{nameless}
use Rattle.group_limited.proofs.are_named_with.Given as goal

abbrev pub invariant-loop-i : goal.invariant-loop-i
invariant-loop-i l =
    (length l.plain ≡ length l.initial.plain)
    × (length l.ctx ≡ length l.initial.ctx)
    × (length l.sees ≡ length l.initial.sees)
    × (Lawful (box_on (sets_in l.recs l.places l.k)) l.k → RowsTell (sets_in l.recs l.places l.i) l.plain l.ctx × SeesTell (sets_in l.recs l.places l.i) l.sees × ((j : ℕ) → j < l.i → nameless l.recs l.places j ≡ false))
