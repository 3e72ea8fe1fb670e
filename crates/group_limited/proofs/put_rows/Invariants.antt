-- `group_limited::put_rows` meets its contract: after i places, the rows of their Sets are put down, where all of them
-- are proper. Assumes nothing.
use mathlib.Core.Path.{◌≡◌}
use lib.ListN.{length}
use Rattle.edit_causal.specs.ConflictForms.{Proper}
use Rattle.group_limited.specs.LimitedForms.{RowsTell}
use Rattle.group_sight.specs.SightForms.{sets_in, SeesTell}
use Rattle.group_limited.proofs.put_rows.Given as goal

abbrev pub invariant-loop-i : goal.invariant-loop-i
invariant-loop-i l =
    (length l.plain ≡ length l.initial.plain)
    × (length l.ctx ≡ length l.initial.ctx)
    × (length l.sees ≡ length l.initial.sees)
    × (Proper (sets_in l.recs l.places l.k) → RowsTell (sets_in l.recs l.places l.i) l.plain l.ctx × SeesTell (sets_in l.recs l.places l.i) l.sees)
