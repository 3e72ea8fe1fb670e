-- `list_version::values::put_stamps` meets its contract: the stamps of the Sets passed stand at the front, and it is
-- noted which keys they have. Assumes nothing.
use mathlib.Core.Path.{◌≡◌}
use Prim.Native.Nat.{ℕ, ◌<◌}
use lib.ListN.{length}
use Rattle.edit_record.specs.Layout.{keys}
use Rattle.list_version.specs.VersionForms.{KeyedTo}
use Rattle.list_version.proofs.ValuesByStamps.{StampedAt}
use Rattle.list_version.proofs.values.put_stamps.Given as goal

abbrev pub invariant-loop-i : goal.invariant-loop-i
invariant-loop-i l =
    (length l.out ≡ length l.initial.out)
    × (length l.keyed ≡ length l.initial.keyed)
    × (length l.tops ≡ keys)
    × ((j : ℕ) → j < l.i → StampedAt l.recs l.places l.out j)
    × KeyedTo l.out l.keyed l.tops l.peaks l.i
