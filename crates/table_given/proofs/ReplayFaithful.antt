-- Demand 2 over all sequences: whatever records are taken from an empty drawing, accepted or refused, the tables are
-- faithful after each. Assumes nothing.
use mathlib.Core.Bool.{Bool, true, false, cond}
use mathlib.Core.List.{List}
use Prim.Native.Nat.{ℕ, zero, suc, ◌≤◌}
use lib.Dec.{eqb}
use Rattle.edit_record.specs.Layout.{most_sites}
use Rattle.table_given.specs.Replay.{replay_of, one_more}
use Rattle.table_arrival.proofs.Faithful.{Faithful, empty-faithful, acceptance-faithful}

pub replay-faithful :
    (sites : ℕ) → 1 ≤ sites → sites ≤ most_sites → (rs : ℕ → List ℕ) (n : ℕ) → Faithful (replay_of sites rs n).after
unfolding replay_of
replay-faithful sites some few rs zero = empty-faithful sites some few
replay-faithful sites some few rs (suc n) =
    go (eqb (replay_of sites rs n).answer 0) (replay-faithful sites some few rs n)
  where
    go : (x : Bool) → Faithful (replay_of sites rs n).after →
        Faithful (cond x (one_more rs n (replay_of sites rs n).after) (replay_of sites rs n)).after
    go true f = acceptance-faithful (replay_of sites rs n).after (rs n) f
    go false f = f
