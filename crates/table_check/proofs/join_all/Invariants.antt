-- `table_check::join_all` meets its contract: those passed have the members of m, and the rest is as it was. Assumes
-- nothing.
use Rattle.std.proofs.Common.{◌≡◌, ◌++◌, map, take, drop, bit_or}
use Rattle.table_check.proofs.join_all.Given as goal

abbrev pub invariant-loop-g : goal.invariant-loop-g
invariant-loop-g l =
    l.g-items ≡ map (λ g. bit_or g l.m) (take l.g-index l.initial.g-items) ++ drop l.g-index l.initial.g-items
