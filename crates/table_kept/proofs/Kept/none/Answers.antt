-- `table_kept::Kept::none` meets its contract: where it is told of no Set, what is kept tells of none. Assumes nothing.
use mathlib.Core.Path.{refl}
use mathlib.Core.List.{[]}
use Rattle.table_kept.proofs.KeptAlong.{none_kept}
use Rattle.table_kept.proofs.Kept.none.Goals as goal

pub returns : goal.returns
returns c = none_kept [] _ _ refl refl refl
