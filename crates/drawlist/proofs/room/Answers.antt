-- `drawlist::room` is as long as the longest list. Assumes nothing.
use Rattle.std.proofs.Common.{ℕ, sym}
use Rattle.std.proofs.lemmas.List.{length-replicate}
use Rattle.list_print.specs.Printing.{list_length}
use Rattle.drawlist.proofs.room.Goals as goal

pub returns : goal.returns
returns c = sym (length-replicate {0} {A = ℕ} list_length 0)
