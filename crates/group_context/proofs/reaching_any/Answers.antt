-- `group_context::reaching_any` meets its contract. Assumes nothing.
use mathlib.Core.Path.{ap}
use lib.Bits.{bit_or}
use Rattle.group_context.proofs.reaching_any.Goals as goal

pub returns : goal.returns
returns c = ap (bit_or c.args.m) c.meeting_rows.ensures
