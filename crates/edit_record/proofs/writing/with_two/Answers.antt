-- `edit_record::writing::with_two` meets its contract: two stores, one after the other. Assumes nothing.
use native.Mathlib.Omega.{arith}
use Rattle.edit_record.proofs.Encoding.{two-more}
use Rattle.edit_record.proofs.writing.with_two.Goals as goal

pub returns : goal.returns
returns c = let a = c.args in two-more a.bytes a.i a.low a.high (omega arith)
