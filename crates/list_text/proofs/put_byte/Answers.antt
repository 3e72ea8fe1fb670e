-- `list_text::put_byte` meets its contract: a byte stored behind the first n. Assumes nothing.
use mathlib.Core.Path.{refl}
use borrow.Author.Rules.{rules}
use Rattle.list_text.proofs.PiecesBehind.{one_byte}
use Rattle.list_text.proofs.put_byte.Goals as goal

pub returns : goal.returns
returns c = (one_byte c.args.out.now c.args.n c.args.b (search rules), refl)
