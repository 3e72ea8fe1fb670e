-- `list_text::put_labelled` meets its contract: a word and a decimal behind it. Assumes nothing.
use native.Mathlib.Omega.{arith}
use lib.ListN.{take}
use Rattle.list_text.specs.Decimal.{decimal}
use Rattle.list_text.specs.Pieces.{word_digits}
use Rattle.list_text.proofs.OneDecimal.{digits-fit}
use Rattle.list_text.proofs.PiecesBehind.{two}
use Rattle.list_text.proofs.put_labelled.Goals as goal

pub put_decimal-requires : goal.put_decimal-requires
put_decimal-requires c =
    omega (
      arith,
      digits-fit word_digits c.args.m
          (omega arith) (omega arith),
    )

pub returns : goal.returns
returns c =
    let word = c in
    let a = word.args in (
      two (take a.n a.out.now) a.word.now (decimal a.m) word.put_bytes-k.ensures.0
          c.put_decimal.ensures.0,
      omega (arith, digits-fit word_digits a.m (omega arith) (omega arith)),
    )
