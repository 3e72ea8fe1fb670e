-- `list_text::put_equated` meets its contract: two decimals with an equals sign between. Assumes nothing.
use mathlib.Core.List.{[], ◌∷◌}
use native.Mathlib.Omega.{arith}
use lib.ListN.{take}
use Rattle.list_text.specs.Decimal.{decimal}
use Rattle.list_text.specs.Pieces.{equals, key_digits, word_digits}
use Rattle.list_text.proofs.OneDecimal.{digits-fit}
use Rattle.list_text.proofs.PiecesBehind.{three}
use Rattle.list_text.proofs.put_equated.Goals as goal

pub put_decimal-k-requires : goal.put_decimal-k-requires
put_decimal-k-requires c = omega (arith, digits-fit key_digits c.args.a (omega arith) (omega arith))

pub put_byte-l-requires : goal.put_byte-l-requires
put_byte-l-requires c =
    omega (
      arith,
      digits-fit key_digits c.args.a (omega arith)
          (omega arith),
    )

pub put_decimal-requires : goal.put_decimal-requires
put_decimal-requires c =
    let a = c.args in
    let first = digits-fit key_digits a.a (omega arith) (omega arith) in
    let second = digits-fit word_digits a.b (omega arith) (omega arith) in
    omega arith

pub returns : goal.returns
returns c =
    let mark = c in
    let first = mark in
    let a = first.args in
    let low = digits-fit key_digits a.a (omega arith) (omega arith) in
    let last = digits-fit word_digits a.b (omega arith) (omega arith) in (
      three (take a.n a.out.now) (decimal a.a) (equals ∷ []) (decimal a.b) first.put_decimal-k.ensures.0
          mark.put_byte-l.ensures.0 c.put_decimal.ensures.0,
      omega arith,
    )
