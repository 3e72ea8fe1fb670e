-- `list_line::pieces::put_anew` meets its contract: the piece is formed and then put. Assumes nothing.
use mathlib.Core.Path.{◌∙◌}
use native.Mathlib.Omega.{arith}
use Rattle.list_line.proofs.pieces.put_anew.Goals as goal

pub put_piece-requires : goal.put_piece-requires
put_piece-requires c =
    let s = c in
    let kept = c.renew.ensures.0 in (
      omega (arith, s.requires.0),
      kept.texts-long,
      kept.lens-long,
      omega (arith, kept.few s.args.j s.requires.0),
      s.requires.2,
    )

pub returns : goal.returns
returns c =
    let s = c in
    let made = c.renew in
    let put = c.put_piece in (
      put.ensures.0 ∙ rw made.ensures.1,
      omega (arith, put.ensures.1, made.ensures.0.few s.args.j s.requires.0),
      made.ensures.0,
      made.ensures.2,
    )
