-- `list_line::pieces::form_setting` meets its contract: a space and `key=value`. Assumes nothing.
use mathlib.Core.List.{[], ◌∷◌}
use native.Mathlib.Omega.{arith}
use lib.ListN.{take}
use borrow.Author.Tests.{ne_eqb}
use Rattle.list_text.specs.Pieces.{space, equated}
use Rattle.list_text.proofs.PiecesBehind.{two}
use Rattle.list_line.proofs.pieces.form_setting.Goals as goal

pub returns : goal.returns
returns c =
    let mark = c in
    let s = mark in
    let v = c.shown in (
      rw (ne_eqb s.args.s 0 (λ e. omega (arith, s.requires)), ← v.ensures)
          (two (take s.args.n s.args.text.now) (space ∷ [])
          (equated s.args.key v.result) mark.put_byte-w.ensures.0
          c.put_equated.ensures.0),
      omega arith,
    )
