-- `list_line::pieces::put_piece` meets its contract: a place is copied whole. Assumes nothing.
use mathlib.Core.Path.{◌≡◌, refl, ◌∙◌}
use Prim.Native.Nat.{◌+◌, ◌-◌, ◌*◌}
use native.Mathlib.Omega.{arith}
use lib.ListN.{drop}
use lib.Seq.{take-take}
use Rattle.list_line.specs.LineForms.{piece_length}
use Rattle.list_line.proofs.KeptPieces.{piece-behind}
use Rattle.list_line.proofs.pieces.put_piece.Goals as goal

pub returns : goal.returns
returns c =
    let a = c.args in
    let s = c in
    let at = a.j * piece_length in
    let whole : (at + piece_length) - at ≡ piece_length = omega arith in (
      piece-behind a.out.now a.texts.now a.n a.j _ (omega (arith, s.requires.4)) s.requires.0 s.requires.1
          s.requires.3
          (c.copy_in.ensures ∙ rw (whole, take-take piece_length piece_length (drop at a.texts.now) (omega arith))),
      refl,
    )
