-- `list_line::pieces::renew` meets its contract: the piece is formed in the part that is lent. Assumes nothing.
use mathlib.Core.Path.{◌≡◌, ◌∙◌}
use Prim.Native.Nat.{◌+◌, ◌*◌}
use lib.ListN.{length}
use borrow.Rule.Slice.PartMut.{mid_len}
use Rattle.list_line.specs.LineForms.{piece_length}
use native.Mathlib.Omega.{arith}
use Rattle.list_line.proofs.KeptPieces.{renewed-piece, renewed-kept, names-stay}
use Rattle.list_line.proofs.pieces.renew.Goals as goal

pub overflow_cast-lens : goal.overflow_cast-lens
overflow_cast-lens c =
    let f = c.form_setting-n in
    record { fits = omega (arith, f.ensures.1) }

pub returns : goal.returns
returns c =
    let f = c.form_setting-n in
    let s = c in
    let (low, some, kept) = s.requires in
    let at = s.args.j * piece_length in
    let whole : length f.new.text ≡ piece_length =
    f.auto.text
    ∙ mid_len at (at + piece_length) s.args.texts.now (omega (arith, kept.texts-long))
    ∙ omega arith in (
      renewed-kept s.args.texts.now f.new.text s.args.j (omega arith) kept.texts-long whole
          s.args.lens.now f.result kept.lens-long s.args.told.now s.args.v kept low f.ensures.0
          f.ensures.1,
      renewed-piece s.args.texts.now f.new.text s.args.j (omega arith) kept.texts-long whole
          s.args.lens.now f.result kept.lens-long s.args.told.now s.args.v kept low f.ensures.0
          f.ensures.1,
      names-stay s.args.texts.now f.new.text s.args.j (omega arith) kept.texts-long whole
          s.args.lens.now f.result kept.lens-long s.args.told.now s.args.v kept low f.ensures.0
          f.ensures.1,
    )
