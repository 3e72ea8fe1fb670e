-- `list_line::pieces::form_name` meets its contract: `+` and the name. Assumes nothing.
use mathlib.Core.List.{[], ◌∷◌}
use native.Mathlib.Omega.{arith}
use lib.ListN.{take}
use Rattle.list_text.specs.Pieces.{plus}
use Rattle.list_text.proofs.PiecesBehind.{two}
use Rattle.list_line.specs.Line.{name_text}
use Rattle.list_version.specs.VersionForms.{name_by}
use Rattle.list_line.proofs.pieces.form_name.Goals as goal

pub returns : goal.returns
returns c =
    let mark = c in
    let a = mark.args in (
      two (take a.n a.text.now) (plus ∷ []) (name_text (name_by a.x)) mark.put_byte-w.ensures.0
          c.put_dotted.ensures.0,
      omega arith,
    )
