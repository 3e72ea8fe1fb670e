-- `list_line::alone::put_lone_line` meets its contract: the Create, the identifier, the values and a newline. Assumes
-- nothing.
use mathlib.Core.List.{[], ◌∷◌}
use native.Mathlib.Omega.{arith}
use lib.ListN.{take}
use Rattle.edit_record.specs.Layout.{keys}
use Rattle.list_text.specs.Pieces.{space, newline, dotted}
use Rattle.list_text.proofs.PiecesBehind.{four}
use Rattle.list_version.specs.VersionForms.{identifier_by}
use Rattle.list_line.specs.Line.{identifier_text}
use Rattle.list_line.specs.LineForms.{settings_by, line_by}
use Rattle.list_line.proofs.alone.put_lone_line.Goals as goal

pub returns : goal.returns
unfolding line_by
returns c =
    let set = c in
    let marked = set in
    let named = marked in
    let a = named.args in
    let first = named.put_dotted-a.ensures in
    let second = marked.put_lone_identifier-b.ensures in
    let third = set.put_lone_settings-w.ensures in
    let last = c.put_byte.ensures in
    let disputes = take a.d a.disputes.now in (
      four [] (dotted a.site a.seq) (space ∷ identifier_text (identifier_by disputes a.g))
          (settings_by _ a.g keys) (newline ∷ []) first.0 second.0 third.0 last.0,
      omega (arith, first.1, second.1, third.1, last.1),
    )
