-- `list_line::put_identifier` meets its contract: the names with a space in the place of the first mark, or a space and
-- `-`. Assumes nothing.
use mathlib.Core.Path.{◌∙◌}
use mathlib.Core.List.{[], ◌∷◌}
use native.Mathlib.Omega.{arith}
use lib.ListN.{take}
use Rattle.list_text.specs.Pieces.{space, minus}
use Rattle.list_text.proofs.PiecesBehind.{two}
use Rattle.list_version.specs.VersionForms.{identifier_by}
use Rattle.list_line.specs.Line.{identifier_text}
use Rattle.list_line.proofs.LineTurns.{none-marked, first-mark-spaced}
use Rattle.list_line.proofs.put_identifier.Goals as goal

pub returns-then-w-n : goal.returns-then-w-n
unfolding identifier_text
returns-then-w-n c =
    let none-put = c in
    let members = none-put in
    let s = members in
    let a = s.args in
    let all = members.put_members-w in
    let ids = identifier_by (take a.d a.disputes.now) a.g in
    let (front, none) = none-marked all.new.out a.out.now all.result a.n
    (omega (arith, s.requires.1, s.requires.2, all.ensures.1, all.auto.out)) (omega (arith, s.requires.2)) ids
    all.ensures.0 none-put.if-w-n.true in
    let first = c.put_byte-k.ensures in
    let second = c.put_byte.ensures in (
      rw none (two (take a.n a.out.now) (space ∷ []) (minus ∷ []) (first.0 ∙ rw front) second.0),
      omega (arith, first.1, second.1),
    )

pub returns : goal.returns
returns c =
    let members = c in
    let s = members in
    let a = s.args in
    let all = members.put_members-w in
    let ids = identifier_by (take a.d a.disputes.now) a.g in (
      first-mark-spaced all.new.out a.out.now all.result a.n
          (omega (arith, s.requires.1, s.requires.2, all.ensures.1, all.auto.out)) (omega (arith, s.requires.2)) ids
          all.ensures.0 c.if-w-n.false (omega (arith, s.requires.2, all.auto.out)),
      omega (arith, s.requires.1, all.ensures.1),
    )
