-- `list_line::alone::put_lone_identifier` meets its contract: the names with a space in the place of the first mark, or
-- a space and `-`. Assumes nothing.
use mathlib.Core.Path.{◌∙◌}
use mathlib.Core.List.{[], ◌∷◌}
use native.Mathlib.Omega.{arith}
use lib.ListN.{take}
use Rattle.list_text.specs.Pieces.{space, minus}
use Rattle.list_text.proofs.PiecesBehind.{two}
use Rattle.list_version.specs.VersionForms.{identifier_by}
use Rattle.list_line.specs.Line.{identifier_text}
use Rattle.list_line.proofs.LineTurns.{none-marked, first-mark-spaced}
use Rattle.list_line.proofs.alone.put_lone_identifier.Goals as goal

pub returns-then-w-n : goal.returns-then-w-n
unfolding identifier_text
returns-then-w-n c =
    let first = c in
    let all = first.put_lone_names-w in
    let s = first in
    let a = s.args in
    let ids = identifier_by (take a.d a.disputes.now) a.g in
    let (front, none) = none-marked all.new.out a.out.now all.result a.n
    (omega (arith, s.requires.1, s.requires.2, all.ensures.1, all.auto.out)) (omega (arith, s.requires.2)) ids
    all.ensures.0 first.if-w-n.true in (
      rw none (two (take a.n a.out.now) (space ∷ []) (minus ∷ []) (first.put_byte-k.ensures.0 ∙ rw front)
          c.put_byte.ensures.0),
      omega arith,
    )

pub returns : goal.returns
returns c =
    let all = c.put_lone_names-w in
    let s = c in
    let a = s.args in
    let ids = identifier_by (take a.d a.disputes.now) a.g in (
      first-mark-spaced all.new.out a.out.now all.result a.n
          (omega (arith, s.requires.1, s.requires.2, all.ensures.1, all.auto.out)) (omega (arith, s.requires.2)) ids
          all.ensures.0 c.if-w-n.false (omega (arith, s.requires.2, all.auto.out)),
      omega (arith, s.requires.1, all.ensures.1),
    )
