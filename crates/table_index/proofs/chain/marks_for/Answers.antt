-- `table_index::chain::marks_for` meets its contract. Assumes nothing.
use mathlib.Core.Path.{sym, ◌∙◌}
use Rattle.edit_record.specs.RecordBytes.{decode_of}
use Rattle.table_index.proofs.ChainsOfSets.{marks-unset}
use Rattle.table_index.proofs.chain.marks_for.Goals as goal

pub returns-then-not-is_set_kind : goal.returns-then-not-is_set_kind
returns-then-not-is_set_kind c =
    let s = c in
    let a = s.args in
    let is = c.is_set_kind in
    sym (marks-unset a.recs.now a.q (decode_of a.rec.now) a.n
    (sym is.ensures ∙ c.if-not-is_set_kind.true))

pub marks_along-requires : goal.marks_along-requires
marks_along-requires c =
    let is = c.is_set_kind in
    let s = c in (
      s.requires.0,
      s.requires.1,
      s.requires.2,
      s.requires.3,
      s.requires.4,
      s.requires.5,
      sym is.ensures ∙ c.if-not-is_set_kind.false,
    )

pub returns : goal.returns
returns c = c.marks_along.ensures
