-- `table_kept::judge_by_rows` meets its contract. Assumes nothing.
use mathlib.Core.Path.{refl, sym, ap, subst, ◌∙◌}
use mathlib.Core.List.{List, [], ◌∷◌, ◌++◌}
use Prim.Native.Nat.{ℕ, ◌<◌}
use native.Mathlib.Omega.{arith}
use lib.ListN.{length}
use Rattle.edit_record.specs.RecordBytes.{decode_of}
use Rattle.edit_causal.proofs.PlainMarks.{marked-below}
use Rattle.edit_history.specs.EditsHeld.{edits_of, sets_on}
use Rattle.group_step.specs.GroupRows.{most_sets}
use Rattle.table_kept.specs.BoxForms.{boxed, TellOf, KeptFor}
use Rattle.table_kept.proofs.KeptAlong.{surveyed-sets, kept-with}
use Rattle.table_kept.proofs.judge_by_rows.Goals as goal

pub make_ready-requires : goal.make_ready-requires
make_ready-requires c =
    let s = c in
    let a = s.args in
    let (sets, _) = surveyed-sets (edits_of a.recs.now a.n) (decode_of a.rec.now) a.h s.requires.2 in
    (s.requires.0, s.requires.1, sets, s.requires.3)

pub judge-j-requires : goal.judge-j-requires
judge-j-requires c =
    let s = c in
    let a = s.args in
    let e = decode_of a.rec.now in
    let es = edits_of a.recs.now a.n in
    let (sets, plain) = surveyed-sets es e a.h s.requires.2 in
    let m = c.make_ready in (
      rw (sets, ← s.requires.0.all) (s.requires.0.holds.few-sets e.tsite e.tseq),
      omega (arith, m.auto.names, s.requires.3.names-long),
      m.auto.rows ∙ s.requires.3.rows_long,
      rw (sets, plain) (marked-below e (sets_on e.tsite e.tseq es)),
    )

pub put_box-requires : goal.put_box-requires
put_box-requires c =
    let s = c in
    c.judge-j.auto.names ∙ c.make_ready.auto.names ∙ s.requires.3.names-long

pub returns : goal.returns
returns c =
    let s = c in
    let a = s.args in
    let e = decode_of a.rec.now in
    let es = edits_of a.recs.now a.n in
    let ms = sets_on e.tsite e.tseq es in
    let (sets, plain) = surveyed-sets es e a.h s.requires.2 in
    let ready = c.make_ready in
    let j = c.judge-j in
    let ln = j.auto.names ∙ ready.auto.names ∙ s.requires.3.names-long in
    let lr = j.auto.rows ∙ ready.auto.rows ∙ s.requires.3.rows_long in
    let (judged, put) = j.ensures ms (sym sets) ready.ensures.names ready.ensures.told plain in
    let after : length ms < most_sets → TellOf (ms ++ (e ∷ [])) j.new.names j.new.rows
    = λ few. let (names, told) = put (rw sets few) in record { names = names; told = told } in
    let count = rw (c.byte_at.ensures, sets) at c.told_after-told.ensures in (
      record { nameless = λ asked. judged.nameless; conflicts = λ found. judged.conflicts },
      subst (λ (ns : List ℕ). KeptFor (es ++ (e ∷ [])) ns j.new.rows)
          (sym (c.put_box.ensures ∙ ap (boxed j.new.names e) count))
          (kept-with es e j.new.names j.new.rows ln lr after _ refl),
    )
