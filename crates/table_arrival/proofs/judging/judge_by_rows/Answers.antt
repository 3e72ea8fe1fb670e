-- `table_arrival::judging::judge_by_rows` meets its contract: the rows that are left are those of the edit's box.
-- Assumes nothing.
use mathlib.Core.Bool.{true}
use mathlib.Core.Path.{sym, ap, subst, ◌∙◌}
use Prim.Native.Nat.{◌≤◌}
use Rattle.std.proofs.lemmas.Option.{none-some, same_Some}
use Rattle.edit_record.specs.RecordBytes.{decode_of}
use Rattle.edit_history.specs.EditsHeld.{edits_of, sets_on}
use Rattle.edit_walk.specs.WalkForms.{place_of}
use Rattle.group_step.specs.GroupRows.{most_sets}
use Rattle.group_limited.specs.declared.Judged.{Judged}
use Rattle.group_limited.specs.LimitedForms.{JudgedWhere}
use Rattle.table_arrival.proofs.JudgedByRows.{box-below, box-told, names-told, judged-told}
use Rattle.table_arrival.proofs.judging.judge_by_rows.Goals as goal

pub are_named_last_in-named-requires : goal.are_named_last_in-named-requires
are_named_last_in-named-requires c =
    let a = c.args in
    let (h, ix, _, held, _) = c.requires in
    let e = decode_of a.rec.now in
    let at = c.place_at-p.ensures ∙ ap (place_of a.places.now e.tsite.0) c.pair_at-q.ensures in (
      h.few-records,
      box-below a.c a.recs.now h a.places.now ix e held _ at,
      h.few-sets,
    )

pub returns-then-not-named : goal.returns-then-not-named
returns-then-not-named c =
    let h = c.requires.0 in
    let named = c.are_named_last_in-named.ensures c.args.c.sites h.few-sites h.pass c.requires.1 in
    record { named = sym c.if-not-named.true ∙ named.0; judged = λ j y. absurd (none-some j y) }

pub judge-judged-requires : goal.judge-judged-requires
judge-judged-requires c =
    let a = c.args in
    let (h, ix, _, held, many) = c.requires in
    let e = decode_of a.rec.now in
    let at = c.place_at-p.ensures ∙ ap (place_of a.places.now e.tsite.0) c.pair_at-q.ensures in
    let few : a.k ≤ most_sets = rw many (h.few-sets e.tsite e.tseq) in
    let named = c.are_named_last_in-named.ensures a.c.sites h.few-sites h.pass ix in
    let told = box-told a.c a.recs.now h a.places.now ix e held _ at _ _ _ _ _ (named.1 c.if-not-named.false) in (
      few,
      names-told a.c a.recs.now h a.places.now ix e held _ at a.k many _ _ _ _ _ told,
    )

pub returns : goal.returns
returns c =
    let a = c.args in
    let (h, ix, _, held, many) = c.requires in
    let e = decode_of a.rec.now in
    let at = c.place_at-p.ensures ∙ ap (place_of a.places.now e.tsite.0) c.pair_at-q.ensures in
    let on = c.if-not-named.false in
    let named = c.are_named_last_in-named.ensures a.c.sites h.few-sites h.pass ix in
    let told = box-told a.c a.recs.now h a.places.now ix e held _ at _ _ _ _ _ (named.1 on) in
    record {
      named = sym on ∙ named.0;
      judged = λ j y.
          subst (λ (x : Judged). JudgedWhere true (sets_on e.tsite e.tseq (edits_of a.recs.now a.c.records)) e x)
          (same_Some _ j y)
          (judged-told a.c a.recs.now h a.places.now ix e held _ at a.k many _ _ _ _ _ told c.judge-judged.result
          c.judge-judged.ensures);
    }
