-- `table_index::plain::look` meets its contract. Assumes nothing.
use mathlib.Core.Path.{◌≡◌, sym, refl, ◌∙◌}
use mathlib.Core.Bool.{true}
use Rattle.math_lists.proofs.Booleans.{clash}
use Rattle.edit_record.specs.RecordBytes.{decode_of}
use Rattle.edit_record.specs.Answer1.{is_set}
use Rattle.edit_record.proofs.WellFormed.{set-not-create}
use Rattle.edit_history.specs.EditsHeld.{edits_of}
use Rattle.edit_history.specs.Answers2to5.{passes}
use Rattle.edit_walk.proofs.NewsDecide.{news-decide}
use Rattle.table_index.specs.IndexForms.{counters_of}
use Rattle.table_index.proofs.LookByIndex.{turn-of, target-of, create-room-of}
use Rattle.std.proofs.Common.{Option, Some, None, IfSome}
use Rattle.table_index.specs.declared.Looked.{Looked}
use Rattle.table_index.proofs.plain.look.Goals as goal
use Rattle.table_index.proofs.plain.look.Goals.{After-is_passing_with}

-- the edit passes
passed :
    (c : After-is_passing_with) → c.is_passing_with.result ≡ true →
    (let s = c in passes s.args.sites (edits_of s.args.recs.now s.args.n) (decode_of c.args.rec.now) ≡ true)
passed c ok =
    let s = c in
    let a = s.args in
    let h = s.requires.0 in
    sym
    (news-decide a.sites h.few-sites a.recs.now a.n h.pass a.ix.now.places s.requires.2.indexed
    a.held.now s.requires.4 h.held (decode_of c.args.rec.now))
    ∙ sym c.is_passing_with.ensures
    ∙ ok

-- what is found, and so more is known of it
found-so : {P Q : Looked → Type 0} (r : Option Looked) → ((x : Looked) → P x → Q x) → IfSome r P → IfSome r Q
found-so None f h = h
found-so (Some x) f h = f x h

pub look_at_set-requires : goal.look_at_set-requires
look_at_set-requires c =
    let k = c in
    let c3 = k in
    let s = c in
    let a = s.args in
    let e = decode_of c.args.rec.now in
    let ok = k.if-not-is_passing_with.false in
    let set : is_set e ≡ true = sym k.is_set_kind.ensures ∙ c.if-is_set_kind.true in (
      (
        counters_of a.sites a.n a.m a.held.now 0,
        s.requires.0,
        refl,
        turn-of a.sites a.held.now a.recs.now a.ix.now.places e
            (sym c3.is_passing_with.ensures ∙ ok),
        c3.is_all_seen-all.ensures,
      ),
      s.requires.1,
      s.requires.2,
      s.requires.3,
      set,
      target-of a.sites (edits_of a.recs.now a.n) e (passed (goal.at.look_at_set-requires c).After-is_passing_with ok) set,
    )

pub returns-then-is_set_kind : goal.returns-then-is_set_kind
returns-then-is_set_kind c =
    let e = decode_of c.args.rec.now in
    let set : is_set e ≡ true = sym c.is_set_kind.ensures ∙ c.if-is_set_kind.true in
    found-so c.look_at_set.result
    (λ r met. record {
      pass = passed (goal.at.returns-then-is_set_kind c).After-is_passing_with c.if-not-is_passing_with.false;
      create-room = λ y. clash y (set-not-create e set);
      set = λ y. met;
      no_other = λ y. set;
    })
    c.look_at_set.ensures

pub returns-then-kind-m : goal.returns-then-kind-m
returns-then-kind-m c = record {
  pass = passed (goal.at.returns-then-kind-m c).After-is_passing_with c.if-not-is_passing_with.false;
  create-room = create-room-of (decode_of c.args.rec.now) c.args.m c.if-kind-m.true;
  set = λ y. clash y (sym c.is_set_kind.ensures ∙ c.if-is_set_kind.false);
  no_other = λ y. clash y c.no_set.ensures;
}
