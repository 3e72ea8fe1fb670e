-- `edit_walk::is_passing` meets its contract. Assumes nothing.
use mathlib.Core.Path.{◌≡◌, sym, ap, ◌∙◌}
use mathlib.Core.Bool.{Bool, true, false, not, ◌||◌}
use mathlib.Core.List.{List}
use Prim.Native.Nat.{ℕ}
use borrow.Author.Tests.{not-true, not-false}
use Rattle.edit_record.specs.declared.Edit.{Edit}
use Rattle.edit_record.specs.RecordBytes.{decode_of}
use Rattle.edit_record.specs.Answer1.{is_aimed, unfit}
use Rattle.edit_history.specs.SurveyForms.{repeated_against, early_against}
use Rattle.math_lists.proofs.Booleans.{not-not}
use Rattle.edit_walk.specs.WalkForms.{torn_by_news, target_held, in_turn_against, passes_against}
use Rattle.edit_walk.proofs.is_passing.Goals as goal

-- one of 1 to 3 applies, or none of them does, by the test of all three
on : (n : ℕ) (held : List ℕ) (e : Edit) (r : Bool) → r ≡ in_turn_against n held e → not r ≡ true →
    (unfit n e || repeated_against held e || early_against held e) ≡ true
unfolding in_turn_against
on n held e r is h =
    not-false (unfit n e || repeated_against held e || early_against held e) (sym is ∙ not-true r h)

none : (n : ℕ) (held : List ℕ) (e : Edit) (r : Bool) → r ≡ in_turn_against n held e → not r ≡ false →
    (unfit n e || repeated_against held e || early_against held e) ≡ false
unfolding in_turn_against
none n held e r is h =
    not-true (unfit n e || repeated_against held e || early_against held e) (sym is ∙ not-false r h)

pub returns-then-not-is_in_turn : goal.returns-then-not-is_in_turn
unfolding passes_against
returns-then-not-is_in_turn c =
    let a = c.args in
    let i = c.is_in_turn in
    rw (on a.sites a.held.now (decode_of a.rec.now) i.result i.ensures c.if-not-is_in_turn.true-raw)

pub returns-then-is_torn_by_news : goal.returns-then-is_torn_by_news
unfolding passes_against
returns-then-is_torn_by_news c =
    let z = c in
    let a = z.args in
    let e = decode_of a.rec.now in
    let i = z.is_in_turn in
    let t : torn_by_news a.recs.now a.places.now e.vector e.site ≡ true
    = ap (λ (v : List ℕ). torn_by_news a.recs.now a.places.now v e.site)
    (sym c.vector_of-v.ensures)
    ∙ sym c.is_torn_by_news.ensures
    ∙ c.if-is_torn_by_news.true in
    rw (none a.sites a.held.now e i.result i.ensures z.if-not-is_in_turn.false-raw, t)

pub returns-then-is_aimed_kind : goal.returns-then-is_aimed_kind
unfolding passes_against
returns-then-is_aimed_kind c =
    let y = c in
    let z = y in
    let a = z.args in
    let e = decode_of a.rec.now in
    let i = z.is_in_turn in
    let t : torn_by_news a.recs.now a.places.now e.vector e.site ≡ false
    = ap (λ (v : List ℕ). torn_by_news a.recs.now a.places.now v e.site)
    (sym y.vector_of-v.ensures)
    ∙ sym y.is_torn_by_news.ensures
    ∙ y.if-is_torn_by_news.false in
    let s : is_aimed e ≡ true = sym c.is_aimed_kind.ensures ∙ c.if-is_aimed_kind.true in
    rw (none a.sites a.held.now e i.result i.ensures z.if-not-is_in_turn.false-raw, t, s, c.is_target_held.ensures)
    (not-not (target_held a.held.now a.recs.now a.places.now e))

pub returns : goal.returns
unfolding passes_against
returns c =
    let y = c in
    let z = y in
    let a = z.args in
    let e = decode_of a.rec.now in
    let i = z.is_in_turn in
    let t : torn_by_news a.recs.now a.places.now e.vector e.site ≡ false
    = ap (λ (v : List ℕ). torn_by_news a.recs.now a.places.now v e.site)
    (sym y.vector_of-v.ensures)
    ∙ sym y.is_torn_by_news.ensures
    ∙ y.if-is_torn_by_news.false in
    let s : is_aimed e ≡ false = sym c.is_aimed_kind.ensures ∙ c.if-is_aimed_kind.false in
    rw (none a.sites a.held.now e i.result i.ensures z.if-not-is_in_turn.false-raw, t, s)
