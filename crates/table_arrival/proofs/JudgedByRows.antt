-- What is judged by the rows of the box of an edit e whose target is held, and stands in place p by the index. Assumes
-- nothing.
use mathlib.Core.Path.{◌≡◌, refl, sym, ap, ap₂, subst, ◌∙◌}
use mathlib.Core.Bool.{Bool, true}
use mathlib.Core.List.{List}
use Prim.Native.Nat.{ℕ, ◌<◌}
use lib.ListN.{length}
use Rattle.std.specs.Prelude.{Option, Some, is_some}
use Rattle.math_lists.specs.SortedLists.{any}
use Rattle.edit_record.specs.declared.Site.{Site}
use Rattle.edit_record.specs.declared.Seq.{Seq}
use Rattle.edit_record.specs.declared.Edit.{Edit}
use Rattle.edit_causal.proofs.Identities.{same-site, same-seq}
use Rattle.edit_history.specs.declared.Held.{Held}
use Rattle.edit_history.specs.declared.Surveyed.{Surveyed}
use Rattle.edit_history.specs.SurveyForms.{survey_of, SurveyedOf}
use Rattle.edit_history.specs.EditsHeld.{record_at, edits_of, sets_on, is_target}
use Rattle.edit_history.proofs.EditsHeld.{Target, target-parts}
use Rattle.edit_walk.specs.WalkForms.{place_of, Indexed}
use Rattle.group_limited.specs.declared.Judged.{Judged}
use Rattle.group_limited.specs.LimitedForms.{RowsTell, JudgedOf, JudgedWhere}
use Rattle.group_sight.specs.SightForms.{sets_in, NamesIn, SeesTell}
use Rattle.group_named.specs.NamedForms.{SetsTold, BoxTold}
use Rattle.table_drawing.specs.declared.Counters.{Counters}
use Rattle.table_index.specs.IndexForms.{Holds}
use Rattle.table_index.proofs.SurveyByIndex.{target-placed}
use Rattle.table_arrival.specs.ArrivalForms.{TestedFor}

module _ (c : Counters) (rs : List ℕ) (h : Holds c rs) (ps : List ℕ) (ix : Indexed rs c.records ps) (e : Edit)
    (held : any (is_target e) (edits_of rs c.records) ≡ true) (p : ℕ)
    (at : p ≡ place_of ps e.tsite.0 e.tseq.0) where
  abbrev mates : List Edit
  mates = sets_on e.tsite e.tseq (edits_of rs c.records)

  pub box-below : p < c.records
  box-below = rw at (target-placed c rs h ps ix e held).0

  parts : Target e (record_at rs p)
  parts = target-parts e (record_at rs p) (rw at (target-placed c rs h ps ix e held).1)

  pub box-told :
      (ms ns plains cs sees : List ℕ) → BoxTold rs c.records p ms ns plains cs sees →
      SetsTold rs mates ms ns plains cs sees
  box-told ms ns plains cs sees told =
      let a = record_at rs p in
      subst (λ (xs : List Edit). SetsTold rs xs ms ns plains cs sees)
      (ap₂ (λ (u : Site) (v : Seq). sets_on u v (edits_of rs c.records))
      (same-site a.site e.tsite parts.site) (same-seq a.seq e.tseq parts.seq))
      (told parts.create)

  module _ (k : ℕ) (many : k ≡ length mates) (ms ns plains cs sees : List ℕ)
      (told : SetsTold rs mates ms ns plains cs sees) where
    pub names-told : NamesIn rs ms k ns
    names-told = rw many told.names

    same : sets_in rs ms k ≡ mates
    same = rw many told.sets

    pub judged-told :
        (j : Judged) →
        (RowsTell (sets_in rs ms k) plains cs → SeesTell (sets_in rs ms k) sees → JudgedOf (sets_in rs ms k) e j) →
        JudgedWhere true mates e j
    judged-told j of =
        let judged = subst (λ (xs : List Edit). JudgedOf xs e j) same
        (of (rw same told.rows) (rw same told.seen)) in
        record { nameless = λ asked. judged.nameless; conflicts = λ found. judged.conflicts }

-- ---- by the survey of the edit

module _ (es : List Edit) (e : Edit) (v : Surveyed) (sv : SurveyedOf es e v) (h : Held) (is : v.held ≡ Some h) where
  pub target-held : any (is_target e) es ≡ true
  target-held = sym sv.found ∙ ap is_some is

  pub sets-counted : h.sets ≡ length (sets_on e.tsite e.tseq es)
  unfolding survey_of
  sets-counted = ap (λ (x : Held). x.sets) (sv.whole h is)

-- what is tested where the target is held is tested in any case
pub where_found :
    (found : Bool) (rs : List ℕ) (n : ℕ) (e : Edit) (r : Option Judged) → TestedFor true rs n e r → TestedFor found rs n e r
where_found found rs n e r t = record {
  named = t.named;
  judged = λ j h.
      record { nameless = λ asked. (t.judged j h).nameless (λ y. refl); conflicts = λ y. (t.judged j h).conflicts refl };
}
