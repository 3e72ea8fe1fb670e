-- 1 to 3 from the counters, and 1 to 6 with a survey and what is judged of the edit, are those of the definition, and
-- the answer is the first of them or 7. Assumes nothing.
use mathlib.Core.Path.{◌≡◌, refl, sym, ◌∙◌}
use mathlib.Core.Logic.{inl, inr}
use mathlib.Core.Bool.{Bool, true, false, not, ◌&&◌, ◌||◌, cond}
use mathlib.Core.List.{List, [], ◌∷◌}
use Prim.Native.Nat.{ℕ, ◌<◌}
use native.Mathlib.Omega.{arith}
use lib.ListN.{length}
use lib.Dec.{eqb}
use borrow.Author.Tests.{eqb-true, not-false}
use Rattle.std.specs.Prelude.{Option, Some, None, is_some}
use Rattle.math_lists.specs.SortedLists.{any}
use Rattle.math_lists.proofs.Booleans.{clash, decide, neither}
use Rattle.edit_record.specs.Layout.{most_sites}
use Rattle.edit_record.specs.RecordBytes.{decode_of, span_of}
use Rattle.edit_record.specs.Answer1.{is_set, is_aimed, unfit, malformed}
use Rattle.edit_record.proofs.WellFormed.{well-formed, set-aimed}
use Rattle.edit_record.specs.declared.Edit.{Edit}
use Rattle.edit_history.specs.declared.Held.{Held}
use Rattle.edit_history.specs.declared.Surveyed.{Surveyed}
use Rattle.edit_history.specs.EditsHeld.{is_target}
use Rattle.edit_history.specs.Answers2to5.{is_repeated, is_early, is_torn, is_astray, passes}
use Rattle.edit_history.specs.Answer16.{is_nameless}
use Rattle.edit_history.specs.SurveyForms.{repeated_against, early_against, survey_of, SurveyedOf}
use Rattle.edit_history.proofs.ByCounts.{repeated-against, early-against}
use Rattle.edit_walk.specs.WalkForms.{in_turn_against}
use Rattle.group_limited.specs.declared.Judged.{Judged}
use Rattle.table_drawing.specs.declared.Counters.{Counters}
use Rattle.table_drawing.specs.Tables.{Tables, held_by}
use Rattle.table_soundness.proofs.SoundFacts.{Sound}
use Rattle.table_arrival.specs.Answers6and7.{is_full, is_crowded, first_of, in_turn, answer_to}
use Rattle.table_arrival.specs.ArrivalForms.{full_with, Judges, three_by, surveyed_sets, to_six_by, first_to_six}

-- ---- 1 to 3

none_first : (a b c : Bool) → first_of in_turn (a ∷ b ∷ c ∷ []) ≡ 0 → (a ≡ false) × (b ≡ false) × (c ≡ false)
unfolding first_of
none_first true b c h = absurd (omega arith)
none_first false true c h = absurd (omega arith)
none_first false false true h = absurd (omega arith)
none_first false false false h = (refl, refl, refl)

-- bytes to which 1 is not given are as many as their record has
pub whole-where-formed : (n : ℕ) (b : List ℕ) → malformed n b ≡ false → length b ≡ span_of b
unfolding malformed
whole-where-formed n b m =
    let (w, _) = neither (not (eqb (length b) (span_of b))) (unfit n (decode_of b)) m in
    eqb-true (length b) (span_of b) (not-false (eqb (length b) (span_of b)) w)

-- where none of 1 to 3 applies by the counters, the record is there whole and none of them does
pub none-of-three :
    (c : Counters) (b : List ℕ) → first_of in_turn (three_by c b) ≡ 0 →
    (length b ≡ span_of b) × (in_turn_against c.sites c.held (decode_of b) ≡ true)
unfolding malformed in_turn_against
none-of-three c b h =
    let e = decode_of b in
    let (m, r, y) = none_first (malformed c.sites b) (repeated_against c.held e) (early_against c.held e) h in
    let (_, fit) = neither (not (eqb (length b) (span_of b))) (unfit c.sites e) m in
    (whole-where-formed c.sites b m, rw (fit, r, y))

first-of-three :
    (a b c b' c' d e f g : Bool) → (a ≡ false → b ≡ b') → (a ≡ false → c ≡ c') →
    (first_of in_turn (a ∷ b ∷ c ∷ []) ≡ 0 → ⊥) →
    first_of in_turn (a ∷ b ∷ c ∷ []) ≡ first_of in_turn (a ∷ b' ∷ c' ∷ d ∷ e ∷ f ∷ g ∷ [])
unfolding first_of
first-of-three true b c b' c' d e f g p q h = refl
first-of-three false true c b' c' d e f g p q h = rw (← p refl)
first-of-three false false true b' c' d e f g p q h = rw (← p refl, ← q refl)
first-of-three false false false b' c' d e f g p q h = absurd (h refl)

module _ (t : Tables) (s : Sound t) (b : List ℕ) where
  abbrev e : Edit
  e = decode_of b

  low : malformed t.counters.sites b ≡ false → e.site.0 < most_sites
  unfolding malformed
  low m =
      let (_, fit) = neither (not (eqb (length b) (span_of b))) (unfit t.counters.sites e) m in
      omega (arith, (well-formed t.counters.sites e fit).site, s.few-sites)

  repeated-is :
      malformed t.counters.sites b ≡ false → repeated_against t.counters.held e ≡ is_repeated (held_by t) e
  repeated-is m = repeated-against t.counters.held (held_by t) s.held e (low m)

  early-is : malformed t.counters.sites b ≡ false → early_against t.counters.held e ≡ is_early (held_by t) e
  early-is m = early-against t.counters.held (held_by t) s.held e (low m)

  -- the first of 1 to 3 by the counters is the first of 1 to 6
  pub three-are :
      (first_of in_turn (three_by t.counters b) ≡ 0 → ⊥) →
      first_of in_turn (three_by t.counters b) ≡ first_to_six t b
  unfolding first_to_six
  three-are h =
      first-of-three (malformed t.counters.sites b) (repeated_against t.counters.held e)
      (early_against t.counters.held e) (is_repeated (held_by t) e) (is_early (held_by t) e) (is_torn (held_by t) e)
      (is_astray (held_by t) e) (is_nameless (held_by t) e) (is_full t e) repeated-is early-is h

-- ---- 1 to 6

-- 16 and 6 are looked at only where neither 4 nor 5 applies
first-same :
    (d e f f' g g' : Bool) → ((d || e) ≡ false → f ≡ f') → ((d || e) ≡ false → g ≡ g') →
    first_of in_turn (false ∷ false ∷ false ∷ d ∷ e ∷ f ∷ g ∷ [])
    ≡ first_of in_turn (false ∷ false ∷ false ∷ d ∷ e ∷ f' ∷ g' ∷ [])
unfolding first_of
first-same true e f f' g g' p q = refl
first-same false true f f' g g' p q = refl
first-same false false f f' g g' p q = rw (p refl, q refl)

-- what is asked of a target that is held
held-one : (r : Option Held) → is_some r ≡ true → (h : Held) × (r ≡ Some h)
held-one None y = clash y refl
held-one (Some h) y = (h, refl)

module _
    (t : Tables)
    (s : Sound t)
    (b : List ℕ)
    (three : first_of in_turn (three_by t.counters b) ≡ 0)
    (v : Surveyed)
    (sv : SurveyedOf (held_by t) (decode_of b) v)
    (j : Judged)
    (sj : Judges t.counters.sites (held_by t) (decode_of b) j) where
  abbrev edit : Edit
  edit = decode_of b

  abbrev es : List Edit
  es = held_by t

  none :
      (malformed t.counters.sites b ≡ false)
      × (repeated_against t.counters.held edit ≡ false)
      × (early_against t.counters.held edit ≡ false)
  none =
      none_first (malformed t.counters.sites b) (repeated_against t.counters.held edit)
      (early_against t.counters.held edit) three

  rep : is_repeated es edit ≡ false
  rep = sym (repeated-is t s b none.0) ∙ none.1

  early : is_early es edit ≡ false
  early = sym (early-is t s b none.0) ∙ none.2

  -- none of 1 to 5 applies
  passes_on : (is_torn es edit || is_astray es edit) ≡ false → passes t.counters.sites es edit ≡ true
  unfolding passes malformed
  passes_on h =
      let (_, fit) = neither (not (eqb (length b) (span_of b))) (unfit t.counters.sites edit) none.0 in
      let (torn, astray) = neither (is_torn es edit) (is_astray es edit) h in
      rw (fit, rep, early, torn, astray)

  -- the survey says how many Sets the object of a Set has
  full_is : (is_torn es edit || is_astray es edit) ≡ false →
      full_with t.counters edit.kind (surveyed_sets v) ≡ is_full t edit
  unfolding is_full is_astray survey_of
  full_is h = elim (decide (is_set edit)) [
    | inl set ↦
        let (_, astray) = neither (is_torn es edit) (is_astray es edit) h in
        let held : any (is_target edit) es ≡ true
        = not-false (any (is_target edit) es) (rw (set-aimed edit set) at astray) in
        let (h, is) = held-one v.held (sv.found ∙ held) in
        rw (is, sv.whole h is)
    | inr other ↦ rw other
  ]

  pub to-six-are : first_of in_turn (to_six_by t.counters b v j) ≡ first_to_six t b
  unfolding first_to_six is_astray
  to-six-are =
      rw (none.0, rep, early, sv.torn, sv.found)
      (first-same (is_torn es edit) (is_aimed edit && not (any (is_target edit) es)) j.nameless (is_nameless es edit)
      (full_with t.counters edit.kind (surveyed_sets v)) (is_full t edit)
      (λ h. sj.nameless (passes_on (unfold is_astray in h)))
      (λ h. full_is (unfold is_astray in h)))

-- ---- the answer

or-seven :
    (a b c d e f g h : Bool) →
    first_of in_turn (a ∷ b ∷ c ∷ d ∷ e ∷ f ∷ g ∷ h ∷ [])
    ≡ cond (eqb (first_of in_turn (a ∷ b ∷ c ∷ d ∷ e ∷ f ∷ g ∷ [])) 0) (cond h 7 0)
    (first_of in_turn (a ∷ b ∷ c ∷ d ∷ e ∷ f ∷ g ∷ []))
unfolding first_of
or-seven true b c d e f g h = refl
or-seven false true c d e f g h = refl
or-seven false false true d e f g h = refl
or-seven false false false true e f g h = refl
or-seven false false false false true f g h = refl
or-seven false false false false false true g h = refl
or-seven false false false false false false true h = refl
or-seven false false false false false false false true = refl
or-seven false false false false false false false false = refl

pub answer-is :
    (t : Tables) (b : List ℕ) →
    answer_to t b ≡ cond (eqb (first_to_six t b) 0) (cond (is_crowded t (decode_of b)) 7 0) (first_to_six t b)
unfolding answer_to first_to_six
answer-is t b =
    let e = decode_of b in
    let es = held_by t in
    or-seven (malformed t.counters.sites b) (is_repeated es e) (is_early es e) (is_torn es e) (is_astray es e)
    (is_nameless es e)
    (is_full t e)
    (is_crowded t e)
