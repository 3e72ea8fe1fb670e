-- A Set that is judged by what is kept of its box: what the look found of it is its survey, and where it names a
-- version none of 1 to 6 is given to it. Assumes nothing.
use mathlib.Core.Path.{◌≡◌, refl, sym, ◌∙◌}
use mathlib.Core.Bool.{Bool, true, false, ◌&&◌, ◌||◌}
use mathlib.Core.List.{List, [], ◌∷◌, ◌++◌}
use mathlib.Core.Logic.{inl, inr}
use Prim.Native.Nat.{ℕ}
use lib.Dec.{eqb, leb}
use lib.ListN.{length}
use borrow.Author.Tests.{eq-eqb, lt-leb, not-true}
use Rattle.std.specs.Prelude.{Option, Some, None, MatchOption}
use Rattle.std.proofs.lemmas.Option.{same_Some}
use Rattle.math_lists.specs.SortedLists.{any}
use Rattle.math_lists.proofs.Booleans.{clash, either, neither, or_right, off-where}
use Rattle.edit_record.specs.declared.Edit.{Edit}
use Rattle.edit_record.specs.Layout.{set_kind}
use Rattle.edit_record.specs.RecordBytes.{decode_of, span_of}
use Rattle.edit_record.specs.Answer1.{is_create, is_set, is_limited, malformed, unfit}
use Rattle.edit_record.proofs.WellFormed.{set-not-create}
use Rattle.edit_history.specs.declared.Held.{Held}
use Rattle.edit_history.specs.declared.Surveyed.{Surveyed}
use Rattle.edit_history.specs.SurveyForms.{survey_of, SurveyedOf}
use Rattle.edit_history.specs.EditsHeld.{most_records, edits_of, sets_on, is_target}
use Rattle.edit_history.specs.Answers2to5.{is_repeated, is_early, is_torn, is_astray, passes}
use Rattle.group_step.specs.GroupRows.{most_objects, most_sets}
use Rattle.group_limited.specs.declared.Judged.{Judged}
use Rattle.group_limited.specs.LimitedForms.{JudgedWhere}
use Rattle.table_drawing.specs.Tables.{Tables, tables_of}
use Rattle.table_soundness.proofs.SoundFacts.{Sound, sound-at}
use Rattle.table_index.specs.IndexForms.{counters_of, MetOf, PassedOf}
use Rattle.table_index.specs.declared.Looked.{Looked}
use Rattle.table_index.proofs.LookByIndex.{target-of}
use Rattle.table_arrival.specs.Answers6and7.{is_full, first_of, in_turn}
use Rattle.table_arrival.specs.ArrivalForms.{first_to_six}
use Rattle.table_arrival.proofs.CodeInHand.{holds}
use Rattle.table_arrival.proofs.ProperWith.{judges}
use Rattle.table_kept.specs.BoxForms.{KeptFor}
use Rattle.table_kept.specs.ChainForms.{IndexedIn}
use Rattle.table_kept.proofs.KeptAlong.{kept_more}
use Rattle.table_plain.specs.declared.Took.{Took}
use Rattle.table_plain.specs.TakingForms.{TakesShort, JudgedBy}

none-of-seven :
    {a b c d e f g : Bool} → a ≡ false → b ≡ false → c ≡ false → d ≡ false → e ≡ false → f ≡ false → g ≡ false →
    first_of in_turn (a ∷ b ∷ c ∷ d ∷ e ∷ f ∷ g ∷ []) ≡ 0
unfolding first_of
none-of-seven p q r s t u v = rw (p, q, r, s, t, u, v)

module _
    (sites n m sum : ℕ)
    (held rs os gs ps ns cs hs b : List ℕ)
    (p : TakesShort (tables_of (counters_of sites n m held sum) rs os gs) ps ns cs hs b)
    (r : Looked)
    (f : PassedOf sites n m rs ps ns cs (decode_of b) r)
    (k : is_set (decode_of b) ≡ true) where
  abbrev t : Tables
  t = tables_of (counters_of sites n m held sum) rs os gs

  abbrev e : Edit
  e = decode_of b

  abbrev es : List Edit
  es = edits_of rs n

  abbrev s : Sound t
  s = sound-at t p.takes.is_sound

  abbrev met : MetOf rs n ps ns cs e r
  met = f.set k

  -- ---- what was found is its survey

  abbrev asked : Held
  asked = record { object = r.object; sets = r.sets; plain = r.conflicts; limited = r.limited }

  abbrev pub survey : Surveyed
  survey = record { torn = false; held = Some asked }

  target : any (is_target e) es ≡ true
  target = target-of sites es e f.pass k

  -- none of 1 to 5
  passed :
      (unfit sites e ≡ false) × (is_repeated es e ≡ false) × (is_early es e ≡ false) × (is_torn es e ≡ false)
      × (is_astray es e ≡ false)
  unfolding passes
  passed =
      let u = unfit sites e in
      let a = is_repeated es e in
      let y = is_early es e in
      let z = is_torn es e in
      let w = is_astray es e in
      let (uayz, astray) = neither (u || a || y || z) w (not-true (u || a || y || z || w) f.pass) in
      let (uay, torn) = neither (u || a || y) z uayz in
      let (ua, early) = neither (u || a) y uay in
      let (fit, repeated) = neither u a ua in
      (fit, repeated, early, torn, astray)

  asked-so : asked ≡ survey_of es e
  unfolding survey_of
  asked-so = rw (met.object, met.sets, met.conflicts, met.limited)

  pub surveyed-so : SurveyedOf es e survey
  surveyed-so =
      let (_, _, _, torn, _) = passed in
      record { torn = sym torn; found = sym target; whole = λ h y. sym (same_Some asked h y) ∙ asked-so }

  pub indexed-so : IndexedIn rs n ps ns hs
  indexed-so =
      record {
        counters = t.counters;
        counts = cs;
        holds = holds t p.takes.is_sound;
        all = refl;
        index = p.takes.index;
      }

  -- ---- where it names a version

  module _
      (j : Judged)
      (of : JudgedWhere true (sets_on e.tsite e.tseq es) e j)
      (named : j.nameless ≡ false) where
    not_full : is_full t e ≡ false
    unfolding is_full
    not_full =
        let create : (is_create e && leb most_objects m) ≡ false
        = off-where (is_create e) _ (λ y. clash y (set-not-create e k)) in
        let set : (is_set e && leb most_sets (length (sets_on e.tsite e.tseq es))) ≡ false
        = off-where (is_set e) _ (λ y. lt-leb most_sets (length (sets_on e.tsite e.tseq es)) (rw met.sets at
        met.room)) in
        rw (lt-leb most_records n p.few, create, set)

    formed : unfit sites e ≡ false → malformed sites b ≡ false
    unfolding malformed
    formed fit = rw (eq-eqb (length b) (span_of b) p.whole, fit)

    none-of-six : first_to_six t b ≡ 0
    unfolding first_to_six
    none-of-six =
        let (fit, repeated, early, torn, astray) = passed in
        let nameless = (judges t s e j true (sym target) of).nameless f.pass in
        none-of-seven (formed fit) repeated early torn astray (sym nameless ∙ named) not_full

    pub judged-so :
        JudgedBy t ps ns cs b
        (record {
          limited = r.limited;
          object = r.object;
          sets = r.sets;
          conflicts = j.conflicts;
        })
    judged-so =
        record {
          asked = asked;
          judged = j;
          ready =
              record {
                is_sound = p.takes.is_sound;
                surveyed = asked-so;
                judged = of;
                rows = λ y. p.takes.apart;
                passes = none-of-six;
                set = k;
              };
          surveyed = (refl, refl);
          conflicts = refl;
          held = target;
          own = met.object;
          number = met.number;
          count = met.count;
        }

-- ---- which way a record goes

-- one that is judged is a Set
pub set-where :
    (sites n m : ℕ) (rs ps ns cs : List ℕ) (e : Edit) (r : Looked) → PassedOf sites n m rs ps ns cs e r →
    (r.limited || is_limited e) ≡ true → is_set e ≡ true
set-where sites n m rs ps ns cs e r f h = elim (either r.limited (is_limited e) h) [
  | inl y ↦ f.no_other y
  | inr y ↦ or_right (eqb e.kind set_kind) (is_limited e) y
]

-- what is kept tells of no record more, whether it was taken or not
pub kept_either :
    (r : Option Took) (es : List Edit) (e : Edit) (ns rows : List ℕ) → KeptFor es ns rows →
    MatchOption r (KeptFor es ns rows) (λ k. KeptFor (es ++ (e ∷ [])) ns rows)
kept_either None es e ns rows h = h
kept_either (Some k) es e ns rows h = kept_more es e ns rows h
