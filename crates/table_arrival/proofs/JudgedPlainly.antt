-- What is judged of an edit where no Set of its object is limited and it is not: document 01's conflicts are all that
-- there are. Where its object is not held, nothing is judged of it. Assumes nothing.
use mathlib.Core.Path.{◌≡◌, refl, sym, subst, ◌∙◌}
use mathlib.Core.Bool.{Bool, true, false}
use mathlib.Core.List.{List}
use Prim.Native.Nat.{ℕ, ◌<◌}
use lib.ListN.{length, get_or}
use Rattle.std.specs.Prelude.{Option, Some, None, is_some, IfSome}
use Rattle.std.proofs.lemmas.Option.{none-some, same_Some}
use Rattle.math_lists.specs.SortedLists.{any}
use Rattle.math_lists.proofs.Booleans.{clash, off}
use Rattle.math_lists.proofs.ByPlaces.{any-place-on}
use Rattle.edit_record.specs.declared.Edit.{Edit}
use Rattle.edit_record.specs.RecordBytes.{no_edit}
use Rattle.edit_record.specs.Answer1.{is_limited}
use Rattle.edit_causal.proofs.PlainMarks.{marks-are-all}
use Rattle.edit_history.specs.declared.Held.{Held}
use Rattle.edit_history.specs.EditsHeld.{edits_of, sets_on}
use Rattle.edit_history.specs.Answer16.{records_named}
use Rattle.edit_history.specs.SurveyForms.{survey_of}
use Rattle.group_true.proofs.ProperSets.{plain-named}
use Rattle.group_limited.specs.declared.Judged.{Judged}
use Rattle.group_limited.specs.LimitedForms.{JudgedWhere}
use Rattle.table_arrival.specs.ArrivalForms.{TestedFor}

module _ (es : List Edit) (e : Edit) where
  abbrev ms : List Edit
  ms = sets_on e.tsite e.tseq es

  -- where its object is held
  pub judged-plainly :
      (h : Held) → h ≡ survey_of es e → is_limited e ≡ false → h.limited ≡ false →
      JudgedWhere true ms e (record { nameless = false; conflicts = h.plain })
  unfolding survey_of
  judged-plainly h is own others = record {
    nameless = λ asked proper lawful. sym (plain-named ms e own);
    conflicts = λ found proper lawful named.
        let none : any is_limited ms ≡ false = rw is at others in
        let each : (i : ℕ) → i < length ms → is_limited (get_or ms i no_edit) ≡ false
        = λ i l. off (is_limited (get_or ms i no_edit)) (λ y. clash (any-place-on is_limited no_edit ms i l y) none) in
        rw is (sym (marks-are-all e ms each own));
  }

  -- where it is not
  pub judged-of-none : (m : ℕ) → JudgedWhere false ms e (record { nameless = false; conflicts = m })
  judged-of-none m = record {
    nameless = λ asked proper lawful. sym (plain-named ms e (off (is_limited e) (λ y. clash (asked y) refl)));
    conflicts = λ found. clash found refl;
  }

-- so the same is tested, where 16 is given to no record held
pub tested-plainly :
    (found : Bool) (rs : List ℕ) (n : ℕ) (e : Edit) (m : ℕ) (r : Option Judged) → is_some r ≡ records_named rs n →
    IfSome r (λ j. (j.nameless ≡ false) × (j.conflicts ≡ m)) →
    JudgedWhere found (sets_on e.tsite e.tseq (edits_of rs n)) e (record { nameless = false; conflicts = m }) →
    TestedFor found rs n e r
tested-plainly found rs n e m None named h of = record { named = named; judged = λ j y. absurd (none-some j y) }
tested-plainly found rs n e m (Some k) named (off, marks) of = record {
  named = named;
  judged = λ j y.
      subst (λ (x : Judged). JudgedWhere found (sets_on e.tsite e.tseq (edits_of rs n)) e x) (same_Some k j y)
      (record {
        nameless = λ asked proper lawful. off ∙ of.nameless asked proper lawful;
        conflicts = λ f proper lawful z. marks ∙ of.conflicts f proper lawful refl;
      });
}
