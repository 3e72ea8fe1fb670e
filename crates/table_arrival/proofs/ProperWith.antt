-- The Sets of an object at sound tables are proper, and with an arriving edit too, if none of 1 to 5 and 16 is given to
-- it; so what the code judges of an edit is what the definitions say of it. Assumes nothing.
use mathlib.Core.Path.{◌≡◌, subst, ◌∙◌}
use mathlib.Core.Bool.{Bool, true, false}
use mathlib.Core.List.{[], ◌∷◌, ◌++◌}
use Prim.Native.Nat.{suc}
use native.Mathlib.Omega.{arith}
use lib.ListN.{length, length-append}
use Rattle.math_lists.specs.SortedLists.{any}
use Rattle.math_contexts.specs.Box.{Lawful}
use Rattle.edit_record.specs.declared.Site.{Site}
use Rattle.edit_record.specs.declared.Seq.{Seq}
use Rattle.edit_record.specs.declared.Edit.{Edit}
use Rattle.edit_record.specs.Answer1.{is_set}
use Rattle.edit_record.proofs.WellFormed.{set-aimed, limited-set}
use Rattle.edit_causal.specs.Conflict.{box_on}
use Rattle.edit_causal.specs.ConflictForms.{NoneItself, Proper}
use Rattle.edit_causal.proofs.ConflictsAmongSets.{none-itself}
use Rattle.edit_history.specs.EditsHeld.{sets_on, is_target}
use Rattle.edit_history.specs.Answers2to5.{passes}
use Rattle.edit_history.specs.Answer16.{is_nameless}
use Rattle.edit_history.proofs.RecordsPassed.{passed}
use Rattle.group_limited.specs.declared.Judged.{Judged}
use Rattle.group_limited.specs.LimitedForms.{JudgedWhere}
use Rattle.group_true.proofs.ProperSets.{Orderly, orderly-table, lawful-after, orderly-more}
use Rattle.group_true.proofs.TrueGroups.{sets_more}
use Rattle.table_drawing.specs.Tables.{Tables, held_by}
use Rattle.table_soundness.proofs.SoundFacts.{Sound}
use Rattle.table_arrival.specs.Answers6and7.{mates_of}
use Rattle.table_arrival.specs.ArrivalForms.{Judges}

module _ (t : Tables) (s : Sound t) where
  held-orderly : Orderly (held_by t)
  held-orderly =
      orderly-table t.counters.sites s.few-sites t.records t.counters.records s.pass s.named

  pub proper-held : (x : Site) (q : Seq) → Proper (sets_on x q (held_by t))
  proper-held = held-orderly.boxes

  module _ (e : Edit) (pass : passes t.counters.sites (held_by t) e ≡ true) where
    -- having seen goes through to the edit
    lawful-with : Lawful (box_on (mates_of t e ++ (e ∷ []))) (suc (length (mates_of t e)))
    lawful-with =
        subst (Lawful (box_on (mates_of t e ++ (e ∷ [])))) (omega (arith, length-append (mates_of t e) (e ∷ [])))
        (lawful-after t.counters.sites s.few-sites (held_by t) e held-orderly pass e.tsite e.tseq)

    pub proper-with : is_nameless (held_by t) e ≡ false → is_set e ≡ true → Proper (mates_of t e ++ (e ∷ []))
    proper-with named k =
        subst Proper (sets_more (held_by t) e k)
        ((orderly-more t.counters.sites s.few-sites (held_by t) e held-orderly pass named).boxes e.tsite
        e.tseq)

    pub none-itself-with : is_nameless (held_by t) e ≡ false → is_set e ≡ true → NoneItself (mates_of t e ++ (e ∷ []))
    none-itself-with named k = none-itself (mates_of t e ++ (e ∷ [])) (proper-with named k)

  -- what is judged by the Sets of the edit's object is judged of the edit
  pub judges :
      (e : Edit) (j : Judged) (found : Bool) → found ≡ any (is_target e) (held_by t) →
      JudgedWhere found (mates_of t e) e j → Judges t.counters.sites (held_by t) e j
  judges e j found is of =
      record {
        nameless = λ pass.
            of.nameless
            (λ y. is
            ∙ (passed t.counters.sites (held_by t) e pass).aimed (set-aimed e (limited-set e y)))
            (proper-held e.tsite e.tseq) (lawful-with e pass);
        conflicts = λ held pass. of.conflicts (is ∙ held) (proper-held e.tsite e.tseq) (lawful-with e pass);
      }
