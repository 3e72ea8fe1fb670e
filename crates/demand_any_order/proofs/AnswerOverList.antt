-- The answer at a faithful drawing is the answer over the list of the edits that it holds, and after an accepted edit
-- it holds that one too. Assumes nothing.
use mathlib.Core.Path.{◌≡◌, refl, ap, ap₂, ◌∙◌}
use mathlib.Core.Logic.{inl, inr}
use mathlib.Core.Bool.{Bool, true, false, not, ◌||◌}
use mathlib.Core.List.{List, [], ◌∷◌, ◌++◌}
use Prim.Native.Nat.{ℕ}
use lib.ListN.{length}
use lib.Dec.{ltb}
use borrow.Author.Tests.{eq-eqb}
use Rattle.math_lists.proofs.Booleans.{decide, neither}
use Rattle.edit_record.specs.declared.Edit.{Edit}
use Rattle.edit_record.specs.RecordBytes.{decode_of, span_of}
use Rattle.edit_record.specs.Answer1.{is_set, unfit, malformed}
use Rattle.edit_record.proofs.WellFormed.{set-aimed}
use Rattle.edit_history.specs.EditsHeld.{record_at, edits_of, object_of}
use Rattle.edit_history.specs.Answers2to5.{is_repeated, is_early, is_torn, is_astray, passes}
use Rattle.edit_history.specs.Answer16.{is_nameless}
use Rattle.edit_history.proofs.RecordsPassed.{passed}
use Rattle.edit_history.proofs.EditsHeld.{edits-length}
use Rattle.group_step.specs.GroupRows.{most_groups}
use Rattle.table_drawing.specs.Tables.{Tables, held_by, place_at}
use Rattle.table_arrival.specs.Answers6and7.{is_full, is_crowded, first_of, in_turn, answer_to}
use Rattle.table_arrival.specs.Arrival.{taken}
use Rattle.table_arrival.proofs.Admitted.{accepted, taken-records}
use Rattle.table_arrival.proofs.UntouchedSound.{held_after}
use Rattle.table_arrival.proofs.ObjectOfSet.{target-site, target-seq}
use Rattle.table_arrival.proofs.Faithful.{Faithful}
use Rattle.table_arrival.proofs.ProperWith.{none-itself-with}
use Rattle.table_arrival.proofs.RefusedForReason.{crowded-exactly}
use Rattle.demand_any_order.specs.Settled.{full_over, crowded_over, list_answer}
use Rattle.demand_any_order.specs.Settled as settled
use Rattle.group_true.proofs.Identities.{one-object}

-- 7 is looked at only where none of those before it applies
first-same :
    (a b c d e f g h a' g' h' : Bool) → a ≡ a' → g ≡ g' → ((a' || b || c || d || e || f) ≡ false → h ≡ h') →
    first_of in_turn (a ∷ b ∷ c ∷ d ∷ e ∷ f ∷ g ∷ h ∷ []) ≡ first_of in_turn (a' ∷ b ∷ c ∷ d ∷ e ∷ f ∷ g' ∷ h' ∷ [])
unfolding first_of
first-same a b c d e f g h a' g' h' p q r = rw (p, q) (go a' b c d e f r)
  where
    go : (a b c d e f : Bool) → ((a || b || c || d || e || f) ≡ false → h ≡ h') →
        first_of in_turn (a ∷ b ∷ c ∷ d ∷ e ∷ f ∷ g' ∷ h ∷ []) ≡ first_of in_turn (a ∷ b ∷ c ∷ d ∷ e ∷ f ∷ g' ∷ h' ∷ [])
    go true b c d e f r = refl
    go false true c d e f r = refl
    go false false true d e f r = refl
    go false false false true e f r = refl
    go false false false false true f r = refl
    go false false false false false true r = refl
    go false false false false false false r = rw (r refl)

module _ (t : Tables) (f : Faithful t) where
  -- ---- the answer

  full-over : (e : Edit) → is_full t e ≡ full_over (held_by t) e
  unfolding is_full full_over
  full-over e = rw (edits-length t.records t.counters.records, f.kept.is_sound.objects)

  crowded-over :
      (e : Edit) → passes t.counters.sites (held_by t) e ≡ true → is_nameless (held_by t) e ≡ false →
      is_crowded t e ≡ crowded_over (held_by t) e
  crowded-over e pass named = elim (decide (is_set e)) [
    | inl k ↦
        (let s = f.kept.is_sound in
        let aim = (passed t.counters.sites (held_by t) e pass).aimed (set-aimed e k) in
        let c = record_at t.records (place_at t.objects (object_of e (held_by t))) in
        crowded-exactly t f e k aim (none-itself-with t s e pass named k)
        ∙ ap (λ (gs : List ℕ). ltb most_groups (length gs))
        (one-object (held_by t ++ (e ∷ [])) c (settled.named e) (target-site t s e aim) (target-seq t s e aim))
        ∙ (unfold crowded_over in rw k))
    | inr k ↦ (unfold is_crowded crowded_over in rw k)
  ]

  pub answer-over-list :
      (b : List ℕ) → length b ≡ span_of b → answer_to t b ≡ list_answer t.counters.sites (held_by t) (decode_of b)
  unfolding answer_to list_answer
  answer-over-list b w =
      let e = decode_of b in
      let es = held_by t in
      let n = t.counters.sites in
      first-same (malformed n b) (is_repeated es e) (is_early es e) (is_torn es e) (is_astray es e) (is_nameless es e)
      (is_full t e) (is_crowded t e) (unfit n e) (full_over es e) (crowded_over es e)
      (unfold malformed in rw (eq-eqb (length b) (span_of b) w)) (full-over e)
      (λ h.
      let none = unfit n e || is_repeated es e || is_early es e || is_torn es e || is_astray es e in
      let (p, named) = neither none (is_nameless es e) h in
      crowded-over e (unfold passes in ap not p) named)

  -- ---- after an accepted edit

  pub taken-holds : (b : List ℕ) → answer_to t b ≡ 0 → held_by (taken t b) ≡ held_by t ++ (decode_of b ∷ [])
  taken-holds b h =
      let (records, count, _) = taken-records t b in
      ap₂ edits_of records count ∙ held_after t b f.kept.is_sound f.kept.wide (accepted t b h).admitted
