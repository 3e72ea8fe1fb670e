-- A replay of records refuses none of them exactly when each is of the right length and each edit is answered 0 over
-- the list of those before it. Assumes 1 to 16 sites.
use mathlib.Core.Path.{◌≡◌, refl, sym, ap, ap₂, ◌∙◌}
use mathlib.Core.Logic.{◌↔◌, inl, inr}
use mathlib.Core.Bool.{Bool, true, false, cond}
use mathlib.Core.List.Memᴰ
use mathlib.Core.List.{List, [], ◌∷◌, ◌++◌, append_assoc}
use Prim.Native.Nat.{ℕ, zero, suc, ◌≤◌}
use native.Mathlib.Omega.{arith}
use lib.ListN.{length, length-append}
use lib.Dec.{eqb}
use borrow.Author.Tests.{eqb-true, eqb-false}
use Rattle.edit_record.specs.declared.Edit.{Edit}
use Rattle.edit_record.specs.Layout.{most_sites}
use Rattle.edit_record.specs.RecordBytes.{decode_of, span_of}
use Rattle.edit_history.specs.EditsHeld.{edits_of}
use Rattle.table_drawing.specs.Tables.{Tables, held_by, empty_drawing}
use Rattle.table_drawing.specs.AnswerNumbers.{Outcome, outcome_of}
use Rattle.table_arrival.specs.Answers6and7.{answer_to}
use Rattle.table_arrival.specs.Arrival.{taken, acceptance_of}
use Rattle.table_arrival.proofs.Admitted.{accepted, taken-records}
use Rattle.table_arrival.proofs.Faithful.{Faithful}
use Rattle.table_given.specs.Replay.{Replayed, replayed, replay_of, edits_in}
use Rattle.table_given.proofs.ReplayFaithful.{replay-faithful}
use Rattle.demand_any_order.specs.Records.{records_of, Whole}
use Rattle.demand_any_order.specs.Settled.{list_answer, AllAccepted}
use Rattle.math_lists.proofs.ListMembers.{mem-middle, split-snoc}
use Rattle.demand_any_order.proofs.AnswerOverList.{answer-over-list, taken-holds}

-- ---- lists that grow at their end

pub accepted-none : (n : ℕ) → AllAccepted n []
accepted-none n xs ys e q = absurd (omega (arith, ap length q, length-append xs (e ∷ ys)))

accepted-front : (n : ℕ) (us vs : List Edit) → AllAccepted n (us ++ vs) → AllAccepted n us
accepted-front n us vs a xs ys e q =
    a xs (ys ++ vs) e (ap (λ (l : List Edit). l ++ vs) q ∙ append_assoc xs (e ∷ ys) vs)

pub accepted-more :
    (n : ℕ) (us : List Edit) (x : Edit) → AllAccepted n us → list_answer n us x ≡ 0 → AllAccepted n (us ++ (x ∷ []))
accepted-more n us x a h xs ys e q = elim (split-snoc us xs ys x e q) [
  | inl (p, r) ↦ rw (← p, ← r) h
  | inr (zs, p) ↦ a xs zs e p
]

-- ---- one record more

module _ (sites : ℕ) (rs : ℕ → List ℕ) (n : ℕ) where
  abbrev r : Replayed
  r = replay_of sites rs n

  abbrev t : Tables
  t = r.after

  abbrev b : List ℕ
  b = rs n

  refuses-none-before :
      (replay_of sites rs (suc n)).answer ≡ 0 → ((replay_of sites rs n).answer ≡ 0) × (answer_to t b ≡ 0)
  unfolding replay_of acceptance_of
  refuses-none-before h = go (eqb r.answer 0) refl (eqb (answer_to t b) 0) refl h
    where
      next : Bool → Outcome
      next y = cond y (outcome_of 0 (taken t b)) (outcome_of (answer_to t b) t)

      go : (x : Bool) → eqb r.answer 0 ≡ x → (y : Bool) → eqb (answer_to t b) 0 ≡ y →
          (cond x (replayed (next y).answer (cond (eqb (next y).answer 0) 0 n) (next y).after) r).answer ≡ 0 →
          (r.answer ≡ 0) × (answer_to t b ≡ 0)
      go true p true q z = (eqb-true r.answer 0 p, eqb-true (answer_to t b) 0 q)
      go true p false q z = absurd (eqb-false (answer_to t b) 0 q z)
      go false p y q z = absurd (eqb-false r.answer 0 p z)

  module _ (z : (replay_of sites rs n).answer ≡ 0) (h : answer_to t b ≡ 0) where
    takes-next : (replay_of sites rs (suc n)).answer ≡ 0
    unfolding replay_of acceptance_of
    takes-next = rw (z, h)

    taken_next : (replay_of sites rs (suc n)).after ≡ taken t b
    unfolding replay_of acceptance_of
    taken_next = rw (z, h)

-- ---- from an empty drawing

module _ (sites : ℕ) (some : 1 ≤ sites) (few : sites ≤ most_sites) (rs : ℕ → List ℕ) where
  faithful : (n : ℕ) → Faithful (replay_of sites rs n).after
  faithful n = replay-faithful sites some few rs n

  -- while none is refused, the drawing holds the edits of the records
  pub replay-holds :
      (n : ℕ) → (replay_of sites rs n).answer ≡ 0 →
      (held_by (replay_of sites rs n).after ≡ edits_in rs n) × ((replay_of sites rs n).after.counters.sites ≡ sites)
  unfolding edits_in
  replay-holds zero h = unfold replay_of empty_drawing edits_of in (refl, refl)
  replay-holds (suc n) h =
      let t = (replay_of sites rs n).after in
      let b = rs n in
      let (z, a) = refuses-none-before sites rs n h in
      let (held, same) = replay-holds n z in
      let next : (replay_of sites rs (suc n)).after ≡ taken t b = taken_next sites rs n z a in (
        ap held_by next ∙ taken-holds t (faithful n) b a
            ∙ ap₂ (λ (es : List Edit) (e : Edit). es ++ (e ∷ [])) held refl,
        ap (λ (u : Tables). u.counters.sites) next ∙ (taken-records t b).2 ∙ same,
      )

  -- the next record's answer is the answer over the list
  pub next-answer :
      (n : ℕ) → (replay_of sites rs n).answer ≡ 0 → length (rs n) ≡ span_of (rs n) →
      answer_to (replay_of sites rs n).after (rs n) ≡ list_answer sites (edits_in rs n) (decode_of (rs n))
  next-answer n z w =
      let t = (replay_of sites rs n).after in
      let (held, same) = replay-holds n z in
      answer-over-list t (faithful n) (rs n) w
      ∙ ap (λ (k : ℕ). list_answer k (held_by t) (decode_of (rs n))) same
      ∙ ap₂ (list_answer sites) held refl

  refuses-none-at :
      (n : ℕ) → (replay_of sites rs n).answer ≡ 0 → Whole (records_of rs n) × AllAccepted sites (edits_in rs n)
  unfolding records_of edits_in
  refuses-none-at zero h = ((λ b m. absurd (Memᴰ.not-nil m)), accepted-none sites)
  refuses-none-at (suc n) h =
      let t = (replay_of sites rs n).after in
      let (z, a) = refuses-none-before sites rs n h in
      let (whole, all) = refuses-none-at n z in
      let w = (accepted t (rs n) a).admitted.whole in (
        (λ b m. elim (Memᴰ.append_cases (records_of rs n) m)
            [ inl k ↦ whole b k | inr k ↦ rw (Memᴰ.eq_of_singleton k) w ]),
        accepted-more sites (edits_in rs n) (decode_of (rs n)) all (sym (next-answer n z w) ∙ a),
      )

  refuses-none-on :
      (n : ℕ) → Whole (records_of rs n) → AllAccepted sites (edits_in rs n) → (replay_of sites rs n).answer ≡ 0
  unfolding records_of edits_in
  refuses-none-on zero w a = unfold replay_of in refl
  refuses-none-on (suc n) w a =
      let z = refuses-none-on n (λ b m. w b (Memᴰ.append_left (rs n ∷ []) m))
      (accepted-front sites (edits_in rs n) (decode_of (rs n) ∷ []) a) in
      takes-next sites rs n z
      (next-answer n z (w (rs n) (mem-middle (records_of rs n) [] (rs n)))
      ∙ a (edits_in rs n) [] (decode_of (rs n)) refl)

  pub refuses-none-exactly :
      (n : ℕ) → ((replay_of sites rs n).answer ≡ 0) ↔ (Whole (records_of rs n) × AllAccepted sites (edits_in rs n))
  refuses-none-exactly n = (refuses-none-at n, λ (w, a). refuses-none-on n w a)
