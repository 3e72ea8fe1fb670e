-- The answer of a replay from the list of its edits alone, record by record, and where a refusal stands. Assumes a
-- right number of sites, and records of the right length.
use mathlib.Core.Logic.{inl, inr}
use mathlib.Core.Path.{◌≡◌, refl, sym, ap, ap₂, ◌∙◌}
use mathlib.Core.Bool.{Bool, true, false, cond}
use mathlib.Core.List.{List, [], ◌∷◌, ◌++◌}
use Prim.Native.Nat.{ℕ, zero, suc, ◌+◌, ◌≤◌, ◌<◌}
use native.Mathlib.Omega.{arith}
use lib.ListN.{length, get_or, take, length-append, get_or-append}
use lib.Seq.{take-suc, get_or-append-add}
use Rattle.math_lists.proofs.LastBelow.{last}
use lib.Dec.{eqb}
use borrow.Author.Tests.{eqb-true}
use Rattle.edit_record.specs.declared.Edit.{Edit}
use Rattle.edit_record.specs.Layout.{most_sites}
use Rattle.edit_record.specs.RecordBytes.{decode_of, span_of}
use Rattle.table_drawing.specs.Tables.{Tables}
use Rattle.edit_record.specs.RecordBytes.{no_edit}
use Rattle.table_arrival.specs.Answers6and7.{answer_to}
use Rattle.table_arrival.specs.Arrival.{acceptance_of}
use Rattle.table_given.specs.Replay.{one_more, replay_of, edits_in}
use Rattle.table_given.proofs.ReplayFaithful.{replay-faithful}
use Rattle.demand_any_order.specs.Settled.{list_answer}
use Rattle.demand_any_order.proofs.ReplayAccepted.{next-answer, replay-holds}
use Rattle.list_lines.specs.List.{lines_of}
use Rattle.demand_list.specs.ListOverEdits.{lines_over}
use Rattle.demand_list.proofs.ListOverEdits.{lines-over-list}

-- the answer to the first of the first k edits that is refused, or 0
unfoldable pub answer_over : ℕ → List Edit → ℕ → ℕ
answer_over n es zero = 0
answer_over n es (suc k) =
    cond (eqb (answer_over n es k) 0) (list_answer n (take k es) (get_or es k no_edit)) (answer_over n es k)

-- ---- one record more

module _ (sites : ℕ) (rs : ℕ → List ℕ) (k : ℕ) where
  answer-next :
      (replay_of sites rs k).answer ≡ 0 →
      (replay_of sites rs (suc k)).answer ≡ answer_to (replay_of sites rs k).after (rs k)
  unfolding replay_of acceptance_of
  answer-next z = rw z (go (eqb a 0) refl)
    where
      t : Tables
      t = (replay_of sites rs k).after

      a : ℕ
      a = answer_to t (rs k)

      go : (x : Bool) → eqb a 0 ≡ x → (acceptance_of t (rs k)).answer ≡ a
      go true e = rw e (sym (eqb-true a 0 e))
      go false e = rw e

  answer-stays : eqb (replay_of sites rs k).answer 0 ≡ false →
      (replay_of sites rs (suc k)).answer ≡ (replay_of sites rs k).answer
  unfolding replay_of
  answer-stays e = rw e

  -- the record that is refused first is the one that the index names
  pub index-next :
      (replay_of sites rs k).answer ≡ 0 → eqb (replay_of sites rs (suc k)).answer 0 ≡ false →
      (replay_of sites rs (suc k)).index ≡ k
  unfolding replay_of
  index-next z d = rw z (go (rw z at d))
    where
      go : eqb (one_more rs k (replay_of sites rs k).after).answer 0 ≡ false →
          (one_more rs k (replay_of sites rs k).after).index ≡ k
      go e = rw e

-- ---- over the edits

edits-in-length : (rs : ℕ → List ℕ) (n : ℕ) → length (edits_in rs n) ≡ n
unfolding edits_in
edits-in-length rs zero = refl
edits-in-length rs (suc n) =
    omega (arith, length-append (edits_in rs n) (decode_of (rs n) ∷ []), edits-in-length rs n)

edits-in-at : (rs : ℕ → List ℕ) (n k : ℕ) → k < n → get_or (edits_in rs n) k no_edit ≡ decode_of (rs k)
unfolding edits_in
edits-in-at rs zero k l = absurd (omega arith)
edits-in-at rs (suc n) k l = elim (last l) [
  | inl m ↦
      get_or-append (edits_in rs n) (decode_of (rs n) ∷ []) no_edit k (omega (arith, edits-in-length rs n))
      ∙ edits-in-at rs n k m
  | inr e ↦
      let at : k ≡ length (edits_in rs n) + 0 = omega (arith, edits-in-length rs n) in
      ap (λ (i : ℕ). get_or (edits_in rs n ++ (decode_of (rs n) ∷ [])) i no_edit) at
      ∙ get_or-append-add (edits_in rs n) (decode_of (rs n) ∷ []) 0 no_edit
      ∙ ap (λ (i : ℕ). decode_of (rs i)) (sym e)
]

module _ (sites : ℕ) (some : 1 ≤ sites) (few : sites ≤ most_sites) (rs : ℕ → List ℕ) (n : ℕ)
    (whole : (k : ℕ) → k < n → length (rs k) ≡ span_of (rs k)) (es : List Edit) (are : edits_in rs n ≡ es) where
  edit-at : (k : ℕ) → k < n → decode_of (rs k) ≡ get_or es k no_edit
  edit-at k l = sym (edits-in-at rs n k l) ∙ ap (λ (l : List Edit). get_or l k no_edit) are

  edits-below : (k : ℕ) → k ≤ n → edits_in rs k ≡ take k es
  unfolding edits_in
  edits-below zero l = refl
  edits-below (suc k) l =
      ap₂ (λ (us : List Edit) (e : Edit). us ++ (e ∷ [])) (edits-below k (omega arith)) (edit-at k (omega arith))
      ∙ sym (take-suc es k no_edit (omega (arith, ap length are, edits-in-length rs n)))

  pub answered : (k : ℕ) → k ≤ n → (replay_of sites rs k).answer ≡ answer_over sites es k
  unfolding answer_over
  answered zero l = unfold replay_of in refl
  answered (suc k) l = go (eqb (answer_over sites es k) 0) refl (answered k (omega arith))
    where
      go : (x : Bool) → eqb (answer_over sites es k) 0 ≡ x → (replay_of sites rs k).answer ≡ answer_over sites es k →
          (replay_of sites rs (suc k)).answer
          ≡ cond x (list_answer sites (take k es) (get_or es k no_edit)) (answer_over sites es k)
      go true e ih =
          let z : (replay_of sites rs k).answer ≡ 0 = ih ∙ eqb-true (answer_over sites es k) 0 e in
          answer-next sites rs k z
          ∙ next-answer sites some few rs k z (whole k (omega arith))
          ∙ ap₂ (list_answer sites) (edits-below k (omega arith)) (edit-at k (omega arith))
      go false e ih = answer-stays sites rs k (ap (λ (a : ℕ). eqb a 0) ih ∙ e) ∙ ih

  pub printed : (replay_of sites rs n).answer ≡ 0 → lines_of (replay_of sites rs n).after ≡ lines_over sites es
  printed z =
      let (held, same) = replay-holds sites some few rs n z in
      lines-over-list (replay_of sites rs n).after (replay-faithful sites some few rs n)
      ∙ ap₂ lines_over same (held ∙ are)
