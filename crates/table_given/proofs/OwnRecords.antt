-- A drawing made from records holds those records: its table has their bytes in their places, and replayed they give
-- the same drawing. Assumes nothing.
use mathlib.Core.Path.{◌≡◌, refl, sym, ap, ap₂, ◌∙◌}
use mathlib.Core.Logic.{inl, inr}
use mathlib.Core.Bool.{Bool, true, false, cond}
use mathlib.Core.List.{List, [], ◌∷◌, ◌++◌}
use Prim.Native.Nat.{ℕ, zero, suc, ◌+◌, ◌<◌}
use native.Mathlib.Omega.{arith}
use native.Mathlib.Numerals.{add-one}
use lib.Dec.{eqb}
use borrow.Author.Tests.{eqb-true, eqb-false, eq-eqb}
use Rattle.math_lists.proofs.LastBelow.{last}
use Rattle.edit_record.specs.declared.Edit.{Edit}
use Rattle.edit_record.specs.RecordBytes.{decode_of}
use Rattle.edit_history.specs.EditsHeld.{bytes_at, edits_of}
use Rattle.edit_history.proofs.FieldsInPlace.{bytes-decoded}
use Rattle.table_drawing.specs.Tables.{Tables, empty_drawing, sites_right}
use Rattle.edit_history.proofs.RecordsPassed.{few-at}
use Rattle.table_drawing.specs.AnswerNumbers.{outcome_of}
use Rattle.table_soundness.proofs.SoundFacts.{Sound}
use Rattle.table_arrival.specs.Arrival.{put_record, acceptance_of}
use Rattle.table_arrival.proofs.Admitted.{Accepted, accepted, admitted-span, was-taken, taken-records}
use Rattle.table_arrival.proofs.RecordsOneMore.{Room, put-bytes-here, put-bytes-before}
use Rattle.table_given.specs.Replay.{Replayed, replayed, one_more, replay_of, edits_in}
use Rattle.table_given.proofs.ReplayGoes.{Going, going-faithful}

-- ---- only the records' bytes count

pub replay-same :
    (sites : ℕ) (rs rs' : ℕ → List ℕ) (n : ℕ) → ((p : ℕ) → p < n → rs p ≡ rs' p) →
    replay_of sites rs n ≡ replay_of sites rs' n
unfolding replay_of
replay-same sites rs rs' zero h = refl
replay-same sites rs rs' (suc n) h = rw (replay-same sites rs rs' n (λ p l. h p (omega arith)), h n (omega arith))

-- ---- one record back

-- where none is refused, the index is 0
index-none :
    (sites : ℕ) (rs : ℕ → List ℕ) (n : ℕ) → (replay_of sites rs n).answer ≡ 0 → (replay_of sites rs n).index ≡ 0
unfolding replay_of
index-none sites rs zero h = refl
index-none sites rs (suc n) h = go (eqb r.answer 0) refl h (index-none sites rs n)
  where
    r : Replayed
    r = replay_of sites rs n

    go : (x : Bool) → eqb r.answer 0 ≡ x → (cond x (one_more rs n r.after) r).answer ≡ 0 →
        (r.answer ≡ 0 → r.index ≡ 0) → (cond x (one_more rs n r.after) r).index ≡ 0
    go true e h ih = rw (eq-eqb (acceptance_of r.after (rs n)).answer 0 h)
    go false e h ih = ih h

pub going_of :
    (sites : ℕ) (rs : ℕ → List ℕ) (n : ℕ) → (replay_of sites rs n).answer ≡ 0 →
    Going sites rs n (replay_of sites rs n).after
going_of sites rs n h =
    ap₂ (λ (a i : ℕ). replayed a i (replay_of sites rs n).after) (sym h) (sym (index-none sites rs n h))

-- the tables before the last record, and that it was taken there
going-back :
    (sites : ℕ) (rs : ℕ → List ℕ) (n : ℕ) (t : Tables) → Going sites rs (suc n) t →
    (u : Tables) × Going sites rs n u × (outcome_of 0 t ≡ acceptance_of u (rs n))
unfolding replay_of
going-back sites rs n t g = go (eqb r.answer 0) refl g
  where
    r : Replayed
    r = replay_of sites rs n

    go : (x : Bool) → eqb r.answer 0 ≡ x → replayed 0 0 t ≡ cond x (one_more rs n r.after) r →
        (u : Tables) × Going sites rs n u × (outcome_of 0 t ≡ acceptance_of u (rs n))
    go true e q = (
      r.after,
      going_of sites rs n (eqb-true r.answer 0 e),
      ap (λ (y : Replayed). outcome_of y.answer y.after) q,
    )
    go false e q = absurd (eqb-false r.answer 0 e (sym (ap (λ (y : Replayed). y.answer) q)))

-- ---- the records that a drawing holds

pub record HoldsGiven (sites : ℕ) (rs : ℕ → List ℕ) (n : ℕ) (t : Tables) : Type 0 where
  pub count : t.counters.records ≡ n
  pub sites-are : t.counters.sites ≡ sites
  pub bytes : (p : ℕ) → p < n → bytes_at t.records p ≡ rs p

pub holds :
    (sites : ℕ) (rs : ℕ → List ℕ) → sites_right sites ≡ true → (n : ℕ) (t : Tables) → Going sites rs n t →
    HoldsGiven sites rs n t
unfolding replay_of empty_drawing
holds sites rs right zero t g =
    record {
      count = ap (λ (r : Replayed). r.after.counters.records) g;
      sites-are = ap (λ (r : Replayed). r.after.counters.sites) g;
      bytes = λ p l. absurd (omega arith);
    }
holds sites rs right (suc n) t g =
    let (u, before, last_one) = going-back sites rs n t g in
    let b = rs n in
    let (zero-answer, is) = was-taken u t b last_one in
    let a : Accepted u b = accepted u b zero-answer in
    let s : Sound u = (going-faithful sites rs right n u before).kept.is_sound in
    let h = holds sites rs right n u before in
    let room : Room u.records n b = record {
      whole = a.admitted.whole;
      short = admitted-span u b a.admitted;
      there = omega (arith, s.records-long, a.admitted.room, h.count);
    } in
    let (records, count, sites-are) = taken-records u b in
    let put : t.records ≡ put_record u.records n b
    = ap (λ (x : Tables). x.records) is ∙ records ∙ ap (λ (k : ℕ). put_record u.records k b) h.count in
    record {
      count = ap (λ (x : Tables). x.counters.records) is ∙ count ∙ ap (λ (k : ℕ). k + 1) h.count ∙ add-one n;
      sites-are = ap (λ (x : Tables). x.counters.sites) is ∙ sites-are ∙ h.sites-are;
      bytes =
          λ p l. ap (λ (x : List ℕ). bytes_at x p) put
          ∙ elim (last l) [
            | inl m ↦
                put-bytes-before u.records n b room p m
                (few-at u.counters.sites u.records u.counters.records s.pass p (omega (arith, h.count)))
                ∙ h.bytes p m
            | inr e ↦ rw e (put-bytes-here u.records n b room)
          ];
    }

-- records that a table holds have the table's edits
pub edits-held :
    (ts : List ℕ) (rs : ℕ → List ℕ) (n : ℕ) → ((p : ℕ) → p < n → bytes_at ts p ≡ rs p) → edits_of ts n ≡ edits_in rs n
unfolding edits_of edits_in
edits-held ts rs zero h = refl
edits-held ts rs (suc n) h =
    ap₂ (λ (es : List Edit) (e : Edit). es ++ (e ∷ [])) (edits-held ts rs n (λ p l. h p (omega arith)))
    (sym (bytes-decoded ts n) ∙ ap decode_of (h n (omega arith)))

pub held-edits :
    (sites : ℕ) (rs : ℕ → List ℕ) (n : ℕ) (t : Tables) → HoldsGiven sites rs n t →
    edits_of t.records t.counters.records ≡ edits_in rs n
held-edits sites rs n t h = ap (edits_of t.records) h.count ∙ edits-held t.records rs n h.bytes

-- a drawing's own records give the drawing
pub own-records :
    (sites : ℕ) (rs : ℕ → List ℕ) → sites_right sites ≡ true → (n : ℕ) (t : Tables) → Going sites rs n t →
    Going sites (bytes_at t.records) n t
own-records sites rs right n t g =
    g ∙ sym (replay-same sites (bytes_at t.records) rs n (holds sites rs right n t g).bytes)
