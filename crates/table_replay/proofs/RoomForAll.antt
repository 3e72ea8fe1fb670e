-- Room in the index for the edits of a stretch: what is counted of all of them is room for those held and the next one.
-- Assumes nothing.
use mathlib.Core.Path.{◌≡◌, refl, sym, ap, subst}
use mathlib.Core.Bool.{true}
use mathlib.Core.List.{List, [], ◌∷◌, ◌++◌}
use Prim.Native.Nat.{ℕ, zero, suc, ◌≤◌, ◌<◌}
use native.Mathlib.Omega.{arith}
use native.Mathlib.Decide.{ℕ_discrete}
use lib.ListN.{length, get_or, length-append}
use Rattle.math_lists.specs.NumbersBelow.{sum}
use Rattle.edit_record.specs.declared.Edit.{Edit}
use Rattle.edit_record.specs.Layout.{most_sites}
use Rattle.edit_record.specs.RecordBytes.{decode_of}
use Rattle.edit_history.specs.EditsHeld.{edits_of, count_from}
use Rattle.edit_history.specs.SurveyForms.{Counted}
use Rattle.edit_history.proofs.EditsHeld.{count-snoc}
use Rattle.edit_walk.specs.WalkForms.{Spaced}
use Rattle.edit_walk.proofs.RoomInIndex.{counted-in-all, spaced-less}
use Rattle.table_drawing.specs.Tables.{Tables, sites_right}
use Rattle.table_given.specs.Replay.{edits_in}
use Rattle.table_given.proofs.ReplayGoes.{Going}
use Rattle.table_given.proofs.OwnRecords.{holds, held-edits}

pub edits-in-length : (rs : ℕ → List ℕ) (n : ℕ) → length (edits_in rs n) ≡ n
unfolding edits_in
edits-in-length rs zero = refl
edits-in-length rs (suc n) =
    omega (arith, length-append (edits_in rs n) (decode_of (rs n) ∷ []), edits-in-length rs n)

count-grows :
    (s : ℕ) (rs : ℕ → List ℕ) (i n : ℕ) → i ≤ n → count_from s (edits_in rs i) ≤ count_from s (edits_in rs n)
count-grows s rs i zero l = let e : i ≡ 0 = omega arith in rw e (omega arith)
count-grows s rs i (suc n) l = go (ℕ_discrete i (suc n)) (count-grows s rs i n)
  where
    go : Dec (i ≡ suc n) → (i ≤ n → count_from s (edits_in rs i) ≤ count_from s (edits_in rs n)) →
        count_from s (edits_in rs i) ≤ count_from s (edits_in rs (suc n))
    go (yes e) ih = rw e (omega arith)
    go (no d) ih = unfold edits_in in omega (arith, count-snoc s (edits_in rs n) (decode_of (rs n)), ih (omega arith))

module _ (rs : ℕ → List ℕ) (m : ℕ) (counts : List ℕ) (counted : Counted counts (edits_in rs m)) where
  -- the counts are no more in all than the records
  pub counts-in-all : sum most_sites (λ s. get_or counts s 0) ≤ m
  counts-in-all = omega (arith, counted-in-all counts (edits_in rs m) counted, edits-in-length rs m)

  -- room for what is counted is room for the edits
  pub room-for-all :
      (ps : List ℕ) → Spaced (λ s. get_or counts s 0) ps → Spaced (λ s. count_from s (edits_in rs m)) ps
  room-for-all ps x =
      spaced-less (λ s. get_or counts s 0) (λ s. count_from s (edits_in rs m)) ps (λ s l. omega (arith, counted s l)) x

-- room for m records is room for those held and the next one
pub next-room :
    (sites : ℕ) (rs : ℕ → List ℕ) → sites_right sites ≡ true → (n m : ℕ) → n < m → (t : Tables) → Going sites rs n t →
    (ps : List ℕ) → Spaced (λ s. count_from s (edits_in rs m)) ps →
    Spaced (λ s. count_from s (edits_of t.records t.counters.records ++ (decode_of (rs n) ∷ []))) ps
next-room sites rs right n m l t g ps x =
    subst (λ (es : List Edit). Spaced (λ s. count_from s es) ps)
    (sym (ap (λ (es : List Edit). es ++ (decode_of (rs n) ∷ []))
    (held-edits sites rs n t (holds sites rs right n t g))))
    (unfold edits_in in
    spaced-less (λ s. count_from s (edits_in rs m)) (λ s. count_from s (edits_in rs (suc n))) ps
    (λ s k. count-grows s rs (suc n) m l) x)
