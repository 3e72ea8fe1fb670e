-- Records one behind the other: where each of them starts in a stretch, what is left of the stretch from there on, and
-- that whole records put one behind the other are those that are found again. Assumes nothing.
use mathlib.Core.Path.{◌≡◌, refl, sym, ap, ap₂, ◌∙◌}
use mathlib.Core.Logic.{inl, inr}
use mathlib.Core.List.{List, [], ◌++◌, append_assoc, append-nil}
use Prim.Native.Nat.{ℕ, zero, suc, ◌+◌, ◌-◌, ◌*◌, ◌≤◌, ◌<◌}
use native.Mathlib.Omega.{arith}
use lib.ListN.{length, take, drop, length-append, length-drop}
use lib.Seq.{take-add, take_all, take_at, drop_at}
use Rattle.math_lists.proofs.LastBelow.{last}
use Rattle.edit_record.specs.Layout.{members_at, member_length, two_bytes}
use Rattle.edit_record.specs.RecordBytes.{span_of}
use Rattle.edit_record.proofs.NumbersInBytes.{Bytes, bytes_drop}
use Rattle.edit_record.proofs.RecordSpans.{span-front}
use Rattle.edit_form.specs.OldForm.{long_form, length_from, long_from, start_of, stored_in, chained}
use Rattle.edit_form.proofs.CopiedParts.{length-below}
use Rattle.edit_form.proofs.OldRecords.{long-from-whole}

-- ---- where records start

module _ (form : ℕ) (s : List ℕ) where
  -- what is left of the stretch from the record number k on
  abbrev pub rest_from : ℕ → List ℕ
  rest_from k = drop (start_of form s k) s

  pub start-next : (k : ℕ) → start_of form s (suc k) ≡ start_of form s k + length_from form (rest_from k)
  unfolding start_of
  start-next k = refl

  -- a record ends before or where a later one starts
  pub ends-before :
      (k n : ℕ) → k < n → start_of form s k + length_from form (rest_from k) ≤ start_of form s n
  ends-before k zero l = absurd (omega arith)
  ends-before k (suc n) l = elim (last l) [
    | inl m ↦ omega (arith, start-next n, ends-before k n m)
    | inr e ↦ rw e (omega (arith, start-next n))
  ]

  module _ (n : ℕ) (fits : start_of form s n ≤ length s) (k : ℕ) (l : k < n) where
    -- the record number k is there whole
    pub stored_there : length_from form (rest_from k) ≤ length (rest_from k)
    stored_there = rw (length-drop (start_of form s k) s) (omega (arith, ends-before k n l))

    pub stored-whole : length (stored_in form s k) ≡ span_of (stored_in form s k)
    stored-whole = long-from-whole form (rest_from k) stored_there

-- ---- the record that is lent: the code has the start in hand, and lends all of the stretch from there on

module _ (form : ℕ) (s : List ℕ) (i at : ℕ) (is : at ≡ start_of form s i) where
  abbrev lent : List ℕ
  lent = take (length s - at) (drop at s)

  pub lent-rest : lent ≡ rest_from form s i
  lent-rest = take_all (length s - at) (drop at s) (simp length-drop (omega arith)) ∙ ap (λ (k : ℕ). drop k s) is

  pub lent_is : (b : List ℕ) → b ≡ long_from form lent → b ≡ stored_in form s i
  lent_is b h = h ∙ ap (long_from form) lent-rest

  pub next_start : (w : ℕ) → w ≡ length_from form lent → at + w ≡ start_of form s (suc i)
  next_start w h = ap₂ (λ (x y : ℕ). x + y) is (h ∙ ap (length_from form) lent-rest) ∙ sym (start-next form s i)

  pub few_bytes : Bytes s → (w : ℕ) → w ≡ length_from form lent → w < members_at + two_bytes * member_length
  few_bytes b w h = rw (h, lent-rest) (length-below form (rest_from form s i) (bytes_drop (start_of form s i) s b))

  module _ (n : ℕ) (l : i < n) (fits : start_of form s n ≤ length s) where
    pub start-inside : at ≤ length s
    start-inside = omega (arith, ends-before form s i n l)

    -- so is the start of the next one
    pub next-inside : (w : ℕ) → w ≡ length_from form lent → at + w ≤ length s
    next-inside w h = rw (next_start w h, start-next form s i) (omega (arith, ends-before form s i n l))

    pub lent-there : length_from form lent ≤ length lent
    lent-there = rw lent-rest (stored_there form s n fits i l)

-- ---- records put one behind the other

pub chained_same :
    (rs rs' : ℕ → List ℕ) (n : ℕ) → ((p : ℕ) → p < n → rs p ≡ rs' p) → chained rs n ≡ chained rs' n
unfolding chained
chained_same rs rs' zero h = refl
chained_same rs rs' (suc n) h =
    ap₂ (λ (x y : List ℕ). x ++ y) (chained_same rs rs' n (λ p l. h p (omega arith))) (h n (omega arith))

-- one of them, and what stands behind it
chained-at :
    (rs : ℕ → List ℕ) (k n : ℕ) → k < n → (r : List ℕ) × (chained rs n ≡ chained rs k ++ (rs k ++ r))
unfolding chained
chained-at rs k zero l = absurd (omega arith)
chained-at rs k (suc n) l = elim (last l) [
  | inl m ↦
      (let (r, e) = chained-at rs k n m in (
        r ++ rs n,
        ap (λ (x : List ℕ). x ++ rs n) e
            ∙ append_assoc (chained rs k) (rs k ++ r) (rs n)
            ∙ ap (λ (x : List ℕ). chained rs k ++ x) (append_assoc (rs k) r (rs n)),
      ))
  | inr e ↦ ([], rw e (ap (λ (x : List ℕ). chained rs n ++ x) (sym (append-nil (rs n)))))
]

-- so each ends before or where all of them end
pub chained-inside :
    (rs : ℕ → List ℕ) (k n : ℕ) → k < n → length (chained rs k) + length (rs k) ≤ length (chained rs n)
chained-inside rs k n l =
    let (r, e) = chained-at rs k n l in
    rw e (omega (arith, length-append (chained rs k) (rs k ++ r), length-append (rs k) r))

module _ (rs : ℕ → List ℕ) (n : ℕ) (whole : (k : ℕ) → k < n → length (rs k) ≡ span_of (rs k)) where
  -- each starts where those before it end
  pub chained-starts : (k : ℕ) → k ≤ n → start_of long_form (chained rs n) k ≡ length (chained rs k)
  unfolding start_of chained
  chained-starts zero l = refl
  chained-starts (suc k) l =
      let (r, e) = chained-at rs k n l in
      let rest : drop (length (chained rs k)) (chained rs n) ≡ rs k ++ r =
      ap (drop (length (chained rs k))) e ∙ drop_at (chained rs k) (rs k ++ r) (length (chained rs k)) refl in
      rw (chained-starts k (omega arith), rest, span-front (rs k) r (whole k l))
      (sym (length-append (chained rs k) (rs k)))

  -- and is found there
  pub chained-stored : (k : ℕ) → k < n → stored_in long_form (chained rs n) k ≡ rs k
  unfolding long_from
  chained-stored k l =
      let (r, e) = chained-at rs k n l in
      let rest : drop (length (chained rs k)) (chained rs n) ≡ rs k ++ r =
      ap (drop (length (chained rs k))) e ∙ drop_at (chained rs k) (rs k ++ r) (length (chained rs k)) refl in
      rw (chained-starts k (omega arith), rest, span-front (rs k) r (whole k l)) (take_at (rs k) r (length (rs k)) refl)

-- the records of a long stretch one behind the other are its own bytes
pub chained-again : (s : List ℕ) (n : ℕ) → chained (stored_in long_form s) n ≡ take (start_of long_form s n) s
unfolding start_of chained long_from
chained-again s zero = refl
chained-again s (suc n) =
    let at = start_of long_form s n in
    ap (λ (x : List ℕ). x ++ take (span_of (drop at s)) (drop at s)) (chained-again s n)
    ∙ sym (take-add at (span_of (drop at s)) s)
