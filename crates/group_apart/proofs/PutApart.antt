-- The turns of a loop that puts the n first numbers of a list s apart into another list d: those that pass at its
-- front, and what f makes of others from place t on. `all` is what is to come out. Assumes nothing.
use mathlib.Core.Path.{◌≡◌, refl, sym, ap, ◌∙◌}
use mathlib.Core.Bool.{Bool, true, false}
use mathlib.Core.List.{List, [], ◌∷◌, ◌++◌, map, append_assoc, append-nil}
use Prim.Native.Nat.{ℕ, ◌+◌, ◌-◌, ◌≤◌, ◌<◌}
use native.Mathlib.Numerals.{add-one}
use native.Mathlib.Omega.{arith}
use lib.ListN.{length, get_or, take, drop, set, replicate, take-append-drop, length-append, length-replicate}
use lib.ListN.{replicate-append-replicate}
use lib.Seq.{slice, take-set-le, take-suc-set, drop-append-le, append_snoc, length-take-le, length-slice}
use lib.Seq.{take_at, drop_at}
use Rattle.math_lists.specs.SortedLists.{any, filter}
use Rattle.math_lists.proofs.Booleans.{or_right}
use Rattle.math_lists.proofs.Elements.{any_append}
use Rattle.math_lists.proofs.GrownAtEnd.{filter-few}
use Rattle.group_step.specs.GroupRows.{most_groups, settled}
use Rattle.group_step.proofs.LoopRuns.{next, written, left-set-before, none_left, passed-and-left}
use Rattle.group_step.proofs.LoopTurns.{not-counted, counted-all, found}
use Rattle.group_step.proofs.RowAfterStep.{row_is}

-- ---- those at the front

module _ (p : ℕ → Bool) (all s d : List ℕ) (a i n : ℕ) (inv : all ≡ take a d ++ filter p (slice i n s)) where
  pub front-more :
      i < n → n ≤ length s → a < length d → p (get_or s i 0) ≡ true →
      all ≡ take (a + 1) (set d a (get_or s i 0)) ++ filter p (slice (i + 1) n s)
  unfolding filter
  front-more h fits room e = inv ∙ rw (next s i n h fits, e) (sym (written d a (get_or s i 0) _ room))

  -- what is written behind them does not matter
  pub front_same :
      i < n → n ≤ length s → p (get_or s i 0) ≡ false → (w z : ℕ) → a ≤ w →
      all ≡ take a (set d w z) ++ filter p (slice (i + 1) n s)
  unfolding filter
  front_same h fits e w z k = inv ∙ rw (next s i n h fits, e, take-set-le a d w z k)

-- ---- those from place t on

-- one number more is written
written_behind :
    (d : List ℕ) (t w z : ℕ) (rest : List ℕ) → t ≤ w → w < length d →
    slice t (w + 1) (set d w z) ++ rest ≡ slice t w d ++ (z ∷ rest)
written_behind d t w z rest h l =
    let long = length-take-le w d (omega arith) in
    rw (add-one, take-suc-set d w z l, drop-append-le t (take w d) (z ∷ []) (omega (arith, long)))
    (append_snoc (slice t w d) z rest)

module _ (p : ℕ → Bool) (f : ℕ → ℕ) (all s d : List ℕ) (t w i n : ℕ)
    (inv : all ≡ slice t w d ++ map f (filter p (slice i n s))) where
  pub behind_more :
      i < n → n ≤ length s → t ≤ w → w < length d → p (get_or s i 0) ≡ true →
      all ≡ slice t (w + 1) (set d w (f (get_or s i 0))) ++ map f (filter p (slice (i + 1) n s))
  unfolding filter
  behind_more h fits k room e =
      inv ∙ rw (next s i n h fits, e) (sym (written_behind d t w (f (get_or s i 0)) _ k room))

  -- what is written before them does not matter
  pub behind-same :
      i < n → n ≤ length s → p (get_or s i 0) ≡ false → (a z : ℕ) → a < t → a < w →
      all ≡ slice t w (set d a z) ++ map f (filter p (slice (i + 1) n s))
  unfolding filter
  behind-same h fits e a z k l = inv ∙ rw (next s i n h fits, e, left-set-before d a t w z k l)

-- ---- their numbers

-- where t pass, a of them passed before place i, and the one there does not: it has a place behind them
pub place-behind :
    (p : ℕ → Bool) (s : List ℕ) (t a w i n : ℕ) → t ≡ a + length (filter p (slice i n s)) → w + a ≡ t + i → i < n →
    n ≤ length s → p (get_or s i 0) ≡ false → w < n
place-behind p s t a w i n all q h fits e =
    omega (arith, not-counted p t s a i n all h fits e, filter-few p (slice (i + 1) n s), length-slice (i + 1) n s fits)

-- ---- when all are passed

module _ (p q : ℕ → Bool) (f : ℕ → ℕ) (s d : List ℕ) (t a w i n : ℕ) (h : i ≤ n) (l : n ≤ i) where
  pub apart-all :
      (front behind rest : List ℕ) → a ≤ i → w + a ≡ t + i → t ≡ a + length (filter p (slice i n s)) →
      front ≡ take a d ++ filter p (slice i n s) → behind ≡ slice t w d ++ map f (filter q (slice i n s)) →
      drop n d ≡ rest → d ≡ front ++ (behind ++ rest)
  unfolding filter
  apart-all front behind rest k sum all in_front in_behind in_rest =
      let none = none_left s i n h l in
      let same : a ≡ t = counted-all p t s a i n all h l in
      let last : w ≡ n = omega arith in
      let first : take t d ≡ front = sym (in_front ∙ rw (none, same) (append-nil (take t d))) in
      let second : slice t n d ≡ behind = sym (in_behind ∙ rw (none, last) (append-nil (slice t n d))) in
      sym (take-append-drop n d)
      ∙ ap (λ (x : List ℕ). x ++ drop n d) (sym (passed-and-left d t n (omega arith)))
      ∙ append_assoc (take t d) (slice t n d) (drop n d)
      ∙ rw (first, second, in_rest)

-- what was put apart is found again
module _ (front behind rest d : List ℕ) (t n : ℕ) (e : d ≡ front ++ (behind ++ rest)) (ht : t ≡ length front)
    (hn : length front + length behind ≡ n) where
  pub first_part : take t d ≡ front
  first_part = ap (take t) e ∙ take_at front (behind ++ rest) t (sym ht)

  pub second-part : slice t n d ≡ behind
  second-part =
      ap (slice t n) (e ∙ sym (append_assoc front behind rest))
      ∙ ap (drop t) (take_at (front ++ behind) rest n (length-append front behind ∙ hn))
      ∙ drop_at front behind t (sym ht)

  -- with zeros behind it, it is a row
  pub apart-row :
      (before : List ℕ) → n ≤ most_groups → rest ≡ drop {A = ℕ} n (replicate most_groups 0) →
      d ≡ settled (front ++ behind) before
  apart-row before h zeros =
      let many = length-append front behind ∙ hn in
      let more : List ℕ = replicate (most_groups - n) 0 in
      let sum : most_groups ≡ n + (most_groups - n) = omega arith in
      let left : drop {A = ℕ} n (replicate most_groups 0) ≡ more
      = ap (λ (i : ℕ). drop {A = ℕ} n (replicate i 0)) sum
      ∙ ap (drop {A = ℕ} n) (sym (replicate-append-replicate n (most_groups - n) 0))
      ∙ drop_at (replicate n 0) more n (length-replicate n 0) in
      e
      ∙ sym (append_assoc front behind rest)
      ∙ ap (λ (l : List ℕ). (front ++ behind) ++ l) (zeros ∙ left)
      ∙ row_is (front ++ behind) before n many h

-- ---- where the number in place i passes, one from place t on does

pub among :
    (p : ℕ → Bool) (s : List ℕ) (t i n : ℕ) → t ≤ i → i < n → n ≤ length s → p (get_or s i 0) ≡ true →
    any p (slice t n s) ≡ true
among p s t i n h l fits e =
    ap (λ (x : List ℕ). any p (drop t x)) (sym (passed-and-left s i n (omega arith)))
    ∙ ap (any p) (drop-append-le t (take i s) (slice i n s) (omega (arith, length-take-le i s (omega arith))))
    ∙ any_append p (slice t i s) (slice i n s)
    ∙ or_right (any p (slice t i s)) (any p (slice i n s)) (sym (found p _ s i n refl l fits e))
