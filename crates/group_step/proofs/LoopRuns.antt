-- A loop that goes through the n first numbers of a list: what it has passed stands in front, `take i s`, and what is
-- left is `slice i n s`. Assumes nothing.
use mathlib.Core.Path.{◌≡◌, sym, ap, ◌∙◌}
use mathlib.Core.List.{List, [], ◌∷◌, ◌++◌}
use Prim.Native.Nat.{ℕ, ◌+◌, ◌≤◌, ◌<◌}
use native.Mathlib.Nat.{le_antisymm}
use native.Mathlib.Numerals.{add-one}
use native.Mathlib.Omega.{arith}
use lib.ListN.{length, get_or, take, drop, set, take-append-drop}
use lib.Seq.{slice, slice-cons, slice_empty, take-suc, take-suc-set, append_snoc, take-set-lt, drop-set-lt}
use lib.Seq.{take-take, drop-drop}

-- one number more is passed as it is
pub passed :
    (s : List ℕ) (i : ℕ) (rest : List ℕ) → i < length s →
    take (i + 1) s ++ rest ≡ take i s ++ (get_or s i 0 ∷ rest)
passed s i rest h = rw (add-one, take-suc s i 0) (append_snoc (take i s) (get_or s i 0) rest)

-- one number more is written
pub written :
    (s : List ℕ) (w z : ℕ) (rest : List ℕ) → w < length s →
    take (w + 1) (set s w z) ++ rest ≡ take w s ++ (z ∷ rest)
written s w z rest h = rw (add-one, take-suc-set s w z) (append_snoc (take w s) z rest)

-- the first of those left
pub next : (s : List ℕ) (i n : ℕ) → i < n → n ≤ length s → slice i n s ≡ get_or s i 0 ∷ slice (i + 1) n s
next s i n h l = rw add-one (slice-cons i n s 0 h l)

-- what is left does not see what is written before it
pub left-set-before : (s : List ℕ) (w j n z : ℕ) → w < j → w < n → slice j n (set s w z) ≡ slice j n s
left-set-before s w j n z h l = rw (take-set-lt n s w z, drop-set-lt j (take n s) w z)

pub left-set : (s : List ℕ) (i n z : ℕ) → i < n → slice (i + 1) n (set s i z) ≡ slice (i + 1) n s
left-set s i n z h = left-set-before s i (i + 1) n z (omega arith) h

pub none_left : (s : List ℕ) (i n : ℕ) → i ≤ n → n ≤ i → slice i n s ≡ []
none_left s i n h l = rw (le_antisymm h l) (slice_empty n s)

pub passed-and-left : (s : List ℕ) (i n : ℕ) → i ≤ n → take i s ++ slice i n s ≡ take n s
passed-and-left s i n h = rw (← take-take i n s) (take-append-drop i (take n s))

-- a number, those passed before it, and those left behind it
pub split :
    (s : List ℕ) (i n : ℕ) → i < n → n ≤ length s → take n s ≡ take i s ++ (get_or s i 0 ∷ slice (i + 1) n s)
split s i n h l = sym (passed-and-left s i n (omega arith)) ∙ ap (λ (r : List ℕ). take i s ++ r) (next s i n h l)

-- ---- a list that is written in front of what is left, which stays as it was in s₀

module _ (s₀ s : List ℕ) (i n : ℕ) (same : slice i n s ≡ slice i n s₀) where
  pub split-before :
      i < n → n ≤ length s → take n s₀ ≡ take i s₀ ++ (get_or s i 0 ∷ slice (i + 1) n s)
  split-before h l =
      sym (passed-and-left s₀ i n (omega arith))
      ∙ ap (λ (r : List ℕ). take i s₀ ++ r) (sym same ∙ next s i n h l)

  pub left-same : slice (i + 1) n s ≡ slice (i + 1) n s₀
  left-same = sym (drop-drop 1 i (take n s)) ∙ ap (drop 1) same ∙ drop-drop 1 i (take n s₀)
