-- A list with the part of w elements from `at` on replaced: the part is as written, everything else as it was.
-- Assumes nothing.
use mathlib.Core.Path.{◌≡◌, sym, ap, ◌∙◌}
use mathlib.Core.List.{List, ◌++◌}
use Prim.Native.Nat.{ℕ, suc, ◌+◌, ◌-◌, ◌≤◌, ◌<◌}
use native.Mathlib.Nat.{le_of_lt}
use native.Mathlib.Numerals.{add-one}
use native.Mathlib.Omega.{arith}
use lib.ListN.{length, get_or, set, take, drop, length-drop, length-append, get_or-append}
use lib.Seq.{length-take-le, take-suc, drop-cons, append_snoc, set_at, get_or-take, get_or-drop, drop_at, drop-drop}

abbrev pub put : List ℕ → ℕ → ℕ → List ℕ → List ℕ
put l at w r = take at l ++ (r ++ drop (at + w) l)

module _ (l : List ℕ) (at w : ℕ) (r : List ℕ) (whole : length r ≡ w) (room : at + w ≤ length l) where
  front_long : length (take at l) ≡ at
  front_long = length-take-le at l (omega arith)

  pub put-long : length (put l at w r) ≡ length l
  put-long = simp (length-append, length-drop) (omega (arith, front_long))

  pub put-before : (i : ℕ) → i < at → get_or (put l at w r) i 0 ≡ get_or l i 0
  put-before i k =
      get_or-append (take at l) (r ++ drop (at + w) l) 0 i (omega (arith, front_long)) ∙ get_or-take at l i 0 k

  pub put-from : drop at (put l at w r) ≡ r ++ drop (at + w) l
  put-from = drop_at (take at l) (r ++ drop (at + w) l) at front_long

  pub put-inside : (i : ℕ) → i < w → get_or (put l at w r) (at + i) 0 ≡ get_or r i 0
  put-inside i k =
      sym (get_or-drop at (put l at w r) i 0) ∙ ap (λ (x : List ℕ). get_or x i 0) put-from
      ∙ get_or-append r (drop (at + w) l) 0 i (omega arith)

  pub put-behind : drop (at + w) (put l at w r) ≡ drop (at + w) l
  put-behind = sym (drop-drop w at (put l at w r)) ∙ ap (drop w) put-from ∙ drop_at r (drop (at + w) l) w whole

  pub put-after : (i : ℕ) → at + w ≤ i → get_or (put l at w r) i 0 ≡ get_or l i 0
  put-after i k =
      let j = i - (at + w) in
      let e : at + w + j ≡ i = omega arith in
      rw (← e)
      (sym (get_or-drop (at + w) (put l at w r) j 0) ∙ ap (λ (x : List ℕ). get_or x j 0) put-behind
      ∙ get_or-drop (at + w) l j 0)

-- ---- a copy, one element further

pub copy_more :
    (d b : List ℕ) (i : ℕ) → i < length d → i < length b →
    set (take i b ++ drop i d) i (get_or b i 0) ≡ take (i + 1) b ++ drop (i + 1) d
copy_more d b i hd hb =
    rw (add-one, drop-cons d i 0, take-suc b i 0)
    (set_at (take i b) (get_or d i 0) (drop (suc i) d) (get_or b i 0) i (length-take-le i b (le_of_lt hb))
    ∙ sym (append_snoc (take i b) (get_or b i 0) (drop (suc i) d)))
