-- The rows of groups as lists, and after one row is written: it is as written, every other as it was. Assumes nothing.
use mathlib.Core.Path.{◌≡◌, refl, sym, ap, ap₂, ◌∙◌}
use mathlib.Core.Bool.{true}
use mathlib.Core.List.{List, [], ◌∷◌, ◌++◌}
use Prim.Native.Nat.{ℕ, suc, ◌+◌, ◌-◌, ◌*◌, ◌^◌, ◌≤◌, ◌<◌}
use native.Mathlib.Omega.{arith}
use native.Mathlib.Decide.{dec_lt}
use lib.ListN.{length, get_or, take, drop, replicate, length-drop, length-append, length-replicate}
use lib.ListN.{get_or-replicate, get_or-append}
use lib.Seq.{length-take-le, get_or-take, get_or-drop, get_or-append-add, take-append-le, take_all, ext_get_or}
use Rattle.math_lists.specs.SortedLists.{elem, Ascending}
use Rattle.math_lists.proofs.ByPlaces.{elem-place, place-elem, ascending-on, ascending-at}
use Rattle.math_lists.proofs.ReplacedPart.{put-long, put-before, put-inside, put-after, put-from}
use Rattle.group_step.specs.GroupRows.{most_groups, row, put_row}
use Rattle.table_soundness.proofs.EachObject.{Row}

-- ---- the groups in use

all-zero : (l : List ℕ) → ((i : ℕ) → i < length l → get_or l i 0 ≡ 0) → l ≡ replicate (length l) 0
all-zero [] h = refl
all-zero (x ∷ l) h = ap₂ (λ (y : ℕ) (r : List ℕ). y ∷ r) (h 0 (omega arith)) (all-zero l (λ i m. h (suc i)
    (omega arith)))

module _ (gs : List ℕ) (o k g : ℕ) (x : Row gs o k g) (fits : o * most_groups + most_groups ≤ length gs) where
  abbrev used : List ℕ
  used = take g (row o gs)

  row-long : length (row o gs) ≡ most_groups
  row-long =
      length-take-le most_groups (drop (o * most_groups) gs) (omega (arith, length-drop (o * most_groups) gs))

  pub used-long : length used ≡ g
  used-long = length-take-le g (row o gs) (omega (arith, row-long, x.few))

  used-at : (i : ℕ) → i < g → get_or used i 0 ≡ get_or gs (o * most_groups + i) 0
  used-at i l =
      get_or-take g (row o gs) i 0 l ∙ get_or-take most_groups (drop (o * most_groups) gs) i 0 (omega (arith, x.few))
      ∙ get_or-drop (o * most_groups) gs i 0

  pub used-ascending : Ascending used
  used-ascending =
      ascending-on used (λ i l.
      let m : suc i < g = omega (arith, used-long) in
      let e : o * most_groups + i + 1 ≡ o * most_groups + suc i = omega arith in
      rw (used-at i (omega arith), used-at (suc i) m) (rw e at (x.rising i (omega arith))))

  pub used-below : (y : ℕ) → elem y used ≡ true → y < 2 ^ k
  used-below y h =
      let (i, l, e) = elem-place y used h in
      let m : i < g = omega (arith, used-long) in
      rw (← e, used-at i m) (x.small i m)

  pub used-some : elem (get_or used 0 0) used ≡ true
  used-some = place-elem used 0 (omega (arith, used-long, x.some))

  -- behind them the row is zero
  pub used-rest : drop g (row o gs) ≡ replicate (most_groups - g) 0
  used-rest =
      let long : length (drop g (row o gs)) ≡ most_groups - g = length-drop g (row o gs) ∙ omega (arith, row-long) in
      let zero-at : (i : ℕ) → i < length (drop g (row o gs)) → get_or (drop g (row o gs)) i 0 ≡ 0
      = λ i l. get_or-drop g (row o gs) i 0
      ∙ get_or-take most_groups (drop (o * most_groups) gs) (g + i) 0 (omega (arith, long))
      ∙ get_or-drop (o * most_groups) gs (g + i) 0
      ∙ x.rest (g + i) (omega (arith, long)) (omega arith) in
      all-zero (drop g (row o gs)) zero-at ∙ ap (λ (k : ℕ). replicate k 0) long

-- ---- the groups l written into the row of object o

module _ (gs : List ℕ) (o : ℕ) (l : List ℕ) (few : length l ≤ most_groups)
    (fits : o * most_groups + most_groups ≤ length gs) where
  abbrev filled : List ℕ
  filled = l ++ replicate (most_groups - length l) 0

  filled-long : length filled ≡ most_groups
  filled-long =
      length-append l (replicate (most_groups - length l) 0)
      ∙ omega (arith, length-replicate {A = ℕ} (most_groups - length l) 0)

  filled_at : (i : ℕ) → i < length l → get_or filled i 0 ≡ get_or l i 0
  filled_at i m = get_or-append l (replicate (most_groups - length l) 0) 0 i m

  filled-rest : (i : ℕ) → i < most_groups → length l ≤ i → get_or filled i 0 ≡ 0
  filled-rest i m n =
      let j = i - length l in
      let e : length l + j ≡ i = omega arith in
      rw (← e)
      (get_or-append-add l (replicate (most_groups - length l) 0) j 0
      ∙ get_or-replicate (most_groups - length l) j 0 0 (omega arith))

  abbrev gs' : List ℕ
  gs' = put_row o gs filled

  pub row-put-long : length gs' ≡ length gs
  row-put-long = put-long gs (o * most_groups) most_groups filled filled-long fits

  row_at : (i : ℕ) → i < most_groups → get_or gs' (o * most_groups + i) 0 ≡ get_or filled i 0
  row_at i m = put-inside gs (o * most_groups) most_groups filled filled-long fits i m

  pub row-elsewhere : (i : ℕ) → o * most_groups + most_groups ≤ i → get_or gs' i 0 ≡ get_or gs i 0
  row-elsewhere i m = put-after gs (o * most_groups) most_groups filled filled-long fits i m

  other_at :
      (p : ℕ) → (p ≡ o → ⊥) → (i : ℕ) → i < most_groups → get_or gs' (p * most_groups + i) 0 ≡ get_or gs
      (p * most_groups + i) 0
  other_at p d i m =
      elim (dec_lt p o) [
        | yes q ↦ put-before gs (o * most_groups) most_groups filled filled-long fits (p * most_groups + i) (omega arith)
        | no q ↦
            (let r : o < p = omega arith in
            row-elsewhere (p * most_groups + i) (omega arith))
      ]

  pub new_row : (k : ℕ) → Ascending l → ((y : ℕ) → elem y l ≡ true → y < 2 ^ k) → 1 ≤ length l → Row gs' o k (length l)
  new_row k asc low some =
      record {
        some = some;
        few = few;
        small = λ i m. rw (row_at i (omega arith), filled_at i m) (low (get_or l i 0) (place-elem l i m));
        rising =
            λ i m.
            let e : o * most_groups + i + 1 ≡ o * most_groups + suc i = omega arith in
            rw (
              e,
              row_at i (omega arith),
              row_at (suc i) (omega arith),
              filled_at i (omega arith),
              filled_at (suc i)
                  (omega arith),
            )
            (ascending-at l asc i (omega arith));
        rest = λ i m n. rw (row_at i m) (filled-rest i m n);
      }

  pub other_row : (p k g : ℕ) → (p ≡ o → ⊥) → Row gs p k g → Row gs' p k g
  other_row p k g d x =
      record {
        some = x.some;
        few = x.few;
        small = λ i m. rw (other_at p d i (omega (arith, x.few))) (x.small i m);
        rising =
            λ i m.
            let e : p * most_groups + i + 1 ≡ p * most_groups + (i + 1) = omega arith in
            rw (e, other_at p d i (omega (arith, x.few)), other_at p d (i + 1) (omega (arith, x.few)))
            (rw e at (x.rising i m));
        rest = λ i m n. rw (other_at p d i m) (x.rest i m n);
      }

  -- ---- read back

  pub row_back : take (length l) (row o gs') ≡ l
  row_back =
      let from : drop (o * most_groups) gs' ≡ filled ++ drop (o * most_groups + most_groups) gs
      = put-from gs (o * most_groups) most_groups filled filled-long fits in
      let whole : row o gs' ≡ filled
      = ap (take most_groups) from
      ∙ take-append-le most_groups filled (drop (o * most_groups + most_groups) gs) (omega (arith, filled-long))
      ∙ take_all most_groups filled (omega (arith, filled-long)) in
      ap (take (length l)) whole ∙ take-append-le (length l) l (replicate (most_groups - length l) 0) (omega arith)
      ∙ take_all (length l) l (omega arith)

  pub row_other : (p : ℕ) → (p ≡ o → ⊥) → p * most_groups + most_groups ≤ length gs → row p gs' ≡ row p gs
  row_other p d m =
      let a = drop (p * most_groups) gs' in
      let b = drop (p * most_groups) gs in
      let la : length (take most_groups a) ≡ most_groups
      = length-take-le most_groups a (omega (arith, length-drop (p * most_groups) gs', row-put-long)) in
      let lb : length (take most_groups b) ≡ most_groups
      = length-take-le most_groups b (omega (arith, length-drop (p * most_groups) gs)) in
      ext_get_or 0 (take most_groups a) (take most_groups b) (la ∙ sym lb) (λ i k.
      let j : i < most_groups = omega arith in
      get_or-take most_groups a i 0 j ∙ get_or-drop (p * most_groups) gs' i 0 ∙ other_at p d i j
      ∙ sym (get_or-drop (p * most_groups) gs i 0) ∙ sym (get_or-take most_groups b i 0 j))
