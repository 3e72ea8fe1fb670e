-- What is left of what a limited Set has seen, and whether it lists what is disputed of that, by the numbers of the
-- Sets before it: what the loops give is what the definition asks. Assumes nothing.
use mathlib.Core.Path.{◌≡◌, refl, sym, ap, ◌∙◌}
use mathlib.Core.Bool.{Bool, true, false, not, ◌&&◌, ◌||◌, not-not}
use mathlib.Core.List.{List}
use Prim.Native.Nat.{ℕ, ◌-◌, ◌^◌, ◌≤◌, ◌<◌}
use native.Mathlib.Omega.{arith}
use lib.Bits.{bit_and}
use lib.Dec.{eqb}
use lib.ListN.{get_or}
use lib.Pow.{pow_mono}
use borrow.Author.Tests.{lt-ltb}
use Rattle.math_lists.specs.NumbersBelow.{some, all, mask}
use Rattle.math_lists.proofs.NumbersBelow.{mask_below}
use Rattle.math_maximal.specs.Groups.{bit, below}
use Rattle.math_maximal.specs.Step.{compatible}
use Rattle.math_maximal.proofs.Bits.{bit-minus}
use Rattle.math_maximal.proofs.Masks.{mask-bit}
use Rattle.math_contexts.specs.Box.{Box, disputed, disputed_by}
use Rattle.math_contexts.specs.Contexts.{contexts}
use Rattle.math_contexts.specs.MaskForms.{foes, reach_mask}
use Rattle.math_contexts.proofs.ContextMembers.{contexts-hold, context-below}
use Rattle.group_step.specs.GroupRows.{most_sets}
use Rattle.group_context.specs.RowForms.{meeting}
use Rattle.group_context.specs.RowsOfBox.{NextOf, is_left}
use Rattle.group_context.proofs.MaskFromBits.{is-mask, same-masks, compatible-same, compatible-with}
use Rattle.group_context.proofs.MetByRows.{meets, foes-met, union-meets}
use Rattle.group_context.proofs.ReachedByRows.{held_at}
use Rattle.group_context.proofs.ContextByListed.{is_listed}

module _ {b : Box} {n : ℕ} {plains cs : List ℕ} {v w : ℕ} (next : NextOf b n plains cs v w true)
    (few : n ≤ most_sets) where
  abbrev u : ℕ
  u = foes b n (b.named n)

  w-small : w < 2 ^ n
  w-small = rw next.named (mask_below n (b.named n))

  v-small : v < 2 ^ n
  v-small = rw next.seen (mask_below n (b.seen n))

  -- f has the foes of what is listed, below n
  module _ (f : ℕ) (union : (y : ℕ) → bit f y ≡ some most_sets (λ j. bit w j && bit (get_or plains j 0) y)) where
    foe-bits : (y : ℕ) → y < n → bit f y ≡ bit u y
    foe-bits y l =
        union-meets b n plains next.plainly few w w-small f union y l
        ∙ ap (λ (x : ℕ). bit (meeting plains n x) y) next.named
        ∙ ap (λ (x : ℕ). bit x y) (foes-met b n plains next.plainly (b.named n))

    -- c has what was seen and reaches none of them
    module _ (c : ℕ) (part : c ≤ v - bit_and v f)
        (held : (j : ℕ) → bit c j ≡ (bit (v - bit_and v f) j && compatible f (get_or cs j 0))) where
      reached : (j : ℕ) → j < n → (not (bit f j) && compatible f (get_or cs j 0))
          ≡ compatible u (reach_mask (contexts b n) j)
      reached j l =
          let g = get_or (contexts b n) j 0 in
          let small : g < 2 ^ j = rw (contexts-hold b n j l) (context-below b j) in
          rw (foe-bits j l, held_at b n cs next.before j l)
          (ap (λ (t : Bool). not (bit u j) && t)
          (compatible-same n f u g (omega (arith, small, pow_mono {i = j} {j = n} (omega arith))) foe-bits)
          ∙ neither-of (bit u j) (compatible u g)
          ∙ ap not (sym (compatible-with u g j small))
          ∙ not-not (compatible u (reach_mask (contexts b n) j)))
        where
          neither-of : (a t : Bool) → (not a && t) ≡ not (a || not t)
          neither-of true t = refl
          neither-of false true = refl
          neither-of false false = refl

      left_at : (j : ℕ) → j < n → bit c j ≡ is_left b n j
      left_at j l =
          held j
          ∙ rw (bit-minus v f j, next.seen, mask-bit n (b.seen n) j l)
          (three (b.seen n j) (not (bit f j)) (compatible f (get_or cs j 0))
          ∙ ap (λ (t : Bool). b.seen n j && t) (reached j l))
        where
          three : (p q r : Bool) → ((p && q) && r) ≡ (p && (q && r))
          three true q r = refl
          three false q r = refl

      pub left_is : c ≡ mask n (is_left b n)
      left_is = is-mask n c (is_left b n) (omega (arith, v-small)) left_at

-- c is what is left, and t has those of it that conflict with nothing that was seen
module _ {b : Box} {n : ℕ} {plains cs : List ℕ} {v w : ℕ} (next : NextOf b n plains cs v w true) (c : ℕ)
    (its : c ≡ mask n (is_left b n)) (t : ℕ)
    (calm : (j : ℕ) → bit t j ≡ (bit c j && compatible v (get_or plains j 0))) where
  disputed-at : (j : ℕ) → j < n → bit (c - bit_and c t) j ≡ (is_left b n j && disputed_by b n j)
  unfolding disputed below
  disputed-at j l =
      let clear = compatible (foes b n (b.named n)) (reach_mask (contexts b n) j) in
      let left : bit c j ≡ is_left b n j = ap (λ (x : ℕ). bit x j) its ∙ mask-bit n (is_left b n) j l in
      bit-minus c t j
      ∙ rw (calm j, left, next.seen, lt-ltb j n l)
      (only-left (is_left b n j) (compatible (mask n (b.seen n)) (get_or plains j 0))
      ∙ ap (λ (x : Bool). is_left b n j && x) (meets b n plains next.plainly (b.seen n) j l)
      ∙ seen-too (b.seen n j) clear (some n (λ k. b.seen n k && b.plain j k)))
    where
      only-left : (p q : Bool) → (p && not (p && q)) ≡ (p && not q)
      only-left true q = refl
      only-left false q = refl

      seen-too : (p q r : Bool) → ((p && q) && r) ≡ ((p && q) && (p && r))
      seen-too true q r = refl
      seen-too false q r = refl

  pub listed-is : eqb w (c - bit_and c t) ≡ all n (is_listed b n)
  listed-is =
      let f : ℕ → Bool = λ j. is_left b n j && disputed_by b n j in
      let small : c - bit_and c t < 2 ^ n = omega (arith, its, mask_below n (is_left b n)) in
      rw (is-mask n (c - bit_and c t) f small disputed-at, next.named) (same-masks n (b.named n) f)
