-- Where the numbers tell the conflicts of the first n Sets of a box, those whose number has a member of a set are the
-- foes of that set; and so are all members of the numbers of its members. Assumes nothing.
use mathlib.Core.Path.{◌≡◌, sym, ◌∙◌, ap}
use mathlib.Core.Bool.{Bool, not, ◌&&◌}
use mathlib.Core.List.{List}
use Prim.Native.Nat.{ℕ, ◌^◌, ◌≤◌, ◌<◌}
use native.Mathlib.Omega.{arith}
use lib.ListN.{get_or}
use Rattle.math_lists.specs.NumbersBelow.{some, mask}
use Rattle.math_lists.proofs.Booleans.{same_test, both, and-on}
use Rattle.math_lists.proofs.NumbersBelow.{some-on, some_at, some_same, mask_below, mask-same}
use Rattle.math_maximal.specs.Groups.{bit}
use Rattle.math_maximal.specs.Step.{compatible}
use Rattle.math_maximal.proofs.Bits.{bit_below, some-common}
use Rattle.math_maximal.proofs.Masks.{mask-bit}
use Rattle.math_contexts.specs.Box.{Box}
use Rattle.math_contexts.specs.MaskForms.{foes}
use Rattle.group_step.specs.GroupRows.{most_sets}
use Rattle.group_context.specs.RowForms.{meeting}
use Rattle.group_context.specs.RowsOfBox.{PlainRows}
use Rattle.group_context.proofs.MaskFromBits.{is-mask, own-mask}

pub bit-meeting :
    (rows : List ℕ) (n m j : ℕ) → j < n → bit (meeting rows n m) j ≡ not (compatible m (get_or rows j 0))
unfolding meeting
bit-meeting rows n m j l = mask-bit n (λ j. not (compatible m (get_or rows j 0))) j l

pub meeting-below : (rows : List ℕ) (n m : ℕ) → meeting rows n m < 2 ^ n
unfolding meeting
meeting-below rows n m = mask_below n (λ j. not (compatible m (get_or rows j 0)))

module _ (b : Box) (n : ℕ) (plains : List ℕ) (rows : PlainRows b n plains) (P : ℕ → Bool) where
  -- j conflicts with a member of P
  pub meets : (j : ℕ) → j < n → not (compatible (mask n P) (get_or plains j 0)) ≡ some n (λ k. P k && b.plain j k)
  meets j l =
      sym (some-common n (mask n P) (get_or plains j 0) (mask_below n P))
      ∙ some_same n (λ k. bit (mask n P) k && bit (get_or plains j 0) k) (λ k. P k && b.plain j k)
      (λ k m. rw (mask-bit n P k m, rows.conflicts j k l m))

  pub foes-met : meeting plains n (mask n P) ≡ foes b n P
  unfolding meeting
  foes-met =
      mask-same n (λ j. not (compatible (mask n P) (get_or plains j 0))) (λ y. some n (λ x. P x && b.plain x y))
      (λ j l. meets j l
      ∙ some_same n (λ k. P k && b.plain j k) (λ k. P k && b.plain k j)
      (λ k m. ap (λ (t : Bool). P k && t) (rows.symmetric j k l m)))

-- the set given by its number
pub foes-of :
    (b : Box) (n : ℕ) (plains : List ℕ) → PlainRows b n plains → (c : ℕ) → c < 2 ^ n →
    meeting plains n c ≡ foes b n (bit c)
foes-of b n plains rows c small =
    ap (meeting plains n) (sym (own-mask n c small)) ∙ foes-met b n plains rows (bit c)

-- f has the members of the numbers of the members of c: below n they are those whose number has a member of c
module _ (b : Box) (n : ℕ) (plains : List ℕ) (rows : PlainRows b n plains) (few : n ≤ most_sets) (c : ℕ)
    (small : c < 2 ^ n) (f : ℕ) (union : (y : ℕ) → bit f y ≡ some most_sets (λ j. bit c j && bit (get_or plains j 0) y))
  where
    turned : (j y : ℕ) → j < n → y < n → bit (get_or plains j 0) y ≡ bit (get_or plains y 0) j
    turned j y l k = rows.conflicts j y l k ∙ rows.symmetric j y l k ∙ sym (rows.conflicts y j k l)

    pub union-meets : (y : ℕ) → y < n → bit f y ≡ bit (meeting plains n c) y
    union-meets y l =
        union y
        ∙ same_test (some most_sets (λ j. bit c j && bit (get_or plains j 0) y))
        (some n (λ k. bit c k && bit (get_or plains y 0) k))
        (λ t. let (j, _, p) = some_at most_sets (λ j. bit c j && bit (get_or plains j 0) y) t in
        let (q, r) = both (bit c j) (bit (get_or plains j 0) y) p in
        let low = bit_below n c small j q in
        some-on n (λ k. bit c k && bit (get_or plains y 0) k) j low
        (and-on (bit c j) (bit (get_or plains y 0) j) q (sym (turned j y low l) ∙ r)))
        (λ t. let (j, low, p) = some_at n (λ k. bit c k && bit (get_or plains y 0) k) t in
        let (q, r) = both (bit c j) (bit (get_or plains y 0) j) p in
        some-on most_sets (λ j. bit c j && bit (get_or plains j 0) y) j (omega arith)
        (and-on (bit c j) (bit (get_or plains j 0) y) q (turned j y low l ∙ r)))
        ∙ some-common n c (get_or plains y 0) small
        ∙ sym (bit-meeting plains n c y l)

    -- all of them, where it is cut off there
    pub union-is : (r : ℕ) → r < 2 ^ n → ((j : ℕ) → j < n → bit r j ≡ bit f j) → r ≡ meeting plains n c
    union-is r l h =
        is-mask n r (bit (meeting plains n c)) l (λ j k. h j k ∙ union-meets j k)
        ∙ own-mask n (meeting plains n c) (meeting-below plains n c)
