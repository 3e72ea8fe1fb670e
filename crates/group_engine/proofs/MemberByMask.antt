-- A group by masks: a Set is a member exactly if its mask is compatible with the group. Assumes nothing.
use mathlib.Core.Path.{◌≡◌, sym, ◌∙◌}
use mathlib.Core.Bool.{true, not, ◌&&◌, beq}
use mathlib.Core.List.{List}
use Prim.Native.Nat.{ℕ, ◌^◌, ◌<◌}
use lib.ListN.{get_or}
use borrow.Author.Tests.{not-true}
use Rattle.math_lists.specs.NumbersBelow.{all}
use Rattle.math_lists.proofs.Booleans.{same_test, beq-on, beq-eq, then-off, off-where}
use Rattle.math_lists.proofs.NumbersBelow.{all-on, all-at}
use Rattle.math_maximal.specs.MaximalSets.{◌⊆◌}
use Rattle.math_maximal.specs.Groups.{bit, fits, is_maximal}
use Rattle.math_maximal.specs.Step.{compatible}
use Rattle.math_maximal.proofs.Bits.{bit_below, compatible-on, compatible-at}
use Rattle.group_engine.specs.SearchForms.{conflict, is_group}

-- ---- what is compatible with a set is compatible with a part of it

pub compatible-part :
    (n m g h : ℕ) → g < 2 ^ n → bit g ⊆ bit h → compatible m h ≡ true → compatible m g ≡ true
compatible-part n m g h l s e = compatible-on m g n l (λ i b. compatible-at m h e i (s i b))

-- ---- the members of a group

module _ (ms : List ℕ) (n g : ℕ) (l : g < 2 ^ n) where
  fits_mask : (i : ℕ) → fits (conflict ms) n (bit g) i ≡ compatible (get_or ms i 0) g
  unfolding fits
  fits_mask i =
      let m = get_or ms i 0 in
      same_test (all n (λ j. not (bit g j && bit m j))) (compatible m g)
      (λ h. compatible-on m g n l
      (λ j b. then-off (bit g j) (bit m j) b
      (not-true (bit g j && bit m j) (all-at n (λ j. not (bit g j && bit m j)) h j (bit_below n g l j b)))))
      (λ h. all-on n (λ j. not (bit g j && bit m j))
      (λ j k. rw (off-where (bit g j) (bit m j) (λ b. compatible-at m g h j b))))

  pub group_at : is_group ms n g ≡ true → (i : ℕ) → i < n → bit g i ≡ compatible (get_or ms i 0) g
  unfolding is_maximal
  group_at h i k =
      beq-eq (bit g i) (fits (conflict ms) n (bit g) i)
      (all-at n (λ i. beq (bit g i) (fits (conflict ms) n (bit g) i)) h i k)
      ∙ fits_mask i

  pub group-on : ((i : ℕ) → i < n → bit g i ≡ compatible (get_or ms i 0) g) → is_group ms n g ≡ true
  unfolding is_maximal
  group-on h =
      all-on n (λ i. beq (bit g i) (fits (conflict ms) n (bit g) i))
      (λ i k. beq-on (bit g i) (fits (conflict ms) n (bit g) i) (h i k ∙ sym (fits_mask i)))
