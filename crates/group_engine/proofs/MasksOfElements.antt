-- Where the masks tell the conflicts c among the n first elements, the groups by masks are those elements' groups by
-- their definition, and the masks are as the search asks. Assumes nothing.
use mathlib.Core.Path.{◌≡◌, sym, ◌∙◌}
use mathlib.Core.Bool.{Bool, false}
use mathlib.Core.List.{List}
use Prim.Native.Nat.{ℕ, ◌<◌}
use Rattle.math_maximal.specs.Groups.{every, groups}
use Rattle.math_maximal.proofs.Groups.{below_at, groups-agree}
use Rattle.group_engine.specs.SearchForms.{conflict, by_masks, Conflicts}

module _ (c : ℕ → ℕ → Bool) (n : ℕ) (ms : List ℕ)
    (h : (i j : ℕ) → i < n → j < n → conflict ms i j ≡ c i j) where
  pub groups-of-elements : by_masks ms n ≡ groups c n every
  groups-of-elements =
      groups-agree (conflict ms) c n every (λ i j a b. h i j (below_at n every i a).0 (below_at n every j b).0)

  pub conflicts-of-elements :
      ((i j : ℕ) → c i j ≡ c j i) → ((i : ℕ) → c i i ≡ false) → Conflicts ms n
  conflicts-of-elements turn irr = record {
    turned = λ i j a b. h i j a b ∙ turn i j ∙ sym (h j i b a);
    not_itself = λ i a. h i i a a ∙ irr i;
  }
