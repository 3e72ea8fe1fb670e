-- Whether one of the elements of a list passes; one element more of those at the front of a list, and one Set more of
-- those in the first places. Assumes nothing.
use mathlib.Core.Path.{◌≡◌, refl, ap, ◌∙◌}
use mathlib.Core.Bool.{Bool, ◌||◌}
use mathlib.Core.List.{List, [], ◌∷◌, ◌++◌, map, map-append}
use Prim.Native.Nat.{ℕ, suc, ◌<◌}
use lib.ListN.{length, get_or, take}
use lib.Seq.{take-suc}
use Rattle.std.specs.List.{list_any}
use Rattle.math_lists.specs.SortedLists.{any}
use Rattle.math_lists.proofs.GrownAtEnd.{any_snoc}
use Rattle.edit_history.specs.EditsHeld.{record_at}
use Rattle.group_sight.specs.SightForms.{sets_in}

-- the library's test of them
pub any-of-map : {A B : Type 0} (f : B → Bool) (g : A → B) (xs : List A) → list_any (λ x. f (g x)) xs ≡ any f (map g xs)
unfolding any
any-of-map f g [] = refl
any-of-map f g (x ∷ xs) = ap (λ (b : Bool). f (g x) || b) (any-of-map f g xs)

module _ {A B : Type 0} (g : A → B) (d : A) (xs : List A) (i : ℕ) (l : i < length xs) where
  pub taken_more : map g (take (suc i) xs) ≡ map g (take i xs) ++ (g (get_or xs i d) ∷ [])
  taken_more = ap (map g) (take-suc xs i d l) ∙ map-append g (take i xs) (get_or xs i d ∷ [])

  -- whether one of them passes
  pub any-more :
      (f : B → Bool) → any f (map g (take (suc i) xs)) ≡ (any f (map g (take i xs)) || f (g (get_or xs i d)))
  any-more f = ap (any f) taken_more ∙ any_snoc f (map g (take i xs)) (g (get_or xs i d))

pub sets_more :
    (rs ps : List ℕ) (i : ℕ) → i < length ps →
    sets_in rs ps (suc i) ≡ sets_in rs ps i ++ (record_at rs (get_or ps i 0) ∷ [])
sets_more rs ps i l = taken_more (record_at rs) 0 ps i l
