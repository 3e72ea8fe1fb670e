-- Sets in the order of their arrival, xs: their box is lawful by what holds of any Sets with a property P that all of
-- xs have, as that of being accepted. What is assumed of `conf`, `saw` and P stands in the law.
use mathlib.Core.Path.{◌≡◌}
use mathlib.Core.Bool.{Bool, true, false}
use mathlib.Core.List.{List}
use Prim.Native.Nat.{ℕ, ◌≤◌, ◌<◌}
use native.Mathlib.Omega.{arith}
use lib.ListN.{length, get_or}
use Rattle.math_contexts.specs.Box.{Lawful}
use Rattle.math_contexts.specs.BoxByArrival.{rel, box_of}

module _ {E : Type 0} (d : E) (conf saw lists : E → E → Bool) (lim : E → Bool) where
  pub lawful-box :
      ((x y : E) → conf x y ≡ conf y x) → ((x : E) → conf x x ≡ false) → (P : E → Type 0) →
      ((x y z : E) → P x → P y → P z → saw x y ≡ true → saw y z ≡ true → saw x z ≡ true) →
      ((x y : E) → P x → P y → saw x y ≡ true → conf x y ≡ false) →
      (xs : List E) → ((i : ℕ) → i < length xs → P (get_or xs i d)) →
      (n : ℕ) → n ≤ length xs → Lawful (box_of d conf saw lists lim xs) n
  unfolding rel
  lawful-box sm irr P tr apart xs has n few = record {
    symmetric = λ i j. sm (get_or xs i d) (get_or xs j d);
    irreflexive = λ i. irr (get_or xs i d);
    transitive = λ i j k l m o.
        tr (get_or xs i d) (get_or xs j d) (get_or xs k d) (has i (omega arith)) (has j (omega arith)) (has k (omega arith));
    compatible = λ i j l m. apart (get_or xs i d) (get_or xs j d) (has i (omega arith)) (has j (omega arith));
  }
