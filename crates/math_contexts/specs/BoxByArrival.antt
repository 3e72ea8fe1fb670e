-- The box of Sets in the order of their arrival, xs. d stands for an element past the end; `conf` says that two
-- conflict by document 01's rule, `saw x y` that the author of x had seen y, `lists x y` that y is one of the members
-- that x lists, and `lim` that a Set is of kind 3. Assumes nothing.
use Rattle.std.specs.Prelude.{Bool, List, ℕ, get_or}
use Rattle.math_contexts.specs.Box.{Box}

-- what a test says of the i-th and the j-th
unfoldable pub rel : {E : Type 0} → E → (E → E → Bool) → List E → ℕ → ℕ → Bool
rel d test xs i j = test (get_or xs i d) (get_or xs j d)

module _ {E : Type 0} (d : E) (conf saw lists : E → E → Bool) (lim : E → Bool) where
  -- what is known of them, by number
  abbrev pub box_of : List E → Box
  box_of l = record { plain = rel d conf l; seen = rel d saw l; limited = λ i. lim (get_or l i d); named = rel d lists l }
