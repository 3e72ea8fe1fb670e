-- Another order of arrival of the same Sets: the same box under another numbering. Assumes that no Set stands twice,
-- that `eq` tells the Sets apart, and that both orders are causal.
use mathlib.Core.Path.{◌≡◌}
use mathlib.Core.Bool.{Bool, true}
use mathlib.Core.List.{List}
use Prim.Native.Nat.{ℕ, ◌<◌}
use lib.ListN.{length, get_or}
use Rattle.math_maximal.specs.MaximalSets.{◌⊆◌}
use Rattle.math_maximal.proofs.AnotherOrder.{has, Distinct, place, there, here, place-of}
use Rattle.math_contexts.specs.Box.{Box, CausalBox}
use Rattle.math_contexts.specs.SameSets.{SameSets}
use Rattle.math_contexts.specs.BoxByArrival.{rel, box_of}
use Rattle.math_contexts.proofs.SameSetsTurned.{causal-seen, causal-named}

module _ {E : Type 0} (d : E) (conf saw lists : E → E → Bool) (lim : E → Bool)
    (eq : E → E → Bool) (eq-on : (x y : E) → eq x y ≡ true → x ≡ y) (eq_self : (x : E) → eq x x ≡ true) where
  abbrev B : List E → Box
  B = box_of d conf saw lists lim

  module _ (xs zs : List E) (ux : Distinct d xs) (uz : Distinct d zs)
      (sub : has eq zs ⊆ has eq xs) (sup : has eq xs ⊆ has eq zs)
      (causal : CausalBox (B xs) (length xs)) (causal' : CausalBox (B zs) (length zs)) where
    -- the number in xs of the one that has the number i in zs; and the other way round
    abbrev to : ℕ → ℕ
    to i = place eq xs (get_or zs i d)

    abbrev fro : ℕ → ℕ
    fro j = place eq zs (get_or xs j d)

    abbrev at : (i : ℕ) → i < length zs → (to i < length xs) × (get_or xs (to i) d ≡ get_or zs i d)
    at = there d eq eq-on eq_self xs zs ux uz sub sup

    abbrev back_at : (j : ℕ) → j < length xs → (fro j < length zs) × (get_or zs (fro j) d ≡ get_or xs j d)
    back_at = here d eq eq-on eq_self xs zs ux uz sub sup

    -- any relation between Sets is the same under both numberings
    same-rel :
        (r : E → E → Bool) (i j : ℕ) → i < length zs → j < length zs → rel d r zs i j ≡ rel d r xs (to i) (to j)
    unfolding rel
    same-rel r i j l k = rw ((at i l).1, (at j k).1)

    pub same-sets : SameSets (B xs) (length xs) (B zs) (length zs) to fro
    same-sets = record {
      into = λ i l. (at i l).0;
      back = λ j l. (back_at j l).0;
      there = λ j l. rw (back_at j l).1 (place-of d eq eq-on eq_self xs ux j l);
      again = λ i l. rw (at i l).1 (place-of d eq eq-on eq_self zs uz i l);
      plains = same-rel conf;
      seens = same-rel saw;
      limiteds = λ i l. rw (at i l).1;
      nameds = same-rel lists;
      seen_order = causal-seen (B xs) (length xs) (B zs) (length zs) to (λ i l. (at i l).0) (same-rel saw)
          causal causal';
      named_order = causal-named (B xs) (length xs) (B zs) (length zs) to (λ i l. (at i l).0) (same-rel saw)
          causal causal';
    }
