-- Sets in the order of their arrival, xs, and more that arrive after them: what is known of the first and their
-- contexts stay as they were. Assumes nothing.
use mathlib.Core.Path.{◌≡◌}
use mathlib.Core.Bool.{Bool}
use mathlib.Core.List.{List, ◌++◌}
use Prim.Native.Nat.{ℕ, ◌<◌}
use lib.ListN.{length, get_or, get_or-append}
use Rattle.math_contexts.specs.Box.{Box}
use Rattle.math_contexts.specs.Contexts.{contexts}
use Rattle.math_contexts.specs.SameSets.{SameBelow}
use Rattle.math_contexts.specs.BoxByArrival.{rel, box_of}
use Rattle.math_contexts.proofs.LaterSets.{contexts-later}

module _ {E : Type 0} (d : E) (conf saw lists : E → E → Bool) (lim : E → Bool) (xs more : List E) where
  abbrev ys : List E
  ys = xs ++ more

  abbrev B : List E → Box
  B = box_of d conf saw lists lim

  pub first-keep : SameBelow (B xs) (B ys) (length xs)
  unfolding rel
  first-keep = record {
    plains = λ i j l k. rw (old i l, old j k);
    seens = λ i j l k. rw (old i l, old j k);
    limiteds = λ i l. rw (old i l);
    nameds = λ i j l k. rw (old i l, old j k);
  }
    where
      old : (i : ℕ) → i < length xs → get_or ys i d ≡ get_or xs i d
      old i l = get_or-append xs more d i l

  -- the table of the contexts
  pub contexts-keep : contexts (B ys) (length xs) ≡ contexts (B xs) (length xs)
  contexts-keep = contexts-later first-keep
