-- Numbers that tell what a box says of its first Sets. The contracts hold for every box that the numbers tell of, so
-- that a caller takes the box of its edits. Then what is left of what a limited Set has seen. Assumes nothing.
use Rattle.std.specs.Prelude.{◌≡◌, Bool, ◌&&◌, cond, List, ℕ, ◌<◌, take, get_or}
use Rattle.math_lists.specs.NumbersBelow.{mask}
use Rattle.math_maximal.specs.Groups.{bit}
use Rattle.math_maximal.specs.Step.{compatible}
use Rattle.math_contexts.specs.Box.{Box}
use Rattle.math_contexts.specs.Contexts.{contexts}
use Rattle.math_contexts.specs.MaskForms.{reach_mask, foes}

-- of the first n Sets of b, two conflict by document 01's rule whichever is asked, and `plains` has a number for each:
-- those that it conflicts with; what its bits past the first n are does not matter
pub record PlainRows (b : Box) (n : ℕ) (plains : List ℕ) : Type 0 where
  pub symmetric : (i j : ℕ) → i < n → j < n → b.plain i j ≡ b.plain j i
  pub conflicts : (i j : ℕ) → i < n → j < n → bit (get_or plains i 0) j ≡ b.plain i j

-- Set n of b, by its own numbers, with the conflicts and the contexts of those before it
pub record NextOf (b : Box) (n : ℕ) (plains cs : List ℕ) (v w : ℕ) (limited : Bool) : Type 0 where
  pub plainly : PlainRows b n plains
  pub before : take n cs ≡ contexts b n
  pub seen : v ≡ mask n (b.seen n)
  pub named : w ≡ mask n (b.named n)
  pub limits : limited ≡ b.limited n

-- Set n has seen j, which reaches no foe of what Set n lists
abbrev pub is_left : Box → ℕ → ℕ → Bool
is_left b n j = b.seen n j && compatible (foes b n (b.named n)) (reach_mask (contexts b n) j)

-- these, of a limited Set: its context, where it names a version
unfoldable pub what_is_left : Box → ℕ → ℕ
what_is_left b n = cond (b.limited n) (mask n (is_left b n)) 0
