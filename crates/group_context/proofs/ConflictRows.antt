-- The conflicts of one of the first n Sets of a box with all of them, from the conflicts by document 01's rule and the
-- contexts, and in a list to which they are put down one after another. Assumes nothing.
use mathlib.Core.Path.{◌≡◌, sym, ◌∙◌, ap}
use mathlib.Core.Logic.{inl, inr}
use mathlib.Core.Bool.{◌&&◌}
use mathlib.Core.List.{List}
use Prim.Native.Nat.{ℕ, ◌+◌, ◌^◌, ◌<◌}
use native.Mathlib.Omega.{arith}
use lib.Bits.{bit_or}
use lib.ListN.{length, take, get_or, set}
use lib.Seq.{get_or-set_same, get_or-set_other}
use Rattle.math_lists.specs.NumbersBelow.{some, mask}
use Rattle.math_lists.proofs.LastBelow.{last}
use Rattle.math_lists.proofs.NumbersBelow.{mask_below}
use Rattle.math_contexts.specs.Box.{Box}
use Rattle.math_contexts.specs.Contexts.{contexts, reach, conflicts}
use Rattle.math_contexts.specs.MaskForms.{reach_mask, foes}
use Rattle.math_contexts.proofs.ContextsByMasks.{bit-reach, reach-small, conflicts-with-all}
use Rattle.group_context.specs.RowForms.{meeting, reaching, conflicts_of}
use Rattle.group_context.specs.RowsOfBox.{PlainRows}
use Rattle.group_context.proofs.MetByRows.{foes-of}
use Rattle.group_context.proofs.ReachedByRows.{held_at, reaching-is}

-- those of the first n that have a foe of Set i or of its context in their reach
abbrev pub conflict_row : List ℕ → List ℕ → ℕ → ℕ → ℕ
conflict_row plains cs n i = conflicts_of plains cs n 0 (reach_mask cs i)

pub conflict-row :
    (b : Box) (n : ℕ) (plains cs : List ℕ) → PlainRows b n plains → take n cs ≡ contexts b n →
    (i : ℕ) → i < n → conflict_row plains cs n i ≡ mask n (conflicts b i)
conflict-row b n plains cs rows held i l =
    let g = reach_mask (contexts b n) i in
    let same : reach_mask cs i ≡ g = ap (λ (c : ℕ). bit_or c (2 ^ i)) (held_at b n cs held i l) in
    ap (λ (c : ℕ). reaching cs n (meeting plains n c)) same
    ∙ ap (reaching cs n)
    (foes-of b n plains rows g (reach-small b n i l) ∙ ap (foes b n) (bit-reach b n i l))
    ∙ reaching-is b n cs held (foes b n (reach b i)) (mask_below n (λ y. some n (λ x. reach b i x && b.plain x y)))
    ∙ sym (conflicts-with-all b n i l)

-- one number more is put down
pub one-row-more :
    (f : ℕ → ℕ) (out : List ℕ) (i x : ℕ) → i < length out → x ≡ f i →
    ((k : ℕ) → k < i → get_or out k 0 ≡ f k) → (k : ℕ) → k < i + 1 → get_or (set out i x) k 0 ≡ f k
one-row-more f out i x l e inv k m = elim (last {i = k} {n = i} (omega arith)) [
  | inl p ↦ get_or-set_other out i k x 0 (λ q. omega arith) ∙ inv k p
  | inr q ↦ rw q (get_or-set_same out i x 0 l ∙ e)
]
