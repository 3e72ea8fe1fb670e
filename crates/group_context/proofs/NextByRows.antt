-- The Sets before Set n of a box that conflict with it, by its own numbers and what is known of those before it.
-- Assumes nothing.
use mathlib.Core.Path.{◌≡◌, sym, ◌∙◌, ap}
use mathlib.Core.Bool.{Bool, not, ◌&&◌, ◌||◌, or-false, or_comm}
use mathlib.Core.List.{List}
use Prim.Native.Nat.{ℕ, suc, ◌<◌}
use native.Mathlib.Omega.{arith}
use lib.Bits.{bit_or, or_lt}
use borrow.Author.Tests.{ne_eqb}
use Rattle.math_lists.specs.NumbersBelow.{some, mask}
use Rattle.math_lists.proofs.NumbersBelow.{some_same, mask_below, mask-same}
use Rattle.math_maximal.specs.MaximalSets.{with}
use Rattle.math_maximal.specs.Groups.{bit}
use Rattle.math_maximal.specs.Step.{compatible}
use Rattle.math_maximal.proofs.Bits.{bit-or}
use Rattle.math_maximal.proofs.Masks.{mask-bit}
use Rattle.math_contexts.specs.Box.{Box}
use Rattle.math_contexts.specs.Contexts.{contexts, context, reach}
use Rattle.math_contexts.specs.MaskForms.{reach_mask, foes, mask_conflicts}
use Rattle.math_contexts.proofs.ContextMembers.{context-below}
use Rattle.math_contexts.proofs.ConflictByReach.{reach-self}
use Rattle.math_contexts.proofs.ContextsByMasks.{reach-small}
use Rattle.group_context.specs.RowForms.{meeting, conflicts_of}
use Rattle.group_context.specs.RowsOfBox.{NextOf}
use Rattle.group_context.proofs.MaskFromBits.{compatible-same}
use Rattle.group_context.proofs.MetByRows.{meeting-below, foes-of}
use Rattle.group_context.proofs.ReachedByRows.{reaching-is}

module _ {b : Box} {n : ℕ} {plains cs : List ℕ} {v w : ℕ} {limited : Bool}
    (next : NextOf b n plains cs v w limited) where
  module _ (row : ℕ) (its-row : row ≡ mask n (b.plain n)) where
    -- below n, the foes of the context and those of Set n itself are the foes of its reach
    foe-bits :
        (y : ℕ) → y < n →
        bit (bit_or row (meeting plains n (context b n))) y ≡ bit (foes b (suc n) (reach b n)) y
    unfolding some with
    foe-bits y l =
        let c = context b n in
        let hits : ℕ → Bool = λ x. bit c x && b.plain x y in
        bit-or row (meeting plains n c) y
        ∙ rw (its-row, foes-of b n plains next.plainly c (context-below b n), mask-bit n (b.plain n) y l)
        (ap (λ (t : Bool). b.plain n y || t) (mask-bit n (λ y. some n (λ x. bit c x && b.plain x y)) y l)
        ∙ or_comm (b.plain n y) (some n hits)
        ∙ sym (mask-bit (suc n) (λ y. some (suc n) (λ x. reach b n x && b.plain x y)) y (omega arith)
        ∙ rw (reach-self b n)
        (ap (λ (t : Bool). t || b.plain n y)
        (some_same n (λ x. reach b n x && b.plain x y) hits
        (λ x k. rw (ne_eqb x n (λ e. omega arith), or-false (bit c x)))))))

    pub conflicts-of-next : conflicts_of plains cs n row (context b n) ≡ mask_conflicts b n
    unfolding mask_conflicts
    conflicts-of-next =
        let u = bit_or row (meeting plains n (context b n)) in
        let u' = foes b (suc n) (reach b n) in
        let r : ℕ → ℕ = reach_mask (contexts b n) in
        reaching-is b n cs next.before u
        (or_lt n row (meeting plains n (context b n)) (rw its-row (mask_below n (b.plain n)))
        (meeting-below plains n (context b n)))
        ∙ mask-same n (λ j. not (compatible u (r j))) (λ j. not (compatible u' (r j)))
        (λ j l. ap not (compatible-same n u u' (r j) (reach-small b n j l) foe-bits))
