-- Where cs has the contexts of the first n Sets of a box, the members of a set and those that have one in their
-- context are those whose reach has one. Assumes nothing.
use mathlib.Core.Path.{◌≡◌, sym, ◌∙◌, ap}
use mathlib.Core.Bool.{Bool, not}
use mathlib.Core.List.{List}
use Prim.Native.Nat.{ℕ, ◌^◌, ◌<◌}
use lib.Bits.{or_lt}
use lib.ListN.{get_or, take}
use lib.Seq.{get_or-take}
use Rattle.math_lists.specs.NumbersBelow.{mask}
use Rattle.math_maximal.specs.Groups.{bit}
use Rattle.math_maximal.specs.Step.{compatible}
use Rattle.math_maximal.proofs.Bits.{bit-or}
use Rattle.math_contexts.specs.Box.{Box}
use Rattle.math_contexts.specs.Contexts.{contexts}
use Rattle.math_contexts.specs.MaskForms.{reach_mask}
use Rattle.math_contexts.proofs.ContextMembers.{contexts-hold, context-below}
use Rattle.group_context.specs.RowForms.{meeting, reaching}
use Rattle.group_context.proofs.MaskFromBits.{is-mask, compatible-with}
use Rattle.group_context.proofs.MetByRows.{bit-meeting, meeting-below}

pub held_at :
    (b : Box) (n : ℕ) (cs : List ℕ) → take n cs ≡ contexts b n →
    (j : ℕ) → j < n → get_or cs j 0 ≡ get_or (contexts b n) j 0
held_at b n cs before j l = sym (get_or-take n cs j 0 l) ∙ ap (λ (t : List ℕ). get_or t j 0) before

module _ (b : Box) (n : ℕ) (cs : List ℕ) (before : take n cs ≡ contexts b n) (u : ℕ) (small : u < 2 ^ n) where
  -- the reach of j has no member of u
  abbrev clear : ℕ → Bool
  clear j = compatible u (reach_mask (contexts b n) j)

  reaches : (j : ℕ) → j < n → bit (reaching cs n u) j ≡ not (clear j)
  reaches j l =
      let g = get_or (contexts b n) j 0 in
      bit-or u (meeting cs n u) j
      ∙ rw (bit-meeting cs n u j l, held_at b n cs before j l)
      (sym (compatible-with u g j (rw (contexts-hold b n j l) (context-below b j))))

  pub reaching-is : reaching cs n u ≡ mask n (λ j. not (clear j))
  reaching-is =
      is-mask n (reaching cs n u) (λ j. not (clear j))
      (or_lt n u (meeting cs n u) small (meeting-below cs n u)) reaches
