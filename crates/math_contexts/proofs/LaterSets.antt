-- Later Sets do not matter: boxes that agree on the first n Sets have the same contexts there. Assumes nothing.
use mathlib.Core.Path.{◌≡◌, refl, sym, ◌∙◌}
use Prim.Native.Nat.{ℕ, ◌<◌}
use native.Mathlib.Omega.{arith}
use lib.Seq.{ext_get_or}
use Rattle.math_maximal.proofs.MaximalSets.{same_set}
use Rattle.math_maximal.proofs.Bits.{bit_below, same_bits}
use Rattle.math_contexts.specs.Box.{Box}
use Rattle.math_contexts.specs.Contexts.{contexts, context}
use Rattle.math_contexts.specs.SameSets.{SameBelow, SameSets}
use Rattle.math_contexts.proofs.ContextMembers.{contexts-long, contexts-hold, context-below}
use Rattle.math_contexts.proofs.ContextsAnyOrder.{contexts-any-order}

module _ {b b' : Box} {n : ℕ} (s : SameBelow b b' n) where
  -- each Set has its own number in both
  unmoved : SameSets b n b' n (λ i. i) (λ i. i)
  unmoved = record {
    into = λ i l. l;
    back = λ i l. l;
    there = λ i l. refl;
    again = λ i l. refl;
    plains = s.plains;
    seens = s.seens;
    limiteds = s.limiteds;
    nameds = s.nameds;
    seen_order = λ i j l k e. ((λ h. h), (λ h. h));
    named_order = λ i j l k e. ((λ h. h), (λ h. h));
  }

  pub context-later : (i : ℕ) → i < n → context b' i ≡ context b i
  context-later i l =
      same_bits i (context b' i) (context b i) (context-below b' i) (context-below b i)
      (same_set
      (λ j p. let k = bit_below i (context b' i) (context-below b' i) j p in
      sym (contexts-any-order unmoved i j l (omega arith)) ∙ p)
      (λ j p. let k = bit_below i (context b i) (context-below b i) j p in
      contexts-any-order unmoved i j l (omega arith) ∙ p))

  pub contexts-later : contexts b' n ≡ contexts b n
  contexts-later =
      ext_get_or 0 (contexts b' n) (contexts b n) (contexts-long b' n ∙ sym (contexts-long b n))
      (λ i l. let k : i < n = omega (arith, contexts-long b' n) in
      contexts-hold b' n i k ∙ context-later i k ∙ sym (contexts-hold b n i k))
