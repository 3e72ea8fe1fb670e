-- Two engineers set one key differently, the Sets 0 and 1; a third, who has seen both, sets another key, the Set 2.
-- Groups and answers are computed; and such a box meets all that the laws assume. Assumes nothing.
use mathlib.Core.Path.{◌≡◌, refl}
use mathlib.Core.Logic.{inl, inr}
use mathlib.Core.Bool.{Bool, true, false, ◌&&◌, ◌||◌, and_comm, and-false, or_comm}
use mathlib.Core.List.{[], ◌∷◌}
use Prim.Native.Nat.{ℕ}
use native.Mathlib.Omega.{arith}
use lib.Dec.{eqb}
use borrow.Author.Tests.{eqb-true, ne_eqb}
use Rattle.math_lists.specs.NumbersBelow.{some, all, sum, keep, mask}
use Rattle.math_lists.proofs.Booleans.{decide, both, either}
use Rattle.math_maximal.specs.MaximalSets.{with}
use Rattle.math_maximal.specs.Groups.{bit, below, every, fits, is_maximal, groups}
use Rattle.math_contexts.specs.Box.{Box, disputed, Lawful, CausalBox, Ends}
use Rattle.math_contexts.specs.Contexts.{unnamed, suits, context_in, contexts, context, conflicts}
use Rattle.math_contexts.specs.Versions.{names_version, Valid}

-- t says whether 2 is limited, and `lists` what it lists
abbrev three : Bool → (ℕ → Bool) → Box
three t lists = record {
  plain = λ i j. eqb i 0 && eqb j 1 || eqb i 1 && eqb j 0;
  seen = λ i j. eqb i 2 && (eqb j 0 || eqb j 1);
  limited = λ i. t && eqb i 2;
  named = λ i j. eqb i 2 && lists j;
}

-- 2 is limited to the version of 0
abbrev one : Box
one = three true (λ j. eqb j 0)

-- a plain Set joins both versions
both-turn-red : groups (conflicts (three false (λ j. false))) 3 every ≡ 5 ∷ 6 ∷ []
unfolding conflicts context contexts context_in suits unnamed disputed mask some all sum keep groups is_maximal fits bit
    below with
both-turn-red = refl

-- a limited one joins the version that it names, and conflicts with the other though it has seen it
one-turns-red : groups (conflicts one) 3 every ≡ 2 ∷ 5 ∷ []
unfolding conflicts context contexts context_in suits unnamed disputed mask some all sum keep groups is_maximal fits bit
    below with
one-turns-red = refl

names-one : names_version one 2 ≡ true
unfolding names_version conflicts context contexts context_in suits unnamed disputed mask some all sum is_maximal fits bit
    below with
names-one = refl

-- no version has both for members, and none has neither
names-both : names_version (three true (λ j. true)) 2 ≡ false
unfolding names_version conflicts context contexts context_in suits unnamed disputed mask some all sum is_maximal fits bit
    below with
names-both = refl

names-neither : names_version (three true (λ j. false)) 2 ≡ false
unfolding names_version conflicts context contexts context_in suits unnamed disputed mask some all sum is_maximal fits bit
    below with
names-neither = refl

-- ---- what the laws assume can be met, a limited Set among them

lawful : Lawful one 3
lawful = record {
  symmetric = λ i j.
      rw (and_comm (eqb i 0) (eqb j 1), and_comm (eqb i 1) (eqb j 0))
      (or_comm (eqb j 1 && eqb i 0) (eqb j 0 && eqb i 1));
  irreflexive = λ i.
      elim (decide (eqb i 0)) [ inl e ↦ rw (eqb-true i 0 e) | inr e ↦ rw (e, and-false (eqb i 1)) ];
  transitive = λ i j k l m o p q.
      let e = eqb-true i 2 (both (eqb i 2) (eqb j 0 || eqb j 1) p).0 in
      let f = eqb-true j 2 (both (eqb j 2) (eqb k 0 || eqb k 1) q).0 in
      absurd (omega arith);
  compatible = λ i j l m p. rw (eqb-true i 2 (both (eqb i 2) (eqb j 0 || eqb j 1) p).0);
}

causal : CausalBox one 3
causal = record {
  seen_first = λ i j l m p.
      let (e, f) = both (eqb i 2) (eqb j 0 || eqb j 1) p in
      elim (either (eqb j 0) (eqb j 1) f) [
        | inl g ↦ omega (arith, eqb-true i 2 e, eqb-true j 0 g)
        | inr g ↦ omega (arith, eqb-true i 2 e, eqb-true j 1 g)
      ];
  names_seen = λ i j l m p. let (e, f) = both (eqb i 2) (eqb j 0) p in rw (e, f);
}

-- only the last is limited, and it names a version
valid : Valid one 3
unfolding names_version
valid i l = elim (decide (eqb i 2)) [ inl e ↦ rw (eqb-true i 2 e) names-one | inr e ↦ rw e ]

pub premises-met : Lawful one 3 × CausalBox one 3 × Valid one 3 × Ends one 3
premises-met = (lawful, causal, valid, λ i l. ne_eqb i 2 (λ e. omega arith))
