-- Sets of which each that is limited names a version, in the paper's words: none conflicts with itself, the groups are
-- those that are worked out, and the same Sets in another order are such Sets again, with the same conflicts. Assumes
-- that the Sets are lawful.
use mathlib.Core.Path.{◌≡◌, refl, sym, ◌∙◌}
use mathlib.Core.Bool.{Bool, false}
use Prim.Native.Nat.{ℕ, ◌<◌}
use native.Mathlib.Omega.{arith}
use native.Mathlib.Decide.{dec_lt}
use Rattle.math_maximal.specs.Groups.{every, groups}
use Rattle.math_maximal.proofs.Groups.{groups-same}
use Rattle.math_contexts.specs.Box.{Box, Lawful}
use Rattle.math_contexts.specs.Contexts.{conflicts}
use Rattle.math_contexts.specs.SameSets.{SameSets}
use Rattle.math_contexts.specs.NamedVersions.{conflicts_by, contexts_named}
use Rattle.math_contexts.proofs.ReachFree.{not-with-itself}
use Rattle.math_contexts.specs.Versions.{AllNamed}
use Rattle.math_contexts.proofs.NamedVersions.{conflicts-are, named-valid, valid-named}
use Rattle.math_contexts.proofs.ConflictsNamed.{named-alone, none-past}
use Rattle.math_contexts.proofs.ContextsAnyOrder.{conflicts-any-order, valid-any-order}

module _ (b : Box) (n : ℕ) (law : Lawful b n) (named : AllNamed b n) where
  abbrev conflict : ℕ → ℕ → Bool
  conflict = conflicts_by b (contexts_named b n)

  pub named-irreflexive : (i : ℕ) → conflict i i ≡ false
  named-irreflexive i = elim (dec_lt i n) [
    | yes l ↦ conflicts-are b n law named i i l l ∙ not-with-itself b n law (named-valid b n law named) i l
    | no k ↦
        named-alone b (contexts_named b n) i i (none-past b n i (omega arith)) (none-past b n i (omega arith))
        ∙ law.irreflexive i
  ]

  pub named-groups : groups conflict n every ≡ groups (conflicts b) n every
  named-groups =
      groups-same conflict (conflicts b) n every every (λ i l. refl) (conflicts-are b n law named)

-- ---- in another order

module _ {b : Box} {n : ℕ} {b' : Box} {m : ℕ} {f q : ℕ → ℕ} (r : SameSets b n b' m f q)
    (law : Lawful b n) (law' : Lawful b' m) (named : AllNamed b n) where
  pub all-named-any-order : AllNamed b' m
  all-named-any-order = valid-named b' m law' (valid-any-order r (named-valid b n law named))

  pub named-conflicts-any-order :
      (i j : ℕ) → i < m → j < m →
      conflicts_by b' (contexts_named b' m) i j ≡ conflicts_by b (contexts_named b n) (f i) (f j)
  named-conflicts-any-order i j l k =
      conflicts-are b' m law' all-named-any-order i j l k
      ∙ conflicts-any-order r i j l k
      ∙ sym (conflicts-are b n law named (f i) (f j) (r.into i l) (r.into j k))
