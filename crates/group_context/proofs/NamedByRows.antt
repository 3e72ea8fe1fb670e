-- What the code gives of a box, in the paper's words: the version that a limited Set names, the conflict that contexts
-- bring, and answer 16. Assumes that the Sets are lawful, and that each of those before Set n that is limited names a
-- version.
use mathlib.Core.Path.{◌≡◌, sym, ◌∙◌, ap}
use mathlib.Core.Bool.{not, not-not}
use Prim.Native.Nat.{ℕ, suc, ◌<◌}
use native.Mathlib.Omega.{arith}
use Rattle.math_lists.specs.NumbersBelow.{mask}
use Rattle.math_lists.proofs.NumbersBelow.{mask-same}
use Rattle.math_contexts.specs.Box.{Box, Lawful}
use Rattle.math_contexts.specs.Contexts.{conflicts}
use Rattle.math_contexts.specs.Versions.{names_version, AllNamed}
use Rattle.math_contexts.specs.NamedVersions.{conflicts_by, contexts_named, names_none}
use Rattle.math_contexts.specs.MaskForms.{mask_conflicts, mask_names}
use Rattle.math_contexts.proofs.NamedVersions.{names-none-is, conflicts-are}
use Rattle.math_contexts.proofs.ContextsByMasks.{conflicts-by-masks}
use Rattle.math_contexts.proofs.NamesByMasks.{names-by-masks}

module _ (b : Box) (n : ℕ) where
  -- ---- the first n

  module _ (law : Lawful b n) (named : AllNamed b n) where
    -- a number that `put_conflicts` leaves
    pub conflict-row-named :
        (i : ℕ) → i < n → mask n (conflicts b i) ≡ mask n (conflicts_by b (contexts_named b n) i)
    conflict-row-named i l =
        mask-same n (conflicts b i) (conflicts_by b (contexts_named b n) i)
        (λ j m. sym (conflicts-are b n law named i j l m))

  -- ---- Set n

  module _ (law : Lawful b (suc n)) where
    -- what `names_version` returns
    pub names-unless-none : AllNamed b n → mask_names b n ≡ not (names_none b n)
    names-unless-none named =
        let l : n < suc n = omega arith in
        sym (names-by-masks b (suc n) n law l)
        ∙ sym (ap not (names-none-is b (suc n) law n l named) ∙ not-not (names_version b n))

    -- what `conflicts_of` returns, where Set n names its version as well
    pub conflicts-named :
        AllNamed b (suc n) → mask_conflicts b n ≡ mask n (conflicts_by b (contexts_named b (suc n)) n)
    conflicts-named named =
        sym (conflicts-by-masks b n)
        ∙ mask-same n (conflicts b n) (conflicts_by b (contexts_named b (suc n)) n)
        (λ j m. sym (conflicts-are b (suc n) law named n j (omega arith) (omega arith)))
