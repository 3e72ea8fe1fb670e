-- What the test for answer 16 says of a limited Set: its context is the version that it lists. Assumes nothing.
use mathlib.Core.Path.{◌≡◌, refl}
use mathlib.Core.Bool.{Bool, true, false, not, ◌&&◌, ◌||◌, beq}
use Prim.Native.Nat.{ℕ}
use Rattle.math_lists.specs.NumbersBelow.{all}
use Rattle.math_lists.proofs.Booleans.{both, and-on, beq-on, beq-eq}
use Rattle.math_lists.proofs.NumbersBelow.{all-on, all-at}
use Rattle.math_maximal.specs.Groups.{bit, is_maximal}
use Rattle.math_maximal.proofs.Bits.{bit_below}
use Rattle.math_maximal.proofs.Groups.{maximal-on, maximal-at}
use Rattle.math_contexts.specs.Box.{Box, disputed_by}
use Rattle.math_contexts.specs.Contexts.{context, conflicts}
use Rattle.math_contexts.specs.Versions.{names_version, Names}
use Rattle.math_contexts.proofs.ContextMembers.{context-below}

module _ (b : Box) (i : ℕ) where
  abbrev group : Bool
  group = is_maximal (conflicts b) i (b.seen i) (bit (context b i))

  abbrev exact : ℕ → Bool
  exact j = beq (b.named i j) (bit (context b i) j && disputed_by b i j)

  pub names_at : names_version b i ≡ true → b.limited i ≡ true → Names b i
  unfolding names_version
  names_at h t =
      let (g, e) = both group (all i exact) (rw t at h) in
      record {
        group = maximal-at (conflicts b) i (b.seen i) (bit (context b i))
            (bit_below i (context b i) (context-below b i)) g;
        exact = λ j l. beq-eq (b.named i j) (bit (context b i) j && disputed_by b i j) (all-at i exact e j l);
      }

  pub names-on : (b.limited i ≡ true → Names b i) → names_version b i ≡ true
  unfolding names_version
  names-on h = go (b.limited i) refl
    where
      go : (t : Bool) → b.limited i ≡ t → (not t || group && all i exact) ≡ true
      go false e = refl
      go true e =
          let w = h e in
          and-on group (all i exact) (maximal-on (conflicts b) i (b.seen i) (bit (context b i)) w.group)
          (all-on i exact
          (λ j l. beq-on (b.named i j) (bit (context b i) j && disputed_by b i j) (w.exact j l)))
