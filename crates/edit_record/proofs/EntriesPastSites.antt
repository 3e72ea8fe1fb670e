-- The entries of a vector at or past the number of sites. Assumes nothing.
use mathlib.Core.Path.{◌≡◌, sym, ◌∙◌}
use mathlib.Core.Bool.{Bool, false, not, ◌&&◌}
use mathlib.Core.List.{List}
use Prim.Native.Nat.{ℕ, ◌≤◌, ◌<◌}
use native.Mathlib.Omega.{arith}
use native.Mathlib.Decide.{ℕ_discrete}
use lib.ListN.{get_or}
use lib.Dec.{eqb, leb}
use borrow.Author.Tests.{lt-leb, le-leb}
use Rattle.math_lists.specs.NumbersBelow.{some}
use Rattle.math_lists.proofs.NumbersBelow.{some-off}
use Rattle.edit_record.specs.Answer1.{nonzero_past}
use Rattle.edit_record.specs.Layout.{most_sites}

-- entry i of v stands at or past n, and is nonzero
abbrev pub is_past : ℕ → List ℕ → ℕ → Bool
is_past n v i = leb n i && not (eqb (get_or v i 0) 0)

pub none_before : (n i : ℕ) (v : List ℕ) → i ≤ n → some i (is_past n v) ≡ false
none_before n i v l = some-off i (is_past n v) (λ j k. rw (lt-leb n j (omega arith)))

-- from n on, one more
pub one-past : (n i : ℕ) (v : List ℕ) → n ≤ i → is_past n v i ≡ not (eqb (get_or v i 0) 0)
one-past n i v l = rw (le-leb n i l)

-- all entries from n on, where there may be none
pub all_past :
    (n i : ℕ) (v : List ℕ) → most_sites ≤ i → (most_sites < i → i ≤ n) → some i (is_past n v) ≡ nonzero_past n v
unfolding nonzero_past
all_past n i v l h = go (ℕ_discrete i most_sites)
  where
    go : Dec (i ≡ most_sites) → some i (is_past n v) ≡ some most_sites (is_past n v)
    go (yes e) = rw e
    go (no d) =
        let k : i ≤ n = h (omega arith) in
        none_before n i v k ∙ sym (none_before n most_sites v (omega arith))
