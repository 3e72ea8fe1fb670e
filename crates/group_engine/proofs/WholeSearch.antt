-- The search as a whole: at its start nothing is decided, and at its end the groups found are all of them.
-- Assumes nothing.
use mathlib.Core.Path.{◌≡◌, refl, ap, ◌∙◌}
use mathlib.Core.List.{List, ◌++◌}
use Prim.Native.Nat.{ℕ, ◌+◌, ◌-◌, ◌^◌, ◌≤◌, ◌<◌}
use native.Mathlib.Omega.{arith}
use lib.ListN.{length, take, replicate}
use borrow.Author.Tests.{lt-ltb, le-ltb}
use Rattle.math_lists.specs.NumbersBelow.{keep}
use Rattle.math_lists.proofs.Booleans.{clash}
use Rattle.math_maximal.specs.Groups.{groups}
use Rattle.math_maximal.proofs.Bits.{bit-none}
use Rattle.group_step.specs.GroupRows.{most_groups, settled}
use Rattle.group_engine.specs.SearchForms.{by_masks, groups_below, count_told, Partial, Waiting, FoundSoFar}
use Rattle.group_engine.proofs.PartlyDecided.{at-start}

module _ (ms : List ℕ) (n : ℕ) where
  pub start_partial : (b : ℕ) → b ≡ 2 ^ n → Partial ms n n 0 (b - 1)
  start_partial b e = rw e (at-start ms n)

  pub none-waits : Waiting ms n n 0 0
  none-waits = record {
    within = λ i h. clash h (bit-none i);
    decided = λ i h. clash h (bit-none i);
    left_out = λ i h. bit-none i;
    fits = λ i h. clash h (bit-none i);
    none_missed = λ i l o x y. absurd (omega arith);
  }

  pub none_found : (out : List ℕ) → FoundSoFar ms n 0 0 out
  unfolding keep
  none_found out = record { count = refl; front = λ l. refl }

  all_found : groups_below ms n (0 + 2 ^ n) ≡ by_masks ms n
  unfolding groups
  all_found = let e : 0 + 2 ^ n ≡ 2 ^ n = omega arith in rw e

  module _ (r : ℕ) (out : List ℕ) (f : FoundSoFar ms n (0 + 2 ^ n) r out) where
    pub told : r ≡ count_told (by_masks ms n)
    told = f.count ∙ ap count_told all_found

    pub unchanged : (before : List ℕ) → most_groups < r → before ≡ settled (by_masks ms n) before
    unfolding settled
    unchanged before l = rw (lt-ltb most_groups (length (by_masks ms n)) (omega (arith, told)))

    pub settles :
        (before : List ℕ) → r ≤ most_groups → take r out ++ replicate (most_groups - r) 0 ≡ settled (by_masks ms n) before
    unfolding settled
    settles before l =
        let e : r ≡ length (by_masks ms n) = omega (arith, told) in
        rw (le-ltb most_groups (length (by_masks ms n)) (omega (arith, told)), f.front l, all_found, e)
