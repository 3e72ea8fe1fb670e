-- What has been found of the groups, as the search goes on. Assumes nothing.
use mathlib.Core.Path.{◌≡◌, ◌∙◌}
use mathlib.Core.Bool.{Bool, true, false}
use mathlib.Core.List.{List, [], ◌∷◌, ◌++◌, append-nil}
use Prim.Native.Nat.{ℕ, zero, suc, ◌+◌, ◌≤◌, ◌<◌}
use native.Mathlib.Omega.{arith}
use native.Mathlib.Nat.{add-zero, add-suc}
use native.Mathlib.Numerals.{add-one}
use lib.ListN.{length, set}
use lib.Seq.{take-suc-set}
use Rattle.math_lists.specs.NumbersBelow.{keep}
use Rattle.math_lists.proofs.NumbersBelow.{keep-grow}
use Rattle.math_lists.proofs.GrownAtEnd.{length-maybe}
use Rattle.group_step.specs.GroupRows.{most_groups}
use Rattle.group_engine.specs.SearchForms.{is_group, groups_below, count_told, FoundSoFar}

-- ---- the numbers that pass, further on

keep-none :
    (a d : ℕ) (f : ℕ → Bool) → ((g : ℕ) → a ≤ g → g < a + d → f g ≡ false) → keep (a + d) f ≡ keep a f
unfolding keep
keep-none a zero f h = rw (add-zero a)
keep-none a (suc d) f h =
    rw (add-suc a d, h (a + d) (omega arith) (omega arith), append-nil (keep (a + d) f))
    (keep-none a d f (λ g l m. h g l (omega arith)))

-- ---- what has been found

module _ (ms : List ℕ) (n t r : ℕ) (out : List ℕ) (h : FoundSoFar ms n t r out) where
  -- no group among the next d numbers
  pub found_none : (d : ℕ) → ((g : ℕ) → t ≤ g → g < t + d → is_group ms n g ≡ false) → FoundSoFar ms n (t + d) r out
  found_none d none =
      let e = keep-none t d (is_group ms n) none in
      record { count = rw e h.count; front = λ l. rw e (h.front l) }

  -- too many already
  pub found-full : (d : ℕ) → most_groups < r → FoundSoFar ms n (t + d) r out
  found-full d l = record {
    count = omega (arith, h.count, keep-grow (is_group ms n) t (t + d) (omega arith));
    front = λ m. absurd (omega arith);
  }

  -- t is a group: one more, at the front of out if there is a place
  module _ (g : is_group ms n t ≡ true) (k : r ≤ most_groups) where
    more : groups_below ms n (t + 1) ≡ groups_below ms n t ++ (t ∷ [])
    unfolding keep
    more = rw (add-one t, g)

    count-more : r + 1 ≡ count_told (groups_below ms n (t + 1))
    count-more =
        rw more
        (omega (arith, h.count, length-maybe (groups_below ms n t) true t))

    pub found-one : length out ≡ most_groups → r < most_groups → FoundSoFar ms n (t + 1) (r + 1) (set out r t)
    found-one len l = record {
      count = count-more;
      front = λ m. rw (add-one r) (take-suc-set out r t (omega arith) ∙ rw (h.front k, more));
    }

    pub found-last : most_groups ≤ r → FoundSoFar ms n (t + 1) (r + 1) out
    found-last l = record { count = count-more; front = λ m. absurd (omega arith) }
