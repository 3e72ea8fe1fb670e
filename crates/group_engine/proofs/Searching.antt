-- The search from where it was called: the Sets decided since then are taken in, and what is found further on is what
-- the call is to find. Assumes nothing.
use mathlib.Core.Path.{◌≡◌, sym, ap, ◌∙◌}
use mathlib.Core.List.{List}
use Prim.Native.Nat.{ℕ, ◌+◌, ◌-◌, ◌^◌, ◌≤◌, ◌<◌}
use native.Mathlib.Omega.{arith}
use native.Mathlib.Decide.{dec_lt}
use lib.Bits.{bit_and}
use lib.ListN.{get_or}
use borrow.Author.Tests.{le-ltb}
use Rattle.math_lists.proofs.Booleans.{clash}
use Rattle.math_maximal.specs.Groups.{bit}
use Rattle.group_step.specs.GroupRows.{most_groups}
use Rattle.group_engine.specs.SearchForms.{Conflicts, Partial, Waiting, FoundSoFar}
use Rattle.group_engine.proofs.GroupsFound.{found-full}
use Rattle.group_engine.proofs.NextDecided.{Deciding, under, both_halves, goes-out, comes-in, waits_in}

-- begun with the u₀ first Sets undecided and t₀ taken, it is where the u first are undecided and t is taken
pub record Searching (ms : List ℕ) (n u₀ t₀ t may lone r : ℕ) (out : List ℕ) : Type 0 where
  pub u : ℕ
  pub below : u ≤ u₀
  pub partly : Partial ms n u t may
  pub waits : Waiting ms n u t lone
  pub few : r ≤ most_groups
  pub found : FoundSoFar ms n t r out
  pub onward : {s : ℕ} {later : List ℕ} → FoundSoFar ms n (t + 2 ^ u) s later → FoundSoFar ms n (t₀ + 2 ^ u₀) s later

pub search-starts :
    {ms : List ℕ} {n u t may lone r : ℕ} {out : List ℕ} → Partial ms n u t may → Waiting ms n u t lone →
    r ≤ most_groups → FoundSoFar ms n t r out → Searching ms n u t t may lone r out
search-starts {u = u} p w l f =
    record { u = u; below = omega arith; partly = p; waits = w; few = l; found = f; onward = λ g. g }

-- the last that may come in is decided: it was left out, and now it is taken in
module _ {ms : List ℕ} {n u₀ t₀ t may lone r : ℕ} {out : List ℕ} (s : Searching ms n u₀ t₀ t may lone r out)
    {k b rest : ℕ} (d : Deciding ms n s.u t may lone k b rest) where
  -- nothing more is sought where they are too many
  pub too_many :
      {next : ℕ} {after : List ℕ} → most_groups < next → FoundSoFar ms n (t + b) next after →
      FoundSoFar ms n (t₀ + 2 ^ u₀) next after
  too_many {next} {after} l f = s.onward (both_halves d (found-full ms n (t + b) next after f (2 ^ k) l))

  pub search-goes-on :
      Conflicts ms n → {fit left : ℕ} → fit ≡ rest - bit_and rest (get_or ms k 0) →
      left ≡ lone - bit_and lone (get_or ms k 0) → {next : ℕ} {after : List ℕ} → next ≤ most_groups →
      FoundSoFar ms n (t + b) next after → Searching ms n u₀ t₀ (t + b) fit left next after
  search-goes-on c q e l f =
      let w = under d in
      record {
        u = k;
        below = omega (arith, s.below);
        partly = comes-in d c q e;
        waits = waits_in d c q e;
        few = l;
        found = f;
        onward = λ g. s.onward (both_halves d g);
      }

  -- fewer may come in then
  pub others-fewer : (fit x : ℕ) → fit ≡ rest - bit_and rest x → fit < may
  others-fewer fit x q = elim (dec_lt rest may) [
    | yes l ↦ omega arith
    | no f ↦
        (let e : may ≡ rest = omega (arith, d.the_others) in
        clash (ap (λ (z : ℕ). bit z k) (sym e) ∙ d.comes) ((goes-out d).may_come k ∙ rw (le-ltb k k (omega arith))))
  ]
