-- More Sets never bring two versions into one: two groups are never found in one set without conflict, not even by
-- their disputed members alone. Assumes that the Sets are lawful; that they are valid is not asked.
use mathlib.Core.Path.{◌≡◌, ◌∙◌}
use mathlib.Core.Bool.{Bool, true}
use Prim.Native.Nat.{ℕ}
use native.Mathlib.Omega.{arith}
use Rattle.math_lists.specs.SortedLists.{elem}
use Rattle.math_lists.proofs.Booleans.{clash, off}
use Rattle.math_maximal.specs.MaximalSets.{◌∈◌, ◌⊆◌, Free}
use Rattle.math_maximal.specs.Groups.{bit, every, groups}
use Rattle.math_maximal.proofs.MaximalSets.{same_set}
use Rattle.math_maximal.proofs.Bits.{same_bits}
use Rattle.math_maximal.proofs.Groups.{groups-at}
use Rattle.math_contexts.specs.Box.{Box, disputed, Lawful}
use Rattle.math_contexts.specs.Contexts.{conflicts}
use Rattle.math_contexts.proofs.ContextMembers.{disputed-on}
use Rattle.math_contexts.proofs.ConflictByReach.{conflicts-at}
use Rattle.math_contexts.proofs.GroupsHoldContexts.{all_closed, group-holds-reach}

-- groups whose disputed members all lie in one set without conflict by document 01's rule are one
pub disputed-never-in-one :
    (b : Box) (n : ℕ) → Lawful b n → (g h : ℕ) → elem g (groups (conflicts b) n every) ≡ true →
    elem h (groups (conflicts b) n every) ≡ true → {U Q : ℕ → Bool} → Free b.plain U Q →
    ((i : ℕ) → i ∈ bit g → i ∈ disputed b n every → i ∈ Q) →
    ((i : ℕ) → i ∈ bit h → i ∈ disputed b n every → i ∈ Q) → g ≡ h
disputed-never-in-one b n law g h e f {Q = Q} free into into' =
    same_bits n g h (groups-at (conflicts b) n every g e).0 (groups-at (conflicts b) n every h f).0
    (same_set (half g h e f into into') (half h g f e into' into))
  where
    half :
        (g h : ℕ) → elem g (groups (conflicts b) n every) ≡ true → elem h (groups (conflicts b) n every) ≡ true →
        ((i : ℕ) → i ∈ bit g → i ∈ disputed b n every → i ∈ Q) →
        ((i : ℕ) → i ∈ bit h → i ∈ disputed b n every → i ∈ Q) → bit g ⊆ bit h
    half g h e f into into' i p =
        let v = (groups-at (conflicts b) n every g e).1 in
        let w = (groups-at (conflicts b) n every h f).1 in
        w.full i (v.is_free.within i p) (λ j q. off (conflicts b i j) (λ c.
        let (x, y, r, s, t) = conflicts-at b i j c in
        let gx = group-holds-reach b n law n every (bit g) (omega arith) (all_closed b n) v i p x r in
        let hy = group-holds-reach b n law n every (bit h) (omega arith) (all_closed b n) w j q y s in
        let sx = v.is_free.within x gx in
        let sy = w.is_free.within y hy in
        clash t
        (free.free x (into x gx (disputed-on b n every x sx y sy t)) y
        (into' y hy (disputed-on b n every y sy x sx (law.symmetric y x ∙ t))))))
