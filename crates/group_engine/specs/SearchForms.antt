-- Forms that the code uses. ms are the masks of conflicts: number i of ms has the bits of the Sets that conflict with
-- Set i. The groups by masks are those of `Groups` for the relation that the masks tell; laws in proofs/ tie them to
-- the groups of an object. Then what the search knows on its way, with the u first Sets undecided. No one need believe
-- it. Assumes nothing.
use Rattle.std.specs.Prelude.{◌≡◌, Bool, true, false, ◌&&◌, List, ℕ, suc, ◌+◌, ◌^◌, ◌≤◌, ◌<◌, min, ltb, length, take, get_or}
use Rattle.math_lists.specs.NumbersBelow.{keep}
use Rattle.math_maximal.specs.Groups.{bit, every, is_maximal, groups}
use Rattle.math_maximal.specs.Step.{compatible}
use Rattle.group_step.specs.GroupRows.{most_groups}

-- Set i conflicts with Set j
abbrev pub conflict : List ℕ → ℕ → ℕ → Bool
conflict ms i j = bit (get_or ms i 0) j

-- the groups of the n first Sets
abbrev pub by_masks : List ℕ → ℕ → List ℕ
by_masks ms n = groups (conflict ms) n every

-- of the n first Sets, two conflict whichever is asked, and none conflicts with itself
pub record Conflicts (ms : List ℕ) (n : ℕ) : Type 0 where
  pub turned : (i j : ℕ) → i < n → j < n → conflict ms i j ≡ conflict ms j i
  pub not_itself : (i : ℕ) → i < n → conflict ms i i ≡ false

-- how many groups there are, told as far as one more than a row holds
abbrev pub count_told : List ℕ → ℕ
count_told l = min (suc most_groups) (length l)

-- g is a group of the n first Sets; the groups below x
abbrev pub is_group : List ℕ → ℕ → ℕ → Bool
is_group ms n g = is_maximal (conflict ms) n every (bit g)

abbrev pub groups_below : List ℕ → ℕ → ℕ → List ℕ
groups_below ms n x = keep x (is_group ms n)

-- the Sets from u on are decided, of the n first: those taken have no conflict among them, and an undecided one may
-- come in exactly if it conflicts with none of them
pub record Partial (ms : List ℕ) (n u taken may : ℕ) : Type 0 where
  pub within : taken + 2 ^ u ≤ 2 ^ n
  pub bound : may < 2 ^ n
  pub undecided : (i : ℕ) → i < u → bit taken i ≡ false
  pub free : (i : ℕ) → bit taken i ≡ true → compatible (get_or ms i 0) taken ≡ true
  pub may_come : (i : ℕ) → bit may i ≡ (ltb i u && compatible (get_or ms i 0) taken)

-- the members of `lone` are the Sets that are decided, left out, and conflict with none that is taken
pub record Waiting (ms : List ℕ) (n u taken lone : ℕ) : Type 0 where
  pub within : (i : ℕ) → bit lone i ≡ true → i < n
  pub decided : (i : ℕ) → bit lone i ≡ true → u ≤ i
  pub left_out : (i : ℕ) → bit lone i ≡ true → bit taken i ≡ false
  pub fits : (i : ℕ) → bit lone i ≡ true → compatible (get_or ms i 0) taken ≡ true
  pub none_missed :
      (i : ℕ) → i < n → u ≤ i → bit taken i ≡ false → compatible (get_or ms i 0) taken ≡ true → bit lone i ≡ true

-- a member of `lone` conflicts with none of `may`
abbrev pub Stuck : List ℕ → ℕ → ℕ → Type 0
Stuck ms lone may = (i : ℕ) × (bit lone i ≡ true) × (compatible (get_or ms i 0) may ≡ true)

-- the groups below x have been found: r is how many, and they stand at the front of out unless they are too many
pub record FoundSoFar (ms : List ℕ) (n x r : ℕ) (out : List ℕ) : Type 0 where
  pub count : r ≡ count_told (groups_below ms n x)
  pub front : r ≤ most_groups → take r out ≡ groups_below ms n x
