-- Forms that the code uses: tables are true exactly when they are sound and every row of groups is true, and a row is
-- worked out from the places of its object's Sets. No one need believe them: laws in proofs/ tie them to `Check`.
-- Assumes nothing.
use Rattle.std.specs.Prelude.{◌≡◌, Bool, false, ◌&&◌, Option, MatchOption, List, map, ℕ, ◌≤◌, ◌<◌, get_or, length, take}
use Rattle.std.specs.Int.Bits.{bit_or}
use Rattle.math_lists.specs.NumbersBelow.{all, same_list}
use Rattle.edit_causal.specs.ConflictForms.{Proper}
use Rattle.edit_history.specs.EditsHeld.{record_at}
use Rattle.edit_history.specs.Answer16.{nameless_among}
use Rattle.group_step.specs.GroupRows.{most_groups}
use Rattle.group_sight.specs.SightForms.{sets_in}
use Rattle.group_named.specs.NamedForms.{is_named_at}
use Rattle.table_drawing.specs.Tables.{Tables, place_at, held_by}
use Rattle.table_arrival.specs.Answers6and7.{row_of}
use Rattle.group_true.specs.TrueGroups.{groups_of, true_groups}

-- ---- the rows

-- the row of object o is the list of its groups by their definition
abbrev pub row_true : Tables → ℕ → Bool
row_true t o = same_list (row_of t o) (true_groups (held_by t) (record_at t.records (place_at t.objects o)))

unfoldable pub rows_true : Tables → Bool
rows_true t = all t.counters.objects (row_true t)

-- and 16 is given to none of the Sets of object o
abbrev pub row_stands : Tables → ℕ → Bool
row_stands t o = is_named_at t.records t.counters.records (place_at t.objects o) && row_true t o

unfoldable pub rows_stand : Tables → Bool
rows_stand t = all t.counters.objects (row_stands t)

-- ---- the groups of one object

-- those of the Sets in the first k of the places ms
unfoldable pub groups_in : List ℕ → List ℕ → ℕ → List ℕ
groups_in rs ms k = groups_of (sets_in rs ms k)

-- the groups gs with the members of m in each
unfoldable pub joined_with : ℕ → List ℕ → List ℕ
joined_with m gs = map (λ g. bit_or g m) gs

-- the first of them are proper, however many they are, and 16 is given to none of them after those before it
pub record ProperInTurn (rs ms : List ℕ) (k : ℕ) : Type 0 where
  pub proper : (i : ℕ) → i ≤ k → Proper (sets_in rs ms i)
  pub named : (i : ℕ) → i < k → nameless_among (sets_in rs ms i) (record_at rs (get_or ms i 0)) ≡ false

-- the groups l stand at the front of the row gs, and r says how many they are; or none, and they are too many for a row
abbrev pub WorkedOut : List ℕ → List ℕ → Option ℕ → Type 0
WorkedOut l gs r = MatchOption r (most_groups < length l) (λ n. (n ≤ most_groups) × (take n gs ≡ l))

-- the same, where 16 may be given to one of the Sets: then r says none as well
abbrev pub WorkedThrough : List ℕ → List ℕ → ℕ → List ℕ → Option ℕ → Type 0
WorkedThrough rs ms k gs r =
    MatchOption r (ProperInTurn rs ms k → most_groups < length (groups_in rs ms k))
    (λ n. (n ≤ most_groups) × ProperInTurn rs ms k × (take n gs ≡ groups_in rs ms k))
