-- Forms that the code uses: identifiers from the Sets in dispute, values from stamps. No one need believe them: laws in
-- proofs/ tie each one to the definitions of `Identifier`, `Values` and `VersionOrder`. Assumes nothing.
use Rattle.std.specs.Prelude.{◌≡◌, Bool, true, ◌&&◌, cond, List, [], map, ℕ, zero, suc, ◌+◌, ◌-◌, ◌*◌, ◌/◌, ◌%◌, ◌≤◌, ◌<◌, max, eqb, ltb, length, get_or, take}
use Rattle.math_lists.specs.NumbersBelow.{keep}
use Rattle.math_lists.specs.SortedLists.{filter, Asc, gather_by, ascending}
use Rattle.edit_record.specs.declared.Edit.{Edit}
use Rattle.edit_record.specs.Layout.{most_sites, keys, two_bytes}
use Rattle.edit_history.specs.EditsHeld.{record_at}
use Rattle.edit_causal.specs.TotalOrder.{vector_sum}
use Rattle.math_maximal.specs.Groups.{bit}
use Rattle.group_step.specs.GroupRows.{most_sets}
use Rattle.edit_record.specs.RecordBytes.{no_edit}
use Rattle.group_true.specs.Disputed.{is_disputed}
use Rattle.edit_record.specs.Answer1.{name_of}
use Rattle.list_version.specs.Identifier.{site_numbers}
use Rattle.list_version.specs.VersionOrder.{lex}

-- the edits in some places of a table of records
abbrev pub sets_at : List ℕ → List ℕ → List Edit
sets_at rs places = map (record_at rs) places

-- ---- identifiers from the Sets in dispute

-- of the edits in the t first of the places ps, those in dispute are the members of r
abbrev pub InDispute : List ℕ → List ℕ → ℕ → ℕ → Type 0
InDispute rs ps t r = (i : ℕ) → i < t → bit r i ≡ is_disputed (sets_at rs (take t ps)) (record_at rs (get_or ps i 0))

-- the i-th Set by its name, and by its number behind it
abbrev pub named_at : List Edit → ℕ → ℕ
named_at ms i = name_of (get_or ms i no_edit) * most_sets + i

-- of the first n Sets those in dispute, by their names
unfoldable pub disputes_below : List Edit → ℕ → List ℕ
disputes_below ms n = ascending (map (named_at ms) (keep n (λ i. is_disputed ms (get_or ms i no_edit))))

-- those of the Sets whose numbers pass the test f, by their names
unfoldable pub names_of : List Edit → (ℕ → Bool) → List ℕ
names_of ms f = ascending (map (named_at ms) (keep (length ms) f))

-- the members of m are below t
abbrev pub Below : ℕ → ℕ → Type 0
Below t m = (j : ℕ) → bit m j ≡ true → j < t

-- the entry that the site of e has in a vector
abbrev pub entry_of : Edit → ℕ
entry_of e = e.site.0 % most_sites

-- own has the members of m whose sites have each entry
abbrev pub BySites : List ℕ → List ℕ → ℕ → List ℕ → Type 0
BySites rs ps m own =
    (s : ℕ) → s < most_sites → (j : ℕ) → bit (get_or own s 0) j ≡ (bit m j && eqb (entry_of (record_at rs (get_or ps j 0))) s)

abbrev pub disputes_in : List Edit → List ℕ
disputes_in ms = disputes_below ms (length ms)

-- the two numbers in such a number: the name, and whether the Set is a member of g
abbrev pub name_by : ℕ → ℕ
name_by x = x / most_sets

abbrev pub is_in : ℕ → ℕ → Bool
is_in g x = bit g (x % most_sets)

-- the names ascend
abbrev pub NamesAscend : List ℕ → Type 0
NamesAscend xs = Asc (λ x y. name_by x < name_by y) xs

-- of the Sets in dispute, xs, the names of the members of g
unfoldable pub identifier_by : List ℕ → ℕ → List ℕ
identifier_by xs g = map name_by (filter (is_in g) xs)

unfoldable pub is_ahead_by : List ℕ → ℕ → ℕ → Bool
is_ahead_by xs g h = lex (ltb g h) (identifier_by xs g) (identifier_by xs h)

unfoldable pub versions_by : List ℕ → List ℕ → List ℕ
versions_by xs gs = gather_by (is_ahead_by xs) [] gs

-- ---- values from stamps

-- the values that four bytes have
abbrev pub values : ℕ
values = 4294967296

-- the place in the total order, then the value, as one number that is never 0
abbrev pub placed_of : Edit → ℕ
placed_of e = (vector_sum e.vector * site_numbers + e.site.0) * values + e.value + 1

-- a number above all of them: 2 ^ 60
abbrev pub placings : ℕ
placings = 1152921504606846976

-- the key before them; 0 for a key that is none
abbrev pub stamp_of : Edit → ℕ
stamp_of e = cond (ltb e.key keys) (e.key * placings + placed_of e) 0

-- the numbers of e are those of a record
abbrev pub Small : Edit → Type 0
Small e = (vector_sum e.vector ≤ most_sites * (two_bytes - 1)) × (e.site.0 < site_numbers) × (e.value < values)

-- these are the stamps of the Sets ms
abbrev pub Stamped : List Edit → List ℕ → Type 0
Stamped ms stamps =
    (i : ℕ) → i < length ms → (get_or stamps i 0 ≡ stamp_of (get_or ms i no_edit)) × Small (get_or ms i no_edit)

-- the largest stamp of the key k among the members of g, of the n first Sets; 0 where there is none
unfoldable pub largest_below : List ℕ → ℕ → ℕ → ℕ → ℕ
largest_below stamps g k zero = 0
largest_below stamps g k (suc n) =
    cond (bit g n && eqb (get_or stamps n 0 / placings) k) (max (largest_below stamps g k n) (get_or stamps n 0))
    (largest_below stamps g k n)

abbrev pub largest_by : List ℕ → ℕ → ℕ → ℕ
largest_by stamps g k = largest_below stamps g k (length stamps)

-- ---- the Sets of each key

-- of the n first Sets, those of each key, and peaks: no Set before one and of its key has a larger stamp
pub record KeyedBy (stamps by : List ℕ) (peaks n : ℕ) : Type 0 where
  pub own : (k i : ℕ) → k < keys → bit (get_or by k 0) i ≡ (ltb i n && eqb (get_or stamps i 0 / placings) k)
  pub peak :
      (i j : ℕ) → bit peaks i ≡ true → j < i → get_or stamps j 0 / placings ≡ get_or stamps i 0 / placings →
      get_or stamps j 0 ≤ get_or stamps i 0
  pub low : (i : ℕ) → bit peaks i ≡ true → i < n

-- and no stamp of a key is larger than that of the key in tops
pub record KeyedTo (stamps by tops : List ℕ) (peaks n : ℕ) : Type 0 where
  pub keyed : KeyedBy stamps by peaks n
  pub top : (j : ℕ) → j < n → get_or stamps j 0 ≤ get_or tops (get_or stamps j 0 / placings) 0
