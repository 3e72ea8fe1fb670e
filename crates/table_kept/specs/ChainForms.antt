-- Forms that the code uses: the Sets on a Create along their chains, one for each key, as the index of the records has
-- them, and their places put down by their numbers. No one need believe them. Assumes nothing.
use Rattle.std.specs.Prelude.{◌≡◌, true, false, List, ℕ, ◌≤◌, ◌<◌, length, get_or}
use Rattle.edit_record.specs.Layout.{keys}
use Rattle.edit_record.specs.Answer1.{is_create}
use Rattle.edit_history.specs.EditsHeld.{most_records, record_at}
use Rattle.group_step.specs.GroupRows.{most_sets}
use Rattle.table_drawing.specs.declared.Counters.{Counters}
use Rattle.table_index.specs.IndexForms.{number_at, is_on, places_on, ChainsOf, IndexOf, Holds}

-- the chains of the Sets, among the first n records, on the Create in place q
pub record ChainsOn (rs : List ℕ) (n : ℕ) (ns hs : List ℕ) (q : ℕ) : Type 0 where
  pub low : q < n
  pub few : n ≤ most_records
  pub create : is_create (record_at rs q) ≡ true
  pub chained : ChainsOf rs n ns hs
  pub number : get_or ns q 0 ≡ number_at rs q
  pub first : is_on rs q 0 ≡ false
  pub known : (x : ℕ) → x < n → is_on rs q x ≡ true → (record_at rs x).key < keys
  pub narrow : length (places_on rs n q) ≤ most_sets

-- the number of the Set in place x among those on that Create
abbrev pub number_on : List ℕ → ℕ → ℕ → ℕ
number_on rs q x = length (places_on rs x q)

-- ps has the places of those of the first n records that are Sets on it of the key y, from the place m on, and else is
-- as qs
pub record PutFrom (rs : List ℕ) (n q y m : ℕ) (qs ps : List ℕ) : Type 0 where
  pub long : length ps ≡ length qs
  pub put :
      (x : ℕ) → x < n → is_on rs q x ≡ true → (record_at rs x).key ≡ y → m ≤ x → get_or ps (number_on rs q x) 0 ≡ x
  pub others :
      (x : ℕ) → x < n → is_on rs q x ≡ true → ((record_at rs x).key ≡ y → ⊥) →
      get_or ps (number_on rs q x) 0 ≡ get_or qs (number_on rs q x) 0

-- the index of the first n records, which pass 1 to 5 in their order and are within the limits
pub record IndexedIn (rs : List ℕ) (n : ℕ) (ps ns hs : List ℕ) : Type 0 where
  pub counters : Counters
  pub counts : List ℕ
  pub holds : Holds counters rs
  pub all : counters.records ≡ n
  pub index : IndexOf rs n ps ns counts hs
