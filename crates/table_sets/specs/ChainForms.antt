-- The chain of the Sets of each object, ch: the entry of a Create has the place of the first Set on it, and the entry
-- of a Set the place of the next one on the same Create; that of the last one has anything. No one need believe it: by
-- `Chained` it is tied to `places_on`. Assumes nothing.
use Rattle.std.specs.Prelude.{◌≡◌, true, List, [], ◌∷◌, ℕ, ◌<◌, get_or, length, take}
use Rattle.edit_record.specs.Answer1.{is_create}
use Rattle.edit_history.specs.EditsHeld.{record_at}
use Rattle.table_index.specs.IndexForms.{places_on}

-- from x the chain goes through the places l, in their order
abbrev pub Reaches : List ℕ → ℕ → List ℕ → Type 0
Reaches ch x [] = Unit {0}
Reaches ch x (y ∷ l) = (get_or ch x 0 ≡ y) × Reaches ch y l

-- from each Create of the first n records it goes through the places of the Sets on it
abbrev pub Chained : List ℕ → ℕ → List ℕ → Type 0
Chained rs n ch = (p : ℕ) → p < n → is_create (record_at rs p) ≡ true → Reaches ch p (places_on rs n p)

-- the places that it goes through from p stand at the front of ms, where they are k
abbrev pub AlongChain : List ℕ → ℕ → ℕ → List ℕ → Type 0
AlongChain ch p k ms = (l : List ℕ) → Reaches ch p l → length l ≡ k → take k ms ≡ l
