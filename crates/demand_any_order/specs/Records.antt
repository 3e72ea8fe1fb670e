-- Records as the bytes that arrive. Assumes nothing.
use Rattle.std.specs.Prelude.{◌≡◌, List, [], ◌∷◌, ◌++◌, ℕ, zero, suc, length}
use Rattle.math_lists.specs.Rearranged.{Mem}
use Rattle.edit_record.specs.RecordBytes.{span_of}

-- the first n of the records rs, each its bytes
unfoldable pub records_of : (ℕ → List ℕ) → ℕ → List (List ℕ)
records_of rs zero = []
records_of rs (suc n) = records_of rs n ++ (rs n ∷ [])

-- each has as many bytes as its record
abbrev pub Whole : List (List ℕ) → Type 0
Whole bs = (b : List ℕ) → Mem b bs → length b ≡ span_of b
