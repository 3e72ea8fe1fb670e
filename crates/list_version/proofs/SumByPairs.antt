-- The sum of a vector, from the bytes of its record: two entries are read at a time. Assumes nothing.
use mathlib.Core.Path.{◌≡◌, ap, ◌∙◌}
use mathlib.Core.List.{List}
use Prim.Native.Nat.{ℕ, suc, ◌+◌, ◌*◌, ◌/◌, ◌%◌, ◌<◌}
use native.Mathlib.Omega.{arith}
use lib.ListN.{get_or, drop}
use Rattle.math_lists.specs.NumbersBelow.{sum}
use Rattle.edit_record.specs.Layout.{most_sites, two_bytes, vector_at}
use Rattle.edit_record.specs.RecordBytes.{two, four, counts}
use Rattle.edit_record.proofs.NumbersInBytes.{entry-in-record}

-- the entry j of the vector in the bytes b
abbrev pub entry_in : List ℕ → ℕ → ℕ
entry_in b j = get_or (counts most_sites (drop vector_at b)) j 0

-- the halves of a number that two make
halves : (x y z : ℕ) → x < two_bytes → z ≡ x + y * two_bytes → z % two_bytes + z / two_bytes ≡ x + y
halves x y z l e = omega arith

module _ (b : List ℕ) (bytes : (k : ℕ) → get_or b k 0 < 256) where
  two-low : (k : ℕ) → two b k < two_bytes
  two-low k = omega (arith, bytes k, bytes (k + 1))

  -- two entries more
  pub two-entries :
      (i x total : ℕ) → 2 * i + 1 < most_sites → x ≡ four b (vector_at + 4 * i) → total ≡ sum (2 * i) (entry_in b) →
      total + x % two_bytes + x / two_bytes ≡ sum (2 * (i + 1)) (entry_in b)
  unfolding sum
  two-entries i x total l e h =
      let at = vector_at + 4 * i in
      let more : 2 * (i + 1) ≡ suc (suc (2 * i)) = omega arith in
      let low : entry_in b (2 * i) ≡ two b at
      = entry-in-record b (2 * i) (omega arith) ∙ ap (two b) (omega arith) in
      let high : entry_in b (suc (2 * i)) ≡ two b (at + 2)
      = entry-in-record b (suc (2 * i)) (omega arith) ∙ ap (two b) (omega arith) in
      rw (more, low, high, h) (omega (arith, halves (two b at) (two b (at + 2)) x (two-low at) e))
