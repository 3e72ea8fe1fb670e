-- The sum over a list of edits alone, by the fields of each: what theorems on the order of the edits and on joining
-- speak of. `proofs/SumOfRecords` shows that it is the sum of the words of their records. Assumes nothing.
use Rattle.std.specs.Prelude.{ℕ, ◌+◌, ◌*◌, ◌/◌, List, [], ◌∷◌, slice_index}
use Rattle.math_lists.specs.NumbersBelow.{sum}
use Rattle.edit_record.specs.declared.Edit.{Edit}
use Rattle.edit_record.specs.Layout.{most_sites, most_members, two_bytes}
use Rattle.edit_sum.specs.WordSum.{wrapped}

-- the words of a vector: two entries each
abbrev pub vector_words : List ℕ → ℕ
vector_words v = sum (most_sites / 2) (λ i. slice_index v (2 * i) + slice_index v (2 * i + 1) * two_bytes)

-- the words that the record of every kind has, added up
abbrev pub field_words : Edit → ℕ
field_words e =
    (e.kind + e.site.0 * 256 + e.seq.0 * two_bytes)
    + vector_words e.vector
    + (e.tsite.0 + e.key * 256 + e.tseq.0 * two_bytes)
    + e.value

-- and those of the list of a limited Set
unfoldable pub words_in : Edit → ℕ
words_in e = field_words e + e.count + sum most_members (λ i. slice_index e.members i)

unfoldable pub words_over : List Edit → ℕ
words_over [] = 0
words_over (e ∷ es) = words_in e + words_over es

-- wrapped at the top
unfoldable pub sum_over : List Edit → ℕ
sum_over es = wrapped (words_over es)
