-- The sum of document 02's Req 11: a word is four bytes, little-endian, from a record's start; words are added up and
-- the sum wraps at the top of 32 bits. A record is a whole number of words. Assumes nothing.
use Rattle.std.specs.Prelude.{ℕ, ◌*◌, ◌/◌, ◌%◌, ◌^◌, ◌<◌, ◌≤◌, List, drop}
use Rattle.math_lists.specs.NumbersBelow.{sum}
use Rattle.edit_record.specs.Layout.{most_members, place_length}
use Rattle.edit_record.specs.RecordBytes.{four, span_of}
use Rattle.edit_history.specs.EditsHeld.{record_at}

-- the bytes of a word, and how many words the record at the front of s has
abbrev pub word_length : ℕ
word_length = 4

abbrev pub record_words : List ℕ → ℕ
record_words s = span_of s / word_length

-- the word that starts i words from the front
abbrev pub word_at : List ℕ → ℕ → ℕ
word_at s i = four s (i * word_length)

-- what is left of a number at the top of 32 bits
abbrev pub wrapped : ℕ → ℕ
wrapped n = n % 2 ^ 32

-- the first n words added up, wrapped
unfoldable pub sum_of : ℕ → List ℕ → ℕ
sum_of n s = wrapped (sum n (word_at s))

-- the words of the record in place p of a table added up
abbrev pub words_at : List ℕ → ℕ → ℕ
words_at rs p =
    let place = drop (p * place_length) rs in
    sum (record_words place) (word_at place)

-- those of the records in the first n places, wrapped
unfoldable pub sum_held : ℕ → List ℕ → ℕ
sum_held n rs = wrapped (sum n (words_at rs))

-- each of those records lists no more members than a list may have, so that its place has room for it
abbrev pub ListsFit : List ℕ → ℕ → Type 0
ListsFit rs n = (p : ℕ) → p < n → (record_at rs p).count ≤ most_members
