-- The words and marks of the printed list, each said once, and the pieces of a line that they make. Assumes nothing.
use Rattle.std.specs.Prelude.{List, [], ◌∷◌, ◌++◌, ℕ, ◌+◌}
use Rattle.list_text.specs.Decimal.{decimal}

-- ---- marks

abbrev pub space : ℕ
space = 32

abbrev pub plus : ℕ
plus = 43

abbrev pub minus : ℕ
minus = 45

abbrev pub dot : ℕ
dot = 46

abbrev pub equals : ℕ
equals = 61

abbrev pub newline : ℕ
newline = 10

-- ---- words: `sites `, ` objects `, ` versions `, ` sum `, `refused `

abbrev pub sites_word : List ℕ
sites_word = 115 ∷ 105 ∷ 116 ∷ 101 ∷ 115 ∷ space ∷ []

abbrev pub objects_word : List ℕ
objects_word = space ∷ 111 ∷ 98 ∷ 106 ∷ 101 ∷ 99 ∷ 116 ∷ 115 ∷ space ∷ []

abbrev pub versions_word : List ℕ
versions_word = space ∷ 118 ∷ 101 ∷ 114 ∷ 115 ∷ 105 ∷ 111 ∷ 110 ∷ 115 ∷ space ∷ []

abbrev pub sum_word : List ℕ
sum_word = space ∷ 115 ∷ 117 ∷ 109 ∷ space ∷ []

abbrev pub refused_word : List ℕ
refused_word = 114 ∷ 101 ∷ 102 ∷ 117 ∷ 115 ∷ 101 ∷ 100 ∷ space ∷ []

-- ---- pieces

-- `a.b` and `a=b`
abbrev pub dotted : ℕ → ℕ → List ℕ
dotted a b = decimal a ++ (dot ∷ decimal b)

abbrev pub equated : ℕ → ℕ → List ℕ
equated a b = decimal a ++ (equals ∷ decimal b)

-- ---- how long they are at most

-- the digits of a key, and of a number of one, two and four bytes
abbrev pub key_digits : ℕ
key_digits = 2

abbrev pub byte_digits : ℕ
byte_digits = 3

abbrev pub pair_digits : ℕ
pair_digits = 5

abbrev pub word_digits : ℕ
word_digits = 10

-- `a.b` of one and two bytes, and `a=b` of a key and four bytes
abbrev pub dotted_length : ℕ
dotted_length = byte_digits + 1 + pair_digits

abbrev pub equated_length : ℕ
equated_length = key_digits + 1 + word_digits
