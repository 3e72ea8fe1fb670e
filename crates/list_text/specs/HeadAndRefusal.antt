-- The two lines with fixed words: line 0 of the list, and the line of a refusal. Assumes nothing.
use Rattle.std.specs.Prelude.{List, [], ◌∷◌, ◌++◌, ℕ, ◌+◌, ◌*◌, length}
use Rattle.list_text.specs.Decimal.{decimal}
use Rattle.list_text.specs.Pieces.{newline, objects_word, refused_word, sites_word, sum_word, versions_word}
use Rattle.list_text.specs.Pieces.{word_digits}

-- line 0
unfoldable pub head_line : ℕ → ℕ → ℕ → ℕ → List ℕ
head_line sites objects versions sum =
    sites_word ++ decimal sites
    ++ objects_word ++ decimal objects
    ++ versions_word ++ decimal versions
    ++ sum_word ++ decimal sum
    ++ (newline ∷ [])

-- the one line that stands for a list that is refused with the number m
unfoldable pub refusal_line : ℕ → List ℕ
refusal_line m = refused_word ++ decimal m ++ (newline ∷ [])

-- line 0
abbrev pub head_length : ℕ
head_length = length sites_word + length objects_word + length versions_word + length sum_word + 4 * word_digits + 1

-- the line of a refusal
abbrev pub refusal_length : ℕ
refusal_length = length refused_word + word_digits + 1
