-- Numbers in decimal: what the decimal of a number is, by value, and how it is computed. Laws in proofs/OneDecimal.antt
-- show that the computed list is the one decimal that the first definition allows. Assumes nothing.
use Rattle.std.specs.Prelude.{◌≡◌, cond, List, [], ◌∷◌, ◌++◌, ℕ, zero, suc, ◌+◌, ◌*◌, ◌-◌, ◌/◌, ◌%◌, ◌≤◌, ◌<◌, ltb, length, get_or}

-- the bytes of the digits 0 to 9 are those from this one on
abbrev pub zero_digit : ℕ
zero_digit = 48

-- ---- by value

-- each byte is a digit
abbrev pub Digits : List ℕ → Type 0
Digits [] = Unit {0}
Digits (d ∷ ds) = (zero_digit ≤ d) × (d < zero_digit + 10) × Digits ds

-- what the digits add up to, where those before them add up to a
abbrev pub value_from : ℕ → List ℕ → ℕ
value_from a [] = a
value_from a (d ∷ ds) = value_from (a * 10 + (d - zero_digit)) ds

-- l is the decimal of m: digits only, at least one, that add up to m, and none but a lone 0 starts with 0
pub record IsDecimal (m : ℕ) (l : List ℕ) : Type 0 where
  pub some : 0 < length l
  pub digits : Digits l
  pub value : value_from 0 l ≡ m
  pub no_leading_zero : (get_or l 0 0 ≡ zero_digit → length l ≡ 1)

-- ---- computed

-- the last f digits of m, or all where they are fewer
unfoldable pub last_digits : ℕ → ℕ → List ℕ
last_digits zero m = []
last_digits (suc f) m =
    cond (ltb m 10) ((zero_digit + m) ∷ []) (last_digits f (m / 10) ++ ((zero_digit + m % 10) ∷ []))

-- all of them: m has at most m + 1 digits
unfoldable pub decimal : ℕ → List ℕ
decimal m = last_digits (suc m) m
