-- A value as it is compared and shown. Keys 0 and 1 are a box's place on the grid, where values in one square are the
-- same: they count as the multiple of the square below them. Assumes nothing.
use Rattle.std.specs.Prelude.{ℕ, ◌*◌, ◌/◌, cond, ltb}

-- the side of a square
abbrev pub square : ℕ
square = 8

-- the keys that are squares are the numbers below this one
abbrev pub square_keys : ℕ
square_keys = 2

-- the value v of the key k
abbrev pub shown_value : ℕ → ℕ → ℕ
shown_value k v = cond (ltb k square_keys) (v / square * square) v
