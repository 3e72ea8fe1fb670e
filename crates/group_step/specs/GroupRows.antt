-- The table of groups: one list of numbers, with a row of `most_groups` places for each object. The groups of an object
-- stand at the front of its row, ascending, and the places behind them are 0. The limits of document 01 are said here,
-- once. Assumes nothing.
use Rattle.std.specs.Prelude.{cond, List, ◌++◌, ℕ, ◌+◌, ◌-◌, ◌*◌, ltb, length, take, drop, replicate}

-- the versions that an object has at most: the places of its row
abbrev pub most_groups : ℕ
most_groups = 32

-- the Sets that an object has at most: the bits of a group
abbrev pub most_sets : ℕ
most_sets = 64

-- the objects that a drawing has at most: the rows of the table
abbrev pub most_objects : ℕ
most_objects = 64

-- the row of object o
abbrev pub row : ℕ → List ℕ → List ℕ
row o gs = take most_groups (drop (o * most_groups) gs)

-- the table with the row r for object o; every other row is as it was
abbrev pub put_row : ℕ → List ℕ → List ℕ → List ℕ
put_row o gs r = take (o * most_groups) gs ++ (r ++ drop (o * most_groups + most_groups) gs)

-- the row that the groups l make: filled up with 0; where they are too many, the row before
unfoldable pub settled : List ℕ → List ℕ → List ℕ
settled l before = cond (ltb most_groups (length l)) before (l ++ replicate (most_groups - length l) 0)
