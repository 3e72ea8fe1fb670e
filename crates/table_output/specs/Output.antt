-- Writing at a start in a longer output: 11 where there is no room; else the bytes stand there, and bytes before and
-- after them stay. Assumes nothing.
use Rattle.std.specs.Prelude.{ℕ, ◌+◌, List, ◌++◌, cond, length, take, drop, leb}

-- the answer, the number of bytes written, and the output after
pub record Writing : Type 0 where
  pub answer : ℕ
  pub bytes : ℕ
  pub after : List ℕ

abbrev pub writing : ℕ → ℕ → List ℕ → Writing
writing a n out = record { answer = a; bytes = n; after = out }

-- the output with the bytes b at the start
abbrev pub placed : List ℕ → ℕ → List ℕ → List ℕ
placed out start b = take start out ++ (b ++ drop (start + length b) out)

unfoldable pub written_at : List ℕ → ℕ → List ℕ → Writing
written_at out start b =
    cond (leb (start + length b) (length out)) (writing 0 (length b) (placed out start b)) (writing 11 0 out)
