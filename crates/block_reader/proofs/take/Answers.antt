-- `block_reader::take` meets its contract: what is tested decides which record is given, and what is lent to the
-- decoder is all of the stretch from the place on. Assumes nothing.
use Rattle.std.proofs.Common.{ℕ, List, ◌≡◌, ◌-◌, length, take, drop, rules, arith, leb-true, sym, ◌∙◌}
use lib.Seq.{take_all}
use lib.ListN.{length-drop}
use Rattle.block_reader.specs.Reader.{taken_at}
use Rattle.block_reader.proofs.OneByOne.{gives-the-record}
use Rattle.block_reader.proofs.take.Goals as goal

-- what is lent is all of the stretch from the place on
from_place : (s : List ℕ) (p : ℕ) → take (length s - p) (drop p s) ≡ drop p s
from_place s p = take_all (length s - p) (drop p s) (simp length-drop (omega arith))

pub returns-then-not-is_left : goal.returns-then-not-is_left
unfolding taken_at
returns-then-not-is_left c = search rules

pub returns : goal.returns
returns c =
    let a = c.args in
    let left = leb-true _ _ (sym c.is_left.ensures ∙ c.if-not-is_left.false) in
    rw (c.edit_from-edit.ensures, c.bytes_at-bytes.ensures, from_place a.stretch.now a.place)
    (sym (gives-the-record a.form a.stretch.now a.place (rw (← c.bytes_at-bytes.ensures) left)))
