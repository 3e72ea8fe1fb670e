-- `edit_sum::sum_more` meets its contract: the part of the table from the place on is handed to the sum of its record.
-- Assumes nothing.
use Rattle.std.proofs.Common.{◌≡◌, ℕ, ◌-◌, ◌*◌, List, length, take, drop, add-one, arith, length-drop, take_all}
use Rattle.edit_record.specs.Layout.{place_length}
use Rattle.edit_record.proofs.RecordSpans.{span-most}
use Rattle.edit_sum.proofs.WordsAdded.{record-more}
use Rattle.edit_sum.proofs.sum_more.Goals as goal

-- what is lent is all of the table from the place on
from_place : (rs : List ℕ) (i : ℕ) →
    let at = i * place_length in
    take (length rs - at) (drop at rs) ≡ drop at rs
from_place rs i =
    let at = i * place_length in
    take_all (length rs - at) (drop at rs) (simp length-drop (omega arith))

pub sum_record-requires : goal.sum_record-requires
sum_record-requires c =
    let s = c in
    let rs = s.args.recs.now in
    let at = s.args.i * place_length in
    rw (from_place rs s.args.i)
    (omega (arith, span-most (drop at rs) s.requires.3, length-drop at rs, s.requires.1))

pub returns : goal.returns
returns c =
    let s = c in
    let rs = s.args.recs.now in
    rw (add-one, c.added.ensures, c.sum_record.ensures, s.requires.0, from_place rs s.args.i)
    (record-more s.args.i rs)
