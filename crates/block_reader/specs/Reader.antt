-- What a reader gives that holds a stretch of records in a form and its place in it: the record there, as a long one,
-- and the place after it; or, with fewer bytes left than that record has, None, the end mark, and the same place.
-- Assumes nothing.
use Rattle.std.specs.Prelude.{ℕ, ◌+◌, List, Option, Some, None, cond, length, drop, leb}
use Rattle.edit_record.specs.declared.Edit.{Edit}
use Rattle.edit_record.specs.RecordBytes.{decode_of}
use Rattle.edit_form.specs.OldForm.{length_from, long_from}
use Rattle.block_reader.specs.declared.TakenNext.{TakenNext}
use Rattle.block_reader.specs.declared.Reader.{Reader}

-- the record that starts at a place
abbrev pub record_at_place : List ℕ → ℕ → ℕ → Edit
record_at_place s form p = decode_of (long_from form (drop p s))

-- what is given, and the place after it
unfoldable pub taken_at : List ℕ → ℕ → ℕ → TakenNext
taken_at s form p =
    let next = p + length_from form (drop p s) in
    cond (leb next (length s)) (record { given = Some (record_at_place s form p); place = next })
    (record { given = None; place = p })

-- what a reader gives, and the reader after it
abbrev pub given_by : Reader → Option Edit
given_by r = (taken_at r.stretch.now r.form r.place).given

abbrev pub moved_on : Reader → Reader
moved_on r =
    record {
      stretch = r.stretch;
      form = r.form;
      place = (taken_at r.stretch.now r.form r.place).place;
    }

-- what a reader gives that is made at the start of s and called for the second time
abbrev pub second_of : List ℕ → ℕ → Option Edit
second_of s form = (taken_at s form (taken_at s form 0).place).given
