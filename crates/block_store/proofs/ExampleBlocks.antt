-- The two blocks that document 01 writes out, by computation. Assumes nothing.
use mathlib.Core.Path.{◌≡◌, refl}
use mathlib.Core.List.{List, [], ◌∷◌, ◌++◌}
use Prim.Native.Nat.{ℕ}
use lib.ListN.{replicate}
use Rattle.math_lists.specs.NumbersBelow.{some}
use Rattle.math_lists.specs.SortedLists.{any, filter}
use Rattle.edit_record.specs.RecordBytes.{counts, count_bytes, first_fours, span_of}
use Rattle.edit_record.specs.Answer1.{nonzero_past, list_unfit, unfit, malformed}
use Rattle.edit_form.specs.OldForm.{chained}
use Rattle.edit_history.specs.EditsHeld.{edits_of, count_from}
use Rattle.edit_history.specs.Answers2to5.{is_repeated, is_early, is_torn, is_astray}
use Rattle.edit_history.specs.Answer16.{nameless_among}
use Rattle.table_drawing.specs.Tables.{empty_drawing}
use Rattle.table_arrival.specs.Answers6and7.{is_full, is_crowded, first_of, answer_to}
use Rattle.table_arrival.specs.Arrival.{with_create, acceptance_of}
use Rattle.block_trailer.specs.Trailer.{trailer_of}
use Rattle.block_store.specs.Writing.{block_of}

-- the record of the Create 0.1, which has seen nothing but itself
abbrev create : List ℕ
create = 1 ∷ 0 ∷ 1 ∷ 0 ∷ 1 ∷ 0 ∷ replicate 38 0

-- for N = 3: with no edits, and with the one Create 0.1, which is accepted
pub example-blocks :
    (block_of (empty_drawing 3) ≡ 0 ∷ 0 ∷ 3 ∷ 1 ∷ 0 ∷ 0 ∷ 0 ∷ 0 ∷ [])
    × ((acceptance_of (empty_drawing 3) create).answer ≡ 0)
    × (block_of (acceptance_of (empty_drawing 3) create).after ≡ create ++ (1 ∷ 0 ∷ 3 ∷ 1 ∷ 44 ∷ 0 ∷ 0 ∷ 0 ∷ []))
unfolding chained block_of trailer_of count_bytes empty_drawing with_create acceptance_of answer_to first_of is_full is_crowded
    span_of
example-blocks =
    unfold malformed unfit list_unfit nonzero_past is_repeated is_early is_torn is_astray nameless_among some any filter counts
    first_fours edits_of count_from in
    (refl, refl, refl)
