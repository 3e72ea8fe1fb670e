-- `table_arrival::asked::mates_on` meets its contract: after i records it is told of the Sets among them. Assumes
-- nothing.
use Rattle.edit_record.specs.RecordBytes.{decode_of}
use Rattle.edit_history.specs.EditsHeld.{edits_of, sets_on}
use Rattle.table_arrival.specs.ArrivalForms.{MatesOf}
use Rattle.table_arrival.proofs.asked.mates_on.Given as goal

abbrev pub invariant-loop-i : goal.invariant-loop-i
invariant-loop-i l =
    MatesOf (sets_on l.s l.q (edits_of l.recs l.i)) (decode_of l.rec) (record { sets = l.sets; plain = l.plain; limited = l.limited })
