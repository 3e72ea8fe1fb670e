-- `table_sets::by_mask::mark_in_place` meets its contract: the part of the table that has its bytes has its fields.
-- Assumes nothing.
use native.Mathlib.Omega.{arith}
use lib.ListN.{get_or}
use Rattle.table_sets.proofs.FieldsCopied.{fields-in-part}
use borrow.Author.Rules.{rules}
use Rattle.table_sets.proofs.by_mask.mark_in_place.Goals as goal

pub overflow_cast-at : goal.overflow_cast-at
overflow_cast-at c = omega (arith, c.shared_slice_known-3-1.given c.args.i)

pub overflow_mul-at : goal.overflow_mul-at
overflow_mul-at c = omega (arith, c.shared_slice_known-3-1.given c.args.i)

pub overflow_add-end : goal.overflow_add-end
overflow_add-end c = omega (arith, c.shared_slice_known-3-1.given c.args.i)

pub mark_bytes-requires : goal.mark_bytes-requires
mark_bytes-requires c =
    let start = c in
    let a = start.args in
    let p = start.requires in (
      p.0,
      p.1,
      p.2,
      p.3,
      p.4,
      fields-in-part a.recs.now (get_or a.places.now a.i 0) (omega arith),
      search rules,
      p.5,
    )
