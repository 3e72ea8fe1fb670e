-- `table_output::put_at` meets its contract: its two ends are the two outcomes. Assumes nothing.
use mathlib.Core.Path.{sym, ◌∙◌}
use native.Mathlib.Omega.{arith}
use lib.ListN.{take}
use lib.Seq.{length-take-le}
use borrow.Author.Rules.{rules}
use borrow.Author.Tests.{leb-true}
use Rattle.table_output.proofs.OutputOutcomes.{not-put, put_whole}
use Rattle.table_output.proofs.put_at.Goals as goal

pub returns-then-not-has_room : goal.returns-then-not-has_room
returns-then-not-has_room c =
    let a = c.args in
    not-put a.out.now (take a.n a.src.now) a.start a.n
    (length-take-le a.n a.src.now (search rules))
    (sym c.has_room.ensures ∙ c.if-not-has_room.true)

pub slice_bounds-copy_in-count : goal.slice_bounds-copy_in-count
slice_bounds-copy_in-count c =
    let room = sym c.has_room.ensures ∙ c.if-not-has_room.false in
    omega (arith, leb-true)

pub slice_bounds-copy_in-start : goal.slice_bounds-copy_in-start
slice_bounds-copy_in-start c =
    let room = sym c.has_room.ensures ∙ c.if-not-has_room.false in
    omega (arith, leb-true)

pub copy_in-requires : goal.copy_in-requires
copy_in-requires c =
    let room = sym c.has_room.ensures ∙ c.if-not-has_room.false in
    (omega (arith, leb-true), search rules)

pub returns : goal.returns
returns c =
    let w = c in
    let f = w in
    let a = f.args in
    put_whole a.out.now (take a.n a.src.now) a.start a.n
    (length-take-le a.n a.src.now (search rules))
    (sym f.has_room.ensures ∙ f.if-not-has_room.false)
    w.copy_in.ensures
