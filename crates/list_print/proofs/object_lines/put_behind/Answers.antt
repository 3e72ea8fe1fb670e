-- `list_print::object_lines::put_behind` meets its contract: the bytes are copied where they have room. Assumes
-- nothing.
use mathlib.Core.Path.{sym, ◌∙◌}
use Prim.Native.Nat.{◌+◌, ◌≤◌}
use native.Mathlib.Omega.{arith}
use lib.ListN.{length}
use borrow.Author.Tests.{leb-true}
use Rattle.list_print.proofs.BytesBehind.{copied_behind, left_out_lem}
use borrow.Author.Rules.{rules}
use Rattle.list_print.proofs.object_lines.put_behind.Goals as goal

pub returns-then-not-has_room : goal.returns-then-not-has_room
returns-then-not-has_room c =
    let start = c in
    let a = start.args in
    left_out_lem a.out.now a.n a.line.now a.k start.requires.0
    (sym c.has_room.ensures ∙ c.if-not-has_room.true)

pub slice_bounds-copy_in-count : goal.slice_bounds-copy_in-count
slice_bounds-copy_in-count c =
    let room = sym c.has_room.ensures ∙ c.if-not-has_room.false in
    omega (arith, leb-true, room)

pub slice_bounds-copy_in-start : goal.slice_bounds-copy_in-start
slice_bounds-copy_in-start c =
    let room = sym c.has_room.ensures ∙ c.if-not-has_room.false in
    omega (arith, leb-true, room)

pub copy_in-requires : goal.copy_in-requires
copy_in-requires c =
    let a = c.args in
    let room = sym c.has_room.ensures ∙ c.if-not-has_room.false in
    let fits : a.n + a.k ≤ length a.out.now = omega (arith, leb-true, room) in
    search rules

pub returns : goal.returns
returns c =
    let start = c in
    let a = start.args in
    copied_behind a.out.now a.n a.line.now a.k start.requires.0 c.copy_in.ensures
