-- `list_print::print_list` meets its contract: each of its three ends is that outcome. Assumes nothing.
use mathlib.Core.Path.{sym, ◌∙◌}
use Prim.Native.Nat.{◌+◌, ◌≤◌}
use native.Mathlib.Omega.{arith}
use lib.ListN.{length}
use borrow.Author.Tests.{leb-true}
use Rattle.table_drawing.specs.Tables.{tables_of}
use Rattle.list_print.specs.Printing.{list_of, listing_of}
use Rattle.list_print.proofs.LinesJoined.{list-no-room, list_put}
use Rattle.list_print.proofs.print_list.Goals as goal
use Rattle.list_print.proofs.print_list.Goals.{then-not-has_room+else-not-has_room-2, else-not-has_room}

pub returns-then-not-is_sound_with : goal.returns-then-not-is_sound_with
unfolding listing_of
returns-then-not-is_sound_with c = rw (sym c.is_sound_with.ensures.0 ∙ c.if-not-is_sound_with.true)

pub list_bytes-least-requires : goal.list_bytes-least-requires
list_bytes-least-requires c =
    let tested = c.is_sound_with in
    let good = c.if-not-is_sound_with.false in
    (sym tested.ensures.0 ∙ good, tested.ensures.1 good)

pub returns-then-not-has_room-2 : goal.returns-then-not-has_room-2
returns-then-not-has_room-2 c =
    let m = c in
    let s6 = m in
    let a = s6.args in
    let t = tables_of a.c a.records.now a.objects.now a.groups.now in
    list-no-room t (sym s6.is_sound_with.ensures.0 ∙ s6.if-not-is_sound_with.false) a.out.now
    a.start (rw (← m.list_bytes-least.ensures) (sym c.has_room-then-not-has_room.ensures ∙ c.if-not-has_room-2.true))

pub slice_bounds-put_list_by-count : goal.slice_bounds-put_list_by-count
slice_bounds-put_list_by-count c =
    let longest = sym c.has_room.ensures in
    elim c.if-not-has_room.branch [
      | then-not-has_room+else-not-has_room-2 v ↦
          let room = sym v.has_room-then-not-has_room.ensures ∙ v.if-not-has_room-2.false in
          omega (arith, leb-true, room)
      | else-not-has_room v ↦
          let room = longest ∙ v.if-not-has_room.false in
          omega (arith, leb-true, room)
    ]

pub slice_bounds-put_list_by-start : goal.slice_bounds-put_list_by-start
slice_bounds-put_list_by-start c =
    let longest = sym c.has_room.ensures in
    elim c.if-not-has_room.branch [
      | then-not-has_room+else-not-has_room-2 v ↦
          let room = sym v.has_room-then-not-has_room.ensures ∙ v.if-not-has_room-2.false in
          omega (arith, leb-true, room)
      | else-not-has_room v ↦
          let room = longest ∙ v.if-not-has_room.false in
          omega (arith, leb-true, room)
    ]

pub put_list_by-bytes-requires : goal.put_list_by-bytes-requires
put_list_by-bytes-requires c =
    let tested = c.is_sound_with in
    let good = c.if-not-is_sound_with.false in
    (sym tested.ensures.0 ∙ good, tested.ensures.1 good)

pub returns : goal.returns
returns c =
    let put = c in
    let joined = put in
    let s9 = joined in
    let a = s9.args in
    let t = tables_of a.c a.records.now a.objects.now a.groups.now in
    let done = put.put_list_by-bytes.ensures in
    let longest = sym joined.has_room.ensures in
    let fits : a.start + length (list_of t) ≤ length a.out.now =
    elim c.if-not-has_room.branch [
      | then-not-has_room+else-not-has_room-2 v ↦
          let room = sym v.has_room-then-not-has_room.ensures ∙ v.if-not-has_room-2.false in
          omega (arith, leb-true, room, v.list_bytes-least.ensures)
      | else-not-has_room v ↦
          let room = longest ∙ v.if-not-has_room.false in
          omega (arith, leb-true, room, done.few)
    ] in
    list_put t (sym s9.is_sound_with.ensures.0 ∙ joined.if-not-is_sound_with.false) a.out.now
    a.start fits done
