-- `block_store::write` meets its contract: each of its three ends is that outcome, and the part that is lent comes back
-- with the block in front. Assumes nothing.
use mathlib.Core.Path.{sym, ◌∙◌}
use Prim.Native.Nat.{◌*◌, ◌≤◌}
use native.Mathlib.Omega.{arith}
use lib.ListN.{length}
use borrow.Author.Tests.{leb-true}
use Rattle.edit_record.specs.Layout.{place_length}
use Rattle.edit_sum.proofs.SumOfRecords.{passing-fit}
use Rattle.table_drawing.specs.Tables.{tables_of}
use Rattle.table_soundness.proofs.SoundFacts.{sound-at}
use Rattle.block_store.specs.Writing.{block_of}
use Rattle.block_store.proofs.WritingOutcomes.{held-most, unsound-refused, no_room, written}
use Rattle.block_store.proofs.write.Goals as goal

pub returns-then-not-is_sound : goal.returns-then-not-is_sound
returns-then-not-is_sound c =
    let a = c.args in
    unsound-refused (tables_of a.c a.records.now a.objects.now a.groups.now) a.out.now a.start
    (sym c.is_sound.ensures ∙ c.if-not-is_sound.true)

pub record_bytes-end-requires : goal.record_bytes-end-requires
record_bytes-end-requires c =
    let i = c in
    let a = i.args in
    let t = tables_of a.c a.records.now a.objects.now a.groups.now in
    let s = sound-at t (sym i.is_sound.ensures ∙ i.if-not-is_sound.false) in (
      s.few-records,
      omega (arith, s.few-records, s.records-long),
      passing-fit a.c.sites a.records.now a.c.records s.pass,
    )

pub overflow_add-bytes : goal.overflow_add-bytes
overflow_add-bytes c =
    let i = c in
    let a = i.args in
    let t = tables_of a.c a.records.now a.objects.now a.groups.now in
    let s = sound-at t (sym i.is_sound.ensures ∙ i.if-not-is_sound.false) in
    let n = a.c.records in
    let there : n * place_length ≤ length a.records.now = omega (arith, s.few-records, s.records-long) in
    omega (
      arith,
      c.record_bytes-end.ensures,
      held-most a.records.now n there (passing-fit a.c.sites a.records.now n s.pass) n (omega arith),
      s.few-records,
    )

pub returns-then-not-has_room : goal.returns-then-not-has_room
returns-then-not-has_room c =
    let b = c in
    let i = b in
    let a = i.args in
    no_room (tables_of a.c a.records.now a.objects.now a.groups.now) a.out.now a.start
    (sym i.is_sound.ensures ∙ i.if-not-is_sound.false)
    (rw b.record_bytes-end.ensures at (sym c.has_room.ensures ∙ c.if-not-has_room.true))

pub slice_bounds-write_block-count : goal.slice_bounds-write_block-count
slice_bounds-write_block-count c =
    let room = sym c.has_room.ensures ∙ c.if-not-has_room.false in
    omega (arith, leb-true)

pub slice_bounds-write_block-start : goal.slice_bounds-write_block-start
slice_bounds-write_block-start c =
    let room = sym c.has_room.ensures ∙ c.if-not-has_room.false in
    omega (arith, leb-true)

pub write_block-requires : goal.write_block-requires
write_block-requires c =
    let r = c in
    let b = r in
    let i = b in
    let a = i.args in
    let t = tables_of a.c a.records.now a.objects.now a.groups.now in
    let s = sound-at t (sym i.is_sound.ensures ∙ i.if-not-is_sound.false) in
    let room = sym r.has_room.ensures ∙ c.if-not-has_room.false in (
      s.few-records,
      omega (arith, s.few-records, s.records-long),
      passing-fit a.c.sites a.records.now a.c.records s.pass,
      b.record_bytes-end.ensures,
      omega (arith, leb-true),
    )

pub returns : goal.returns
unfolding block_of
returns c =
    let w = c in
    let f = w in
    let b = f in
    let i = b in
    let a = i.args in
    rw b.record_bytes-end.ensures
    (written (tables_of a.c a.records.now a.objects.now a.groups.now) a.out.now a.start
    (sym i.is_sound.ensures ∙ i.if-not-is_sound.false)
    (rw b.record_bytes-end.ensures at (sym f.has_room.ensures ∙ f.if-not-has_room.false))
    (rw b.record_bytes-end.ensures at w.write_block.ensures))
