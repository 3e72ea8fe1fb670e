-- `table_arrival::take_set` meets its contract. Assumes nothing.
use Prim.Native.Nat.{◌≤◌, ◌<◌}
use native.Mathlib.Omega.{arith}
use lib.ListN.{length}
use Rattle.table_drawing.specs.Tables.{tables_of}
use Rattle.group_step.specs.GroupRows.{most_groups}
use Rattle.table_arrival.proofs.SetReady.{step_by, set_given, set_apart, set-refused, set-stored}
use Rattle.table_arrival.proofs.take_set.Goals as goal

pub overflow_mul-g : goal.overflow_mul-g
overflow_mul-g c =
    let p = set_given (tables_of c.args.c c.args.records.now c.args.objects.now c.args.groups.now) c.args.rec.now c.args.h
    c.args.j c.args.apart c.requires in
    omega arith

pub overflow_add-g : goal.overflow_add-g
overflow_add-g c =
    let p = set_given (tables_of c.args.c c.args.records.now c.args.objects.now c.args.groups.now) c.args.rec.now c.args.h
    c.args.j c.args.apart c.requires in
    omega arith

pub offset_bounds-objects-o : goal.offset_bounds-objects-o
offset_bounds-objects-o c =
    let p = set_given (tables_of c.args.c c.args.records.now c.args.objects.now c.args.groups.now) c.args.rec.now c.args.h
    c.args.j c.args.apart c.requires in
    omega arith

pub bounds-objects-o : goal.bounds-objects-o
bounds-objects-o c =
    let p = set_given (tables_of c.args.c c.args.records.now c.args.objects.now c.args.groups.now) c.args.rec.now c.args.h
    c.args.j c.args.apart c.requires in
    omega arith

pub overflow_cast-g : goal.overflow_cast-g
overflow_cast-g c =
    let p = set_given (tables_of c.args.c c.args.records.now c.args.objects.now c.args.groups.now) c.args.rec.now c.args.h
    c.args.j c.args.apart c.requires in
    omega arith

pub step_known-m-requires : goal.step_known-m-requires
step_known-m-requires c =
    let p = set_given (tables_of c.args.c c.args.records.now c.args.objects.now c.args.groups.now) c.args.rec.now c.args.h
    c.args.j c.args.apart c.requires in (
      p.groups-long,
      p.object,
      p.groups,
      p.sets,
      p.ascending,
      p.below,
      set_apart (tables_of c.args.c c.args.records.now c.args.objects.now c.args.groups.now) c.args.rec.now c.args.h c.args.j c.args.apart c.requires,
    )

pub returns-then-m-gt-GROUPS : goal.returns-then-m-gt-GROUPS
returns-then-m-gt-GROUPS c =
    let a = c.args in
    let t = tables_of c.args.c c.args.records.now c.args.objects.now c.args.groups.now in
    let m = c.step_known-m in
    let many : most_groups < length (step_by t a.h a.j.conflicts) = rw m.ensures.0 at c.if-m-gt-GROUPS.true in
    rw m.ensures.1 (set-refused t a.rec.now a.h a.j a.apart c.requires many)

pub overflow_cast-k : goal.overflow_cast-k
overflow_cast-k c =
    let p = set_given (tables_of c.args.c c.args.records.now c.args.objects.now c.args.groups.now) c.args.rec.now c.args.h
    c.args.j c.args.apart c.requires in
    omega arith

pub overflow_add-k : goal.overflow_add-k
overflow_add-k c =
    let p = set_given (tables_of c.args.c c.args.records.now c.args.objects.now c.args.groups.now) c.args.rec.now c.args.h
    c.args.j c.args.apart c.requires in
    omega arith

pub overflow_cast-m : goal.overflow_cast-m
overflow_cast-m c =
    let p = set_given (tables_of c.args.c c.args.records.now c.args.objects.now c.args.groups.now) c.args.rec.now c.args.h
    c.args.j c.args.apart c.requires in
    omega arith

pub store_set-d-requires : goal.store_set-d-requires
store_set-d-requires c =
    let p = set_given (tables_of c.args.c c.args.records.now c.args.objects.now c.args.groups.now) c.args.rec.now c.args.h
    c.args.j c.args.apart c.requires in (
      p.room,
      p.few-objects,
      p.object,
      p.records-long,
      p.objects-long,
      p.whole,
      p.short,
      rw c.byte_at.ensures p.count,
    )

pub returns : goal.returns
returns c =
    let a = c.args in
    let t = tables_of c.args.c c.args.records.now c.args.objects.now c.args.groups.now in
    let m = c.step_known-m in
    let d = c.store_set-d in
    let few : length (step_by t a.h a.j.conflicts) ≤ most_groups = rw m.ensures.0 at c.if-m-gt-GROUPS.false in
    rw (d.ensures.0, d.ensures.1, d.ensures.2, m.ensures.1, m.ensures.0, c.byte_at.ensures)
    (set-stored t a.rec.now a.h a.j a.apart c.requires few)
