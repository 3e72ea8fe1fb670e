-- `table_check::is_row_true` meets its contract; having seen goes through among the Sets, as `work_out` asks.
-- Assumes nothing.
use Prim.Native.Nat.{◌≤◌}
use native.Mathlib.Omega.{arith}
use lib.ListN.{length}
use Rattle.table_drawing.specs.Tables.{tables_of}
use Rattle.table_soundness.proofs.SoundFacts.{but-at}
use Rattle.table_check.proofs.RowWorkedOut.{few-sets, places-are, places-lawful, places-told, row-fits-in}
use Rattle.table_check.proofs.RowWorkedOut.{too_many, row-decides}
use borrow.Author.Rules.{rules}
use Rattle.table_check.proofs.is_row_true.Goals as goal

pub gather_sets-requires : goal.gather_sets-requires
gather_sets-requires c =
    let s = c in
    let a = s.args in
    let p = c.at16-p in
    let k = c.at16-k in
    let t = tables_of a.c a.records.now a.objects.now a.groups.now in
    few-sets t (but-at t s.requires.0) a.o s.requires.1 p.result k.result p.ensures k.ensures

pub work_out-requires : goal.work_out-requires
work_out-requires c =
    let b = c in
    let s = b in
    let a = s.args in
    let p = b.at16-p in
    let k = b.at16-k in
    let t = tables_of a.c a.records.now a.objects.now a.groups.now in
    let sound = but-at t s.requires.0 in
    let e = places-are t sound a.o s.requires.1 p.result k.result p.ensures k.ensures
    a.chain.now _ s.requires.2 b.gather_sets.ensures in
    let few = few-sets t sound a.o s.requires.1 p.result k.result p.ensures k.ensures in
    let g = b.gather_sets in
    let room : k.result ≤ length g.new.members = omega (arith, g.auto.members) in (
      room,
      few,
      search rules,
      places-lawful t sound a.o s.requires.1 p.result k.result p.ensures k.ensures _ room e,
      places-told t sound a.o s.requires.1 p.result k.result p.ensures k.ensures _ room e,
    )

pub returns-in_default : goal.returns-in_default
returns-in_default c =
    let b = c in
    let s = b in
    let a = s.args in
    let p = b.at16-p in
    let k = b.at16-k in
    let t = tables_of a.c a.records.now a.objects.now a.groups.now in
    let sound = but-at t s.requires.0 in
    let e = places-are t sound a.o s.requires.1 p.result k.result p.ensures k.ensures
    a.chain.now _ s.requires.2 b.gather_sets.ensures in
    let few = few-sets t sound a.o s.requires.1 p.result k.result p.ensures k.ensures in
    let g = b.gather_sets in
    let room : k.result ≤ length g.new.members = omega (arith, g.auto.members) in
    too_many t sound a.o s.requires.1 p.result k.result p.ensures k.ensures _ room e c.in_default.ensures

pub is_row-requires : goal.is_row-requires
is_row-requires c =
    let b = c in
    let s = b in
    let a = s.args in
    let p = b.at16-p in
    let k = b.at16-k in
    let t = tables_of a.c a.records.now a.objects.now a.groups.now in
    let sound = but-at t s.requires.0 in (
      row-fits-in t sound a.o s.requires.1 p.result k.result p.ensures k.ensures,
      rw b.at16-g.ensures (sound.object a.o s.requires.1).row.few,
      omega (arith, c.work_out.auto.gs, c.in-Some.ensures.0),
    )

pub returns : goal.returns
returns c =
    let b = c in
    let s = b in
    let a = s.args in
    let p = b.at16-p in
    let k = b.at16-k in
    let t = tables_of a.c a.records.now a.objects.now a.groups.now in
    let sound = but-at t s.requires.0 in
    let e = places-are t sound a.o s.requires.1 p.result k.result p.ensures k.ensures
    a.chain.now _ s.requires.2 b.gather_sets.ensures in
    let few = few-sets t sound a.o s.requires.1 p.result k.result p.ensures k.ensures in
    let g = b.gather_sets in
    let room : k.result ≤ length g.new.members = omega (arith, g.auto.members) in
    let (_, turn, front) = c.in-Some.ensures in
    row-decides t sound a.o s.requires.1 p.result k.result p.ensures k.ensures _ room e _ _ c.is_row.result turn front
    (rw b.at16-g.ensures at c.is_row.ensures)
