-- `list_print::all_lines::put_list_by` meets its contract: line 0, and the lines of all objects behind it. Assumes
-- nothing.
use native.Mathlib.Omega.{arith}
use Rattle.table_drawing.specs.Tables.{tables_of}
use Rattle.table_soundness.proofs.SoundFacts.{sound-at}
use Rattle.table_soundness.proofs.SoundTests.{targeted}
use Rattle.list_print.proofs.BytesBehind.{fewer-behind, more-behind}
use Rattle.list_print.proofs.LinesJoined.{list-split}
use borrow.Author.Rules.{rules}
use Rattle.list_print.proofs.all_lines.put_list_by.Goals as goal

pub put_head-w-requires : goal.put_head-w-requires
put_head-w-requires c =
    let start = c in
    let a = start.args in
    let t = tables_of a.c a.records.now a.objects.now a.groups.now in
    ((sound-at t start.requires.0).few-objects, search rules)

pub chain_sets-requires : goal.chain_sets-requires
chain_sets-requires c =
    let s8 = c in
    let start = s8 in
    let a = start.args in
    let t = tables_of a.c a.records.now a.objects.now a.groups.now in
    let s = sound-at t start.requires.0 in (
      s.few-records,
      s.few-records,
      start.requires.1,
      targeted a.c.sites a.records.now a.c.records s.pass,
    )

pub put_objects-requires : goal.put_objects-requires
put_objects-requires c =
    let s8 = c in
    let s16 = s8 in
    let start = s16 in
    let h = s8.put_head-w in (
      start.requires.0,
      start.requires.1,
      c.chain_sets.ensures,
      omega (arith, h.ensures.end, h.ensures.few),
      omega (arith, h.auto.line),
    )

pub returns : goal.returns
returns c =
    let s8 = c in
    let s16 = s8 in
    let start = s16 in
    let a = start.args in
    let t = tables_of a.c a.records.now a.objects.now a.groups.now in
    let h = s8.put_head-w in
    rw (list-split t)
    (fewer-behind a.out.now 0 (omega arith)
    (more-behind a.out.now 0 h.ensures c.put_objects.ensures))
