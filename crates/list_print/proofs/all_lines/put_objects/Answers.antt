-- `list_print::all_lines::put_objects` meets its contract: each turn puts the lines of one object behind those before
-- it. Assumes nothing.
use mathlib.Core.Path.{refl, ◌∙◌}
use Prim.Native.Nat.{◌*◌}
use native.Mathlib.Omega.{arith}
use Rattle.group_step.specs.GroupRows.{most_groups}
use Rattle.table_drawing.specs.Tables.{tables_of}
use Rattle.table_soundness.proofs.SoundFacts.{sound-at}
use Rattle.list_line.specs.Line.{line_length}
use Rattle.list_lines.specs.List.{lines_for}
use Rattle.list_lines.proofs.LinesGathered.{sorted-low}
use Rattle.list_objects.proofs.KeysByTops.{in_order_lem}
use Rattle.list_objects.proofs.TopsByIndex.{tops-aimed, creates-held}
use Rattle.list_print.specs.Printing.{joined}
use Rattle.list_print.proofs.BytesBehind.{fewer-behind, no-piece, piece-behind}
use Rattle.list_print.proofs.LinesJoined.{sorted-lines}
use borrow.Author.Rules.{rules}
use Rattle.list_print.proofs.all_lines.put_objects.Goals as goal

pub sort_objects-requires : goal.sort_objects-requires
sort_objects-requires c =
    let a = c.args in
    let t = tables_of a.c a.records.now a.objects.now a.groups.now in
    let f = sound-at t c.requires.0 in
    (f.few-records, f.few-objects, omega (arith, f.few-objects), c.requires.1, tops-aimed t f, creates-held t f)

pub loop-i-init : goal.loop-i-init
loop-i-init c =
    let a = c.args in
    let t = tables_of a.c a.records.now a.objects.now a.groups.now in
    let order = c.sort_objects.new.out in
    (refl, refl, no-piece (λ o. joined (lines_for t o)) (most_groups * line_length) a.out.now order a.n)

pub bounds-order-i : goal.bounds-order-i
bounds-order-i c =
    let a = c.args in
    let t = tables_of a.c a.records.now a.objects.now a.groups.now in
    let few = (sound-at t c.requires.0).few-objects in
    omega (arith, few)

pub overflow_cast-o : goal.overflow_cast-o
overflow_cast-o c =
    let a = c.args in
    let t = tables_of a.c a.records.now a.objects.now a.groups.now in
    let f = sound-at t c.requires.0 in
    let ordered = c.sort_objects.ensures ∙ in_order_lem t f in
    let low = sorted-low t f _ ordered c.loop-i.i (omega arith) in
    search (rules, low)

pub put_object-w-requires : goal.put_object-w-requires
put_object-w-requires c =
    let l = c.loop-i in
    let a = c.args in
    let t = tables_of a.c a.records.now a.objects.now a.groups.now in
    let f = sound-at t c.requires.0 in
    let more = c.loop-i-test.true in (
      c.requires.0,
      c.requires.2,
      sorted-low t f _ (c.sort_objects.ensures ∙ in_order_lem t f) l.i (omega (arith, more)),
      omega (arith, more, f.few-objects, c.requires.3, l.invariant.2.end, l.invariant.2.few),
      omega (arith, c.requires.4, l.invariant.1),
    )

pub loop-i-preserved : goal.loop-i-preserved
loop-i-preserved c =
    let a = c.args in
    let t = tables_of a.c a.records.now a.objects.now a.groups.now in
    let p = c.put_object-w in
    let l = c.loop-i in
    let more = c.loop-i-test.true in
    let few = (sound-at t c.requires.0).few-objects in (
      p.auto.out ∙ l.invariant.0,
      p.auto.line ∙ l.invariant.1,
      piece-behind (λ o. joined (lines_for t o)) (most_groups * line_length) a.out.now _ a.n l.i
          (omega (arith, few, more, c.sort_objects.auto.out)) l.invariant.2 p.ensures,
    )

pub returns : goal.returns
returns c =
    let a = c.args in
    let t = tables_of a.c a.records.now a.objects.now a.groups.now in
    let l = c.loop-i in
    let f = sound-at t c.requires.0 in
    let ordered = c.sort_objects.ensures ∙ in_order_lem t f in
    rw (← sorted-lines t _ ordered l.i (omega arith))
    (fewer-behind a.out.now a.n (omega (arith, f.few-objects)) l.invariant.2)
