-- `list_lines::find` meets its contract: objects are passed until the line is one of an object's own. Assumes
-- nothing.
use mathlib.Core.Path.{◌∙◌}
use native.Mathlib.Omega.{arith}
use Rattle.table_drawing.specs.Tables.{tables_of}
use Rattle.table_soundness.proofs.SoundFacts.{sound-at}
use Rattle.list_lines.specs.List.{lines_for}
use Rattle.list_objects.proofs.KeysByTops.{in_order_lem}
use Rattle.list_objects.proofs.TopsByIndex.{tops-aimed, creates-held}
use Rattle.list_lines.proofs.LineFound.{all_left, passed_over, found_at, not_found}
use Rattle.list_lines.proofs.find.Goals as goal

pub sort_objects-requires : goal.sort_objects-requires
sort_objects-requires c =
    let s = c in
    let a = s.args in
    let t = tables_of a.c a.records.now a.objects.now a.groups.now in
    let f = sound-at t s.requires.0 in
    (f.few-records, f.few-objects, omega (arith, f.few-objects), s.requires.1, tops-aimed t f, creates-held t f)

pub loop-i-init : goal.loop-i-init
loop-i-init c =
    let o = c.sort_objects in
    let s = c in
    let a = s.args in
    let t = tables_of a.c a.records.now a.objects.now a.groups.now in
    let few = (sound-at t s.requires.0).few-objects in
    (all_left (lines_for t) o.new.out a.c.objects a.k (omega (arith, few, o.auto.out)))

pub returns-then-left-count : goal.returns-then-left-count
returns-then-left-count c =
    let l = c.loop-i in
    let sorted = c in
    let s = sorted in
    let o = sorted.sort_objects in
    let a = s.args in
    let t = tables_of a.c a.records.now a.objects.now a.groups.now in
    let f = sound-at t s.requires.0 in
    found_at t f o.new.out a.k (omega (arith, f.few-objects, o.auto.out)) (o.ensures ∙ in_order_lem t f) l.i
    l.left _ _
    (omega arith) l.invariant c.at16-o.ensures c.at16-count.ensures (omega arith)

pub loop-i-preserved : goal.loop-i-preserved
loop-i-preserved c =
    let l = c.loop-i in
    let sorted = c in
    let s = sorted in
    let o = sorted.sort_objects in
    let a = s.args in
    let t = tables_of a.c a.records.now a.objects.now a.groups.now in
    let f = sound-at t s.requires.0 in (passed_over t f o.new.out a.k (omega (arith, f.few-objects, o.auto.out)) (o.ensures ∙ in_order_lem t f) l.i
    l.left _ _
    (omega arith) l.invariant c.at16-o.ensures c.at16-count.ensures (omega arith))

pub returns : goal.returns
returns c =
    let l = c.loop-i in
    let o = c.sort_objects in
    let s = c in
    let a = s.args in
    let t = tables_of a.c a.records.now a.objects.now a.groups.now in
    let f = sound-at t s.requires.0 in
    not_found t f o.new.out a.k (omega (arith, f.few-objects, o.auto.out)) (o.ensures ∙ in_order_lem t f) l.i
    l.left
    (omega arith) (omega arith) l.invariant
