-- `group_kept::put_down` meets its contract. Assumes nothing.
use mathlib.Core.Path.{sym, ◌∙◌}
use mathlib.Core.List.{◌++◌}
use Prim.Native.Nat.{◌+◌, ◌%◌, ◌<◌}
use native.Mathlib.Omega.{arith}
use lib.ListN.{length, set, drop, length-set, length-append, length-drop}
use lib.Seq.{length-take-le}
use Rattle.group_sight.specs.SightForms.{most_recent}
use Rattle.group_kept.specs.KeptForms.{contexts_at, sees_at}
use Rattle.group_kept.proofs.OneSetMore.{kept-one-more}
use Rattle.group_kept.proofs.put_down.Goals as goal

pub slice_bounds-put_row-end-2 : goal.slice_bounds-put_row-end-2
slice_bounds-put_row-end-2 c =
    let s = c in
    sym (length-take-le contexts_at s.args.rows.now (omega (arith, s.requires.1)))

pub put_row-requires : goal.put_row-requires
put_row-requires c =
    let s = c in
    let half = length-take-le contexts_at s.args.rows.now (omega (arith, s.requires.1)) in
    (s.requires.0, omega (arith, half, s.requires.0), s.requires.2)

pub bounds-rows-k-2 : goal.bounds-rows-k-2
bounds-rows-k-2 c =
    let s = c in
    let a = s.args in
    let rows = a.rows.now in
    let m = c.put_row in
    let half = m.auto.plain ∙ length-take-le contexts_at rows (omega (arith, s.requires.1)) in
    let there : sees_at + a.k % most_recent
    < length (set (m.new.plain ++ drop contexts_at rows) (contexts_at + a.k) a.t.context)
    = omega (
      arith,
      length-set (m.new.plain ++ drop contexts_at rows) (contexts_at + a.k) a.t.context,
      length-append m.new.plain (drop contexts_at rows),
      length-drop contexts_at rows,
      half,
      s.requires.1,
    ) in
    there

pub returns : goal.returns
returns c ms e long kept noted =
    let s = c in
    let a = s.args in
    let m = c.put_row in
    let half = m.auto.plain ∙ length-take-le contexts_at a.rows.now (omega (arith, s.requires.1)) in
    kept-one-more ms e a.k long s.requires.0 a.rows.now m.new.plain a.t s.requires.1 half kept noted
    m.ensures.0 m.ensures.1
