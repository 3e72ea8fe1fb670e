-- `list_version::values::last_of` meets its contract: with the largest stamp of those left, the one found is the
-- largest. Assumes nothing.
use mathlib.Core.Path.{sym, ◌∙◌}
use native.Mathlib.Omega.{arith}
use Rattle.math_maximal.proofs.OneMemberLess.{less-left}
use Rattle.list_version.proofs.LargestWhere.{most-is, having-alone, having-part}
use Rattle.list_version.proofs.LargestWhere.{none_left, part-on, goes_on, ends}
use Rattle.list_version.proofs.values.last_of.Goals as goal

pub loop-left-init : goal.loop-left-init
loop-left-init c =
    let start = c in
    let a = start.args in
    let p = start.requires in
    let ss = a.stamps.now in
    let by = a.keyed.now in (
      having-part ss by a.peaks a.t a.g a.k p.2 p.4,
      omega (arith, having-alone ss by a.peaks a.t a.g a.k p.2 p.4),
    )

pub offset_bounds-stamps-i : goal.offset_bounds-stamps-i
offset_bounds-stamps-i c =
    let low = (c.loop-left.invariant.0 c.highest-i.result c.highest-i.ensures.1).0 in
    let few = c.requires.1 in
    record { fits = omega (arith, low, few) }

pub bounds-stamps-i : goal.bounds-stamps-i
bounds-stamps-i c =
    let found = c in
    let low = (found.loop-left.invariant.0 found.highest-i.result found.highest-i.ensures.1).0 in
    omega (arith, low, found.requires.0)

pub has-requires : goal.has-requires
has-requires c =
    let found = c in
    let low = (found.loop-left.invariant.0 found.highest-i.result found.highest-i.ensures.1).0 in
    omega (arith, low, found.requires.1)

pub returns-then-has : goal.returns-then-has
returns-then-has c =
    let found = c in
    let start = found in
    let a = start.args in
    let p = start.requires in
    let l = found.loop-left in
    let ss = a.stamps.now in
    let by = a.keyed.now in
    let top = found.highest-i.ensures in
    c.max-found.ensures
    ∙ ends ss by a.peaks a.t a.g a.k p.2 p.4 l.left found.highest-i.result l.found l.invariant.0
    top.1 l.invariant.1 top.0 (sym c.has.ensures ∙ c.if-has.true)
    ∙ most-is ss by a.peaks a.t a.g a.k p.2 p.4 p.0

pub only-requires : goal.only-requires
only-requires c =
    let found = c in
    let low = (found.loop-left.invariant.0 found.highest-i.result found.highest-i.ensures.1).0 in
    omega (arith, low, found.requires.1)

pub loop-left-smaller : goal.loop-left-smaller
loop-left-smaller c =
    let found = c in
    rw (c.without-left.ensures, c.only.ensures)
    (less-left found.loop-left.left _ found.loop-left-test.true found.highest-i.ensures.1)

pub loop-left-preserved : goal.loop-left-preserved
loop-left-preserved c =
    let found = c in
    let start = found in
    let a = start.args in
    let p = start.requires in
    let l = found.loop-left in
    let ss = a.stamps.now in
    let by = a.keyed.now in
    let i = found.highest-i.result in
    let b = found.highest-i.ensures.1 in
    rw (c.without-left.ensures, c.only.ensures, c.max-found.ensures) (
      part-on ss by a.peaks a.t a.g a.k p.2 p.4 l.left i l.found l.invariant.0 b l.invariant.1,
      goes_on ss by a.peaks a.t a.g a.k p.2 p.4 l.left i l.found l.invariant.0 b l.invariant.1,
    )

pub returns : goal.returns
returns c =
    let l = c.loop-left in
    let start = c in
    let a = start.args in
    let p = start.requires in
    let ss = a.stamps.now in
    let by = a.keyed.now in
    none_left ss by a.peaks a.t a.g a.k p.2 p.4 l.left l.found c.loop-left-test.false l.invariant.1
    ∙ most-is ss by a.peaks a.t a.g a.k p.2 p.4 p.0
