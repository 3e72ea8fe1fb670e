-- `list_version::values::note` meets its contract. Assumes nothing.
use native.Mathlib.Omega.{arith}
use Rattle.list_version.proofs.StampsByKey.{keyed-below, keyed-above}
use Rattle.list_version.proofs.values.note.Goals as goal

pub returns-then-s-tops : goal.returns-then-s-tops
returns-then-s-tops c stamps fits h =
    let start = c in
    let a = start.args in
    let p = start.requires in
    rw c.only-own.ensures
    (keyed-below stamps a.keyed.now a.tops.now a.peaks a.i a.s fits p.1 (omega arith) h
    (omega (arith, c.if-s-tops.true)))

pub returns : goal.returns
returns c stamps fits h =
    let start = c in
    let a = start.args in
    let p = start.requires in
    rw c.only-own.ensures
    (keyed-above stamps a.keyed.now a.tops.now a.peaks a.i a.s fits p.1 (omega arith) h
    p.2 (omega (arith, c.if-s-tops.false)))
