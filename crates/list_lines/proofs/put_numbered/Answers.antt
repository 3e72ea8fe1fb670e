-- `list_lines::put_numbered` meets its contract: line 0, no line of that number, or the line that is found. Assumes
-- nothing.
use native.Mathlib.Omega.{arith}
use Rattle.table_drawing.specs.Tables.{tables_of}
use Rattle.table_soundness.proofs.SoundFacts.{sound-at}
use Rattle.list_lines.proofs.LineFound.{numbered-head, not-numbered, numbered}
use Rattle.list_lines.proofs.put_numbered.Goals as goal

pub head-requires : goal.head-requires
head-requires c =
    let a = c.args in
    let t = tables_of a.c a.records.now a.objects.now a.groups.now in
    ((sound-at t c.requires.0).few-objects, omega (arith, c.requires.2))

pub returns-then-k-eq0 : goal.returns-then-k-eq0
returns-then-k-eq0 c =
    let h = c.head.ensures in
    let a = c.args in
    let t = tables_of a.c a.records.now a.objects.now a.groups.now in
    numbered-head t a.k _ _ (omega arith) h.0 h.1

pub returns-in_err-f : goal.returns-in_err-f
returns-in_err-f c =
    let a = c.args in
    let t = tables_of a.c a.records.now a.objects.now a.groups.now in
    rw c.from_residual.ensures (not-numbered t a.k a.out.now _ (omega arith) c.in_err-f.ensures)

pub returns : goal.returns
returns c =
    let p = c.put_found.ensures in
    let a = c.args in
    let t = tables_of a.c a.records.now a.objects.now a.groups.now in
    numbered t a.k _ _ (omega arith) c.in_ok-f.f c.in_ok-f.ensures _ p.0 p.1
