-- `edit_record::own_entry` meets its contract: past the last entry a vector gives 0. Assumes nothing.
use mathlib.Core.Path.{sym, ◌∙◌}
use Prim.Native.Nat.{◌≤◌}
use native.Mathlib.Omega.{arith}
use lib.ListN.{length, drop, get_or-eq_default}
use Rattle.edit_record.specs.Layout.{most_sites, vector_at}
use Rattle.edit_record.specs.RecordBytes.{counts}
use Rattle.edit_record.proofs.NumbersInBytes.{counts-length, entry-in-record}
use Rattle.edit_record.proofs.own_entry.Goals as goal

pub returns-then-site-lt-SITES : goal.returns-then-site-lt-SITES
returns-then-site-lt-SITES c =
    let a = c.args in
    c.pair_at.ensures ∙ sym (entry-in-record a.rec.now a.site (omega arith))

pub returns : goal.returns
returns c =
    let a = c.args in
    let v = counts most_sites (drop vector_at a.rec.now) in
    let h : length v ≤ a.site = omega (arith, counts-length most_sites (drop vector_at a.rec.now)) in
    sym (get_or-eq_default v 0 h)
