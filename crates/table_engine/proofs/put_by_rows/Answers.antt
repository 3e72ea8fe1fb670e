-- `table_engine::put_by_rows` meets its contract: the masks are the conflicts by the rows that the test of 16 leaves.
-- Assumes nothing.
use mathlib.Core.Path.{sym, ◌∙◌}
use mathlib.Core.Bool.{◌&&◌}
use Prim.Native.Nat.{◌≤◌}
use native.Mathlib.Omega.{arith}
use lib.Dec.{leb}
use borrow.Author.Tests.{not-true, not-false, leb-true, le-leb}
use Rattle.math_lists.proofs.Booleans.{both, and-on, clash}
use Rattle.table_engine.specs.Enumeration.{most_decided}
use Rattle.table_engine.specs.EngineForms.{sets_of}
use Rattle.table_engine.proofs.MasksOfSets.{masked}
use Rattle.table_engine.proofs.BoxPrepared.{proper-of}
use borrow.Author.Rules.{rules}
use Rattle.table_engine.proofs.put_by_rows.Goals as goal

pub returns-then-not-named-k : goal.returns-then-not-named-k
returns-then-not-named-k c =
    let y = c in
    let s = y in
    let b = s.requires.0 in
    let t = y.are_named_last_in-named in
    record {
      decides = (t.ensures s.args.c.sites b.holds.few-sites b.holds.pass b.indexed).0;
      masked = λ on few.
          clash (and-on t.result (leb s.args.k most_decided) on (le-leb s.args.k most_decided few))
          (not-true (t.result && leb s.args.k most_decided) c.if-not-named-k.true-raw);
    }

pub put_conflicts-requires : goal.put_conflicts-requires
put_conflicts-requires c =
    let y = c in
    let k = y.args.k in
    let t = y.are_named_last_in-named in
    let asked = not-false (t.result && leb k most_decided) c.if-not-named-k.false-raw in
    let few : k ≤ most_decided = leb-true k most_decided (both t.result (leb k most_decided) asked).1 in
    (omega arith, search (rules, few), search (rules, few), search (rules, few))

pub returns : goal.returns
returns c =
    let m = c.put_conflicts in
    let y = c in
    let s = y in
    let a = s.args in
    let b = s.requires.0 in
    let (is, told) = y.are_named_last_in-named.ensures a.c.sites b.holds.few-sites b.holds.pass b.indexed in
    record {
      decides = is;
      masked = λ on few.
          masked (sets_of a.recs.now a.c.records a.p) a.k b.many
          (proper-of a.c a.recs.now a.index.now a.p a.k b (sym is ∙ on)) _ _ m.new.out
          (told on b.create).rows m.ensures;
    }
