-- `group_engine::enumerate` meets its contract: with nothing decided, the groups to be found are all there are.
-- Assumes nothing.
use mathlib.Core.Path.{refl, ◌∙◌}
use native.Mathlib.Omega.{arith}
use lib.Pow.{pow_pos}
use Rattle.group_engine.proofs.WholeSearch.{start_partial, none-waits, none_found, told, unchanged, settles}
use Rattle.group_engine.proofs.enumerate.Goals as goal

pub overflow_sub-only : goal.overflow_sub-only
overflow_sub-only c = omega (arith, c.only.ensures, pow_pos c.args.n)

pub decide_rest-r-requires : goal.decide_rest-r-requires
decide_rest-r-requires c =
    let a = c.args in (
      omega arith,
      c.requires.1,
      refl,
      omega arith,
      c.requires.3,
      start_partial a.conflicts.now a.n c.only.result c.only.ensures,
      none-waits a.conflicts.now a.n,
      omega arith,
      none_found a.conflicts.now a.n _,
    )

pub returns-then-r-gt-GROUPS : goal.returns-then-r-gt-GROUPS
returns-then-r-gt-GROUPS c =
    let a = c.args in
    let d = c.decide_rest-r in
    let row = d.new.out in (
      told a.conflicts.now a.n d.result row d.ensures,
      unchanged a.conflicts.now a.n d.result row d.ensures a.out.now c.if-r-gt-GROUPS.true,
    )

pub returns : goal.returns
returns c =
    let a = c.args in
    let d = c.decide_rest-r in
    let row = d.new.out in (
      told a.conflicts.now a.n d.result row d.ensures,
      c.store.ensures
          ∙ rw c.requires.2
          (settles a.conflicts.now a.n d.result row d.ensures a.out.now (omega arith)),
    )
