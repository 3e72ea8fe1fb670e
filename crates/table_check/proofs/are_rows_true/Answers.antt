-- `table_check::are_rows_true` meets its contract. Assumes nothing.
use mathlib.Core.Path.{◌≡◌, refl}
use native.Mathlib.Numerals.{add-one}
use native.Mathlib.Omega.{arith}
use Rattle.math_lists.specs.NumbersBelow.{all}
use Rattle.table_drawing.specs.Tables.{tables_of}
use Rattle.table_soundness.proofs.SoundFacts.{but-at}
use Rattle.table_soundness.proofs.SoundTests.{targeted}
use Rattle.table_check.specs.CheckForms.{rows_stand}
use Rattle.table_check.proofs.are_rows_true.Goals as goal

pub chain_sets-requires : goal.chain_sets-requires
chain_sets-requires c =
    let s = c in
    let a = s.args in
    let t = tables_of a.c a.records.now a.objects.now a.groups.now in
    let sound = but-at t s.requires.0 in (
      sound.few-records,
      sound.few-records,
      s.requires.1,
      targeted a.c.sites a.records.now a.c.records sound.pass,
    )

pub loop-o-init : goal.loop-o-init
unfolding all
loop-o-init c = (refl)

pub is_row_true-right-requires : goal.is_row_true-right-requires
is_row_true-right-requires c =
    let b = c in
    (b.requires.0, omega arith, b.chain_sets.ensures)

pub loop-o-preserved : goal.loop-o-preserved
unfolding all
loop-o-preserved c = (rw (add-one, c.loop-o.invariant, c.is_row_true-right.ensures))

pub returns : goal.returns
unfolding rows_stand
returns c =
    let l = c.loop-o in
    let s = c in
    let k : l.o ≡ s.args.c.objects = omega arith in
    rw (← k) l.invariant
