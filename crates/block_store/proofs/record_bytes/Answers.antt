-- `block_store::record_bytes` meets its contract: `bytes` is the length of the first i records. Assumes nothing.
use mathlib.Core.Path.{◌≡◌, refl}
use native.Mathlib.Numerals.{add-one}
use native.Mathlib.Omega.{arith}
use Rattle.edit_form.specs.OldForm.{chained}
use Rattle.edit_form.proofs.Stretches.{chained-inside}
use Rattle.edit_history.specs.EditsHeld.{bytes_at}
use Rattle.block_store.proofs.WritingOutcomes.{held-long, held_next, held-most}
use Rattle.block_store.proofs.record_bytes.Goals as goal

pub loop-i-init : goal.loop-i-init
unfolding chained
loop-i-init c = (refl)

pub overflow_add-bytes : goal.overflow_add-bytes
overflow_add-bytes c =
    let r = c in
    let l = r.loop-i in
    let s = r in
    let a = s.args in
    let rs = a.records.now in
    let w = c.span_of-bytes.result in
    omega (
      arith,
      held-most rs a.n s.requires.1 s.requires.2 a.n (omega arith),
      chained-inside (bytes_at rs) l.i a.n r.loop-i-test.true,
      held-long rs a.n s.requires.1 s.requires.2 l.i r.loop-i-test.true w c.span_of-bytes.ensures,
      l.invariant,
      s.requires.0,
    )

pub loop-i-preserved : goal.loop-i-preserved
loop-i-preserved c =
    let r = c in
    let l = r.loop-i in
    let s = r in
    let a = s.args in (rw (add-one l.i)
    (held_next a.records.now a.n s.requires.1 s.requires.2 l.i r.loop-i-test.true c.span_of-bytes.result
    c.span_of-bytes.ensures l.bytes l.invariant))

pub returns : goal.returns
returns c =
    let l = c.loop-i in
    let k : l.i ≡ c.args.n = omega arith in
    rw k at l.invariant
