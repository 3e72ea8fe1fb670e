-- `table_kept::chained::put_chains` meets its contract: the Sets of the keys passed are put down. Assumes nothing.
use mathlib.Core.Path.{◌≡◌, refl, ◌∙◌}
use mathlib.Core.Logic.{inl, inr}
use native.Mathlib.Omega.{arith}
use Rattle.math_lists.proofs.LastBelow.{last}
use Rattle.edit_record.specs.Layout.{keys}
use Rattle.edit_history.specs.EditsHeld.{record_at}
use Rattle.table_kept.proofs.AlongChains.{all-in-order}
use Rattle.table_kept.proofs.chained.put_chains.Goals as goal

pub loop-key-init : goal.loop-key-init
loop-key-init c = (refl, λ x l on key. absurd (omega arith))

pub put_chain-requires : goal.put_chain-requires
put_chain-requires c =
    let s = c in
    let l = c.loop-key in
    (s.requires.0, c.loop-key-test.true, omega (arith, l.invariant.0, s.requires.1))

pub loop-key-preserved : goal.loop-key-preserved
loop-key-preserved c =
    let l = c.loop-key in
    let rs = c.args.recs.now in
    let h = c.put_chain.ensures in (
      h.long ∙ l.invariant.0,
      λ x low on key. elim (last {i = (record_at rs x).key} {n = l.key} (omega (arith, key))) [
        | inl m ↦ h.others x low on (λ z. omega arith) ∙ l.invariant.1 x low on m
        | inr z ↦ h.put x low on z (omega arith)
      ],
    )

pub shape_of-out : goal.shape_of-out
shape_of-out c = c.loop-key.invariant.0

pub returns : goal.returns
returns c =
    let l = c.loop-key in
    let s = c in
    let a = s.args in
    let h = s.requires.0 in
    let done : l.key ≡ keys = omega arith in
    all-in-order a.recs.now a.q l.out a.n (omega (arith, h.narrow, s.requires.1, l.invariant.0))
    (λ x low on. l.invariant.1 x low on (omega (arith, h.known x low on, done)))
