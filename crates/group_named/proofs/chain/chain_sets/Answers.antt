-- `group_named::chain::chain_sets` meets its contract: the chain goes through the Sets that stand behind those still to
-- come. Assumes nothing.
use mathlib.Core.Path.{◌≡◌, refl, sym, subst, ◌∙◌}
use mathlib.Core.List.{List}
use Prim.Native.Nat.{ℕ, ◌+◌, ◌-◌, ◌<◌}
use native.Mathlib.Omega.{arith}
use Rattle.group_named.proofs.SetsChained.{ByteLinkedFrom, linked-none, linked-all, linked-with}
use Rattle.group_named.proofs.chain.chain_sets.Goals as goal

-- from the place before i
before : (rs : List ℕ) (n i : ℕ) (ch : List ℕ) → 0 < i → ByteLinkedFrom rs n i ch → ByteLinkedFrom rs n ((i - 1) + 1) ch
before rs n i ch l h =
    let e : i ≡ (i - 1) + 1 = omega arith in
    subst (λ (j : ℕ). ByteLinkedFrom rs n j ch) e h

pub loop-q-init : goal.loop-q-init
loop-q-init c =
    let s = c in
    let a = s.args in
    (refl, λ index targets. linked-none a.recs.now a.n a.chain.now s.requires.2)

pub link_record-requires : goal.link_record-requires
link_record-requires c =
    let s = c in
    let l = c.loop-q in (
      omega (arith, c.loop-q-test.true, l.invariant.0, s.requires.1),
      omega (
        arith,
        c.loop-q-test.true,
        s.requires.0,
      ),
    )

pub loop-q-preserved : goal.loop-q-preserved
loop-q-preserved c =
    let s = c in
    let a = s.args in
    let l = c.loop-q in
    let k = c.link_record in
    let rs = a.recs.now in
    let q = l.q - 1 in
    let some : 0 < l.q = c.loop-q-test.true in (
      k.auto.chain ∙ l.invariant.0,
      λ index targets. subst (ByteLinkedFrom rs a.n q) (sym k.ensures)
          (linked-with rs a.places.now a.n index targets q (omega (arith, some)) l.chain
          (omega (arith, l.invariant.0, s.requires.1)) (before rs a.n l.q l.chain some (l.invariant.1 index targets))),
    )

pub returns : goal.returns
returns c index targets =
    let a = c.args in
    let l = c.loop-q in
    linked-all a.recs.now a.n l.q l.chain (omega arith) (l.invariant.1 index targets)
