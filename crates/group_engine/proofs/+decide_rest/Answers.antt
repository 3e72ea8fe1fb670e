-- The proof of the cycle of calls {decide_rest}. The measure is the number undecided: the call has less. The loop goes
-- on with the Set that was left out taken in; what has been found when a number is reached are the groups below it, so
-- what the call finds, or what there was where it is not made, is what the loop goes on from. Assumes nothing.
use mathlib.Core.Path.{◌≡◌, ap, ◌∙◌}
use mathlib.Core.Bool.{true}
use mathlib.Core.List.{List}
use Prim.Native.Nat.{ℕ, ◌+◌, ◌-◌, ◌^◌, ◌<◌}
use native.Mathlib.Omega.{arith}
use lib.Bits.{bit_and}
use lib.ListN.{length}
use Rattle.math_maximal.specs.Groups.{bit}
use Rattle.group_engine.proofs.NextDecided.{all-decided, all-waiting, none-may-come, may-inside}
use Rattle.group_engine.proofs.NextDecided.{Deciding, under, goes-out, waits-out, asked-within, out-found}
use Rattle.group_engine.proofs.NextDecided.{out-stuck, in-fits, waits_in, in-stuck}
use Rattle.group_engine.proofs.Searching.{Searching, search-starts, search-goes-on, too_many, others-fewer}
use Rattle.group_engine.proofs.+decide_rest.Goals as goal
use Rattle.group_engine.proofs.+decide_rest.Goals.{then-not-is_stuck, else-not-is_stuck}

pub loop-may-init : goal.loop-may-init
loop-may-init t c =
    let p = c.requires in
    (p.2, search-starts p.5 p.6 p.7 p.8)

-- ---- what is known once the last Set that may come in is looked at

deciding :
    {ms : List ℕ} {n u₀ t₀ t may lone r k b rest : ℕ} {out : List ℕ}
    (s : Searching ms n u₀ t₀ t may lone r out) → may < 2 ^ (k + 1) → bit may k ≡ true → b ≡ 2 ^ k →
    rest ≡ may - bit_and may b → Deciding ms n s.u t may lone k b rest
deciding s h y o w = record {
  partly = s.partly;
  waits = s.waits;
  last_one = h;
  comes = y;
  its-number = o;
  the_others = w;
}

pub bounds-conflicts-k : goal.bounds-conflicts-k
bounds-conflicts-k t c =
    let p = c.requires in
    omega (arith, p.1, may-inside c.loop-may.invariant.1.partly c.highest-k.ensures.1)

pub is_stuck-requires : goal.is_stuck-requires
is_stuck-requires t c =
    let s = c.loop-may.invariant.1 in
    let d = deciding s c.highest-k.ensures.0 c.highest-k.ensures.1 c.only-bit.ensures c.without-rest.ensures in
    λ i h. (let l = asked-within d _ i h in omega (arith, c.requires.1))

pub decide_rest-next-requires : goal.decide_rest-next-requires
decide_rest-next-requires t c =
    let v = c.loop-may.invariant in
    let d = deciding v.1 c.highest-k.ensures.0 c.highest-k.ensures.1 c.only-bit.ensures c.without-rest.ensures in
    let p = c.requires in
    let l = under d in (
      omega (arith, v.1.below),
      (p.0, p.1, v.0, omega (arith, p.3, v.1.below), p.4, goes-out d, waits-out d, v.1.few, v.1.found),
    )

pub returns-then-next-gt-GROUPS : goal.returns-then-next-gt-GROUPS
returns-then-next-gt-GROUPS t c =
    let s = c.loop-may.invariant.1 in
    let d = deciding s c.highest-k.ensures.0 c.highest-k.ensures.1 c.only-bit.ensures c.without-rest.ensures in
    too_many s d c.if-next-gt-GROUPS.true (elim c.if-not-is_stuck.branch [
      | then-not-is_stuck w ↦ out-found d w.out-is w.next-is w.decide_rest-next.ensures
      | else-not-is_stuck w ↦ out-stuck d w.out-is w.next-is _ (c.is_stuck.ensures w.if-not-is_stuck.false) s.found
    ])

pub overflow_add-taken : goal.overflow_add-taken
overflow_add-taken t c =
    let s = c.loop-may.invariant.1 in
    let d = deciding s c.highest-k.ensures.0 c.highest-k.ensures.1 c.only-bit.ensures c.without-rest.ensures in
    record { fits = in-fits d c.requires.0 }

pub is_stuck-requires-in-loop-may : goal.is_stuck-requires-in-loop-may
is_stuck-requires-in-loop-may t c =
    let s = c.loop-may.invariant.1 in
    let d = deciding s c.highest-k.ensures.0 c.highest-k.ensures.1 c.only-bit.ensures c.without-rest.ensures in
    let p = c.requires in
    λ i h. (let l = (waits_in d p.4 c.without-may.ensures c.without-lone.ensures).within i h in omega (arith, p.1))

pub returns-then-is_stuck : goal.returns-then-is_stuck
returns-then-is_stuck t c =
    let s = c.loop-may.invariant.1 in
    let d = deciding s c.highest-k.ensures.0 c.highest-k.ensures.1 c.only-bit.ensures c.without-rest.ensures in
    s.onward
    (in-stuck d c.requires.4 c.without-may.ensures c.without-lone.ensures
    (c.is_stuck-in-loop-may.ensures c.if-is_stuck.true) (elim c.if-not-is_stuck.branch [
      | then-not-is_stuck w ↦ out-found d w.out-is w.next-is w.decide_rest-next.ensures
      | else-not-is_stuck w ↦ out-stuck d w.out-is w.next-is _ (c.is_stuck.ensures w.if-not-is_stuck.false) s.found
    ]))

pub loop-may-smaller : goal.loop-may-smaller
loop-may-smaller t c =
    let s = c.loop-may.invariant.1 in
    let d = deciding s c.highest-k.ensures.0 c.highest-k.ensures.1 c.only-bit.ensures c.without-rest.ensures in
    others-fewer s d _ _ c.without-may.ensures

pub loop-may-preserved : goal.loop-may-preserved
loop-may-preserved t c =
    let v = c.loop-may.invariant in
    let s = v.1 in
    let d = deciding s c.highest-k.ensures.0 c.highest-k.ensures.1 c.only-bit.ensures c.without-rest.ensures in (
      elim c.if-not-is_stuck.branch [
        | then-not-is_stuck w ↦ ap length w.out-is ∙ w.decide_rest-next.auto.out ∙ v.0
        | else-not-is_stuck w ↦ ap length w.out-is ∙ v.0
      ],
      search-goes-on s d c.requires.4 c.without-may.ensures c.without-lone.ensures c.if-next-gt-GROUPS.false
          (elim c.if-not-is_stuck.branch [
            | then-not-is_stuck w ↦ out-found d w.out-is w.next-is w.decide_rest-next.ensures
            | else-not-is_stuck w ↦
                out-stuck d w.out-is w.next-is _ (c.is_stuck.ensures w.if-not-is_stuck.false) s.found
          ]),
    )

pub put_group-requires : goal.put_group-requires
put_group-requires t c =
    let v = c.loop-may.invariant in
    let s = v.1 in
    let none = c.loop-may-test.false in
    (v.0, s.few, all-decided none s.partly, all-waiting none s.partly s.waits, s.found)

pub returns : goal.returns
returns t c =
    let s = c.loop-may.invariant.1 in
    let none = c.loop-may-test.false in
    s.onward (none-may-come none s.partly c.put_group.ensures)
