-- `table_arrival::asked::mates_on` meets its contract: after i records it is told of the Sets among them. Assumes
-- nothing.
use mathlib.Core.Path.{◌≡◌, sym, ap, ◌∙◌}
use mathlib.Core.List.{List}
use Prim.Native.Nat.{ℕ, ◌*◌, ◌-◌}
use native.Mathlib.Omega.{arith}
use lib.ListN.{length, take, drop, length-drop}
use lib.Seq.{take_all}
use Rattle.edit_record.specs.Layout.{place_length}
use Rattle.edit_record.specs.RecordBytes.{decode_of}
use Rattle.edit_history.specs.EditsHeld.{is_set_on}
use Rattle.table_arrival.proofs.MatesFound.{mates-none, mates-below, mates-few, mate-found, no-mate-found}
use Rattle.table_arrival.proofs.asked.mates_on.Goals as goal
use Rattle.table_arrival.proofs.asked.mates_on.Goals.{then-is_set_in, else-is_set_in}

-- what is lent from a place on
lent : (rs : List ℕ) (at : ℕ) → take (length rs - at) (drop at rs) ≡ drop at rs
lent rs at = take_all (length rs - at) (drop at rs) (simp length-drop (omega arith))

pub loop-i-init : goal.loop-i-init
loop-i-init c = mates-none (decode_of c.args.rec.now) c.args.recs.now c.args.s c.args.q

pub marked_if-plain-requires : goal.marked_if-plain-requires
marked_if-plain-requires c =
    let a = c.args in
    let l = c.loop-i in
    let is = ap (λ (x : List ℕ). is_set_on a.s a.q (decode_of x)) (lent a.recs.now (l.i * place_length)) in
    let told = sym (c.is_set_in.ensures ∙ is) ∙ c.if-is_set_in.true in (
      mates-below (decode_of a.rec.now) _ _ l.invariant,
      λ y.
          mates-few (decode_of a.rec.now) a.recs.now a.s a.q l.i _ l.invariant a.n (omega arith) told
          c.requires.3,
    )

pub overflow_add-sets : goal.overflow_add-sets
overflow_add-sets c =
    let a = c.args in
    let l = c.loop-i in
    let is = ap (λ (x : List ℕ). is_set_on a.s a.q (decode_of x)) (lent a.recs.now (l.i * place_length)) in
    let told = sym (c.is_set_in.ensures ∙ is) ∙ c.if-is_set_in.true in
    let few = mates-few (decode_of a.rec.now) a.recs.now a.s a.q l.i _ l.invariant a.n (omega arith) told c.requires.3 in
    omega arith

pub loop-i-preserved : goal.loop-i-preserved
loop-i-preserved c =
    let a = c.args in
    let l = c.loop-i in
    let e = decode_of a.rec.now in
    let rs = a.recs.now in
    let here = lent rs (l.i * place_length) in
    let told = sym (c.is_set_in.ensures ∙ ap (λ (x : List ℕ). is_set_on a.s a.q (decode_of x)) here) in
    elim c.if-is_set_in.branch [
      | then-is_set_in v ↦
          rw (v.sets-is, v.plain-is, v.limited-is, v.marked_if-plain.ensures, v.is_conflict_in-b.ensures, here)
          (mate-found e rs a.s a.q l.i _ l.invariant (told ∙ v.if-is_set_in.true))
      | else-is_set_in v ↦
          rw (v.sets-is, v.plain-is, v.limited-is)
          (no-mate-found e rs a.s a.q l.i _ l.invariant (told ∙ v.if-is_set_in.false))
    ]

pub returns : goal.returns
returns c =
    let done : c.loop-i.i ≡ c.args.n = omega arith in
    rw (← done) c.loop-i.invariant
