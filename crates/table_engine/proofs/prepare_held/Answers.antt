-- `table_engine::prepare_held` meets its contract. Assumes nothing.
use mathlib.Core.Path.{sym, ap, ◌∙◌}
use mathlib.Core.Bool.{Bool, false}
use native.Mathlib.Omega.{arith}
use Rattle.table_engine.specs.EngineForms.{refusal_of}
use Rattle.table_engine.proofs.BoxPrepared.{held-there, place-below, create-there, sets-there}
use Rattle.table_engine.proofs.BoxPrepared.{none-prepared, box-prepared}
use Rattle.table_engine.proofs.prepare_held.Goals as goal

pub returns-then-not-is_create_in : goal.returns-then-not-is_create_in
returns-then-not-is_create_in c =
    let x = c in
    let s = x in
    let a = s.args in
    let (h, ix, _) = s.requires in
    let i = c.is_create_in in
    none-prepared a.recs.now a.c.records a.s a.q a.long _ _
    (sym (held-there a.recs.now a.c.records a.index.now ix a.s a.q _ x.place_at-p.ensures)
    ∙ sym i.ensures ∙ c.if-not-is_create_in.true)
    (c.decided.ensures.0
    ∙ ap (λ (b : Bool). refusal_of b a.long false 0)
    (c.are_all_named-named.ensures a.c.sites h.few-sites h.pass ix))

pub put_places-k-requires : goal.put_places-k-requires
put_places-k-requires c =
    let s = c in
    (s.requires.0.few-records, s.requires.0.few-sets s.args.s s.args.q)

pub put_masks-named-requires : goal.put_masks-named-requires
put_masks-named-requires c =
    let put = c.put_places-k in
    let x = c in
    let i = x.is_create_in in
    let p = x.place_at-p.result in
    let s = x in
    let a = s.args in
    let there = sym i.ensures ∙ x.if-not-is_create_in.false in
    let sets = sets-there a.recs.now a.c.records a.s a.q p there in (
      record {
        holds = s.requires.0;
        indexed = s.requires.1;
        below = place-below a.recs.now a.c.records a.s a.q p there;
        create = create-there a.recs.now a.c.records a.s a.q p there;
        many = rw sets put.ensures.1;
      },
      omega (arith, put.auto.out),
      s.requires.2,
      put.ensures.0 ∙ sym sets,
    )

pub returns : goal.returns
returns c =
    let masked = c.put_masks-named in
    let put = c.put_places-k in
    let x = c in
    let i = x.is_create_in in
    let p = x.place_at-p in
    let s = x in
    let a = s.args in
    let there = sym i.ensures ∙ x.if-not-is_create_in.false in
    box-prepared a.recs.now a.c.records a.s a.q a.long _ _
    (sym (held-there a.recs.now a.c.records a.index.now s.requires.1 a.s a.q _ p.ensures)
    ∙ there)
    p.result (sets-there a.recs.now a.c.records a.s a.q p.result there)
    masked.result put.result masked.ensures put.ensures.1 c.decided-2.ensures.0 c.decided-2.ensures.1
