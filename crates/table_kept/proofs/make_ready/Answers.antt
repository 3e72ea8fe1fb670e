-- `table_kept::make_ready` meets its contract. Assumes nothing.
use mathlib.Core.Path.{◌≡◌, sym, ap, ap₂, subst, ◌∙◌}
use mathlib.Core.List.{List, map}
use Prim.Native.Nat.{ℕ, ◌≤◌}
use lib.ListN.{length, length-map}
use Rattle.edit_record.specs.declared.Edit.{Edit}
use Rattle.edit_record.specs.RecordBytes.{decode_of}
use Rattle.edit_history.specs.EditsHeld.{record_at, edits_of, sets_on}
use Rattle.edit_walk.specs.WalkForms.{place_of}
use Rattle.group_step.specs.GroupRows.{most_sets}
use Rattle.table_index.specs.IndexForms.{places_on}
use Rattle.table_kept.specs.ChainForms.{ChainsOn}
use Rattle.table_kept.specs.BoxForms.{TellOf}
use Rattle.table_kept.proofs.AlongChains.{target-chains}
use Rattle.table_kept.proofs.KeptAlong.{kept-all}
use borrow.Author.Rules.{rules}
use Rattle.table_kept.proofs.make_ready.Goals as goal
use Rattle.table_kept.proofs.make_ready.Goals.{After-place_at-at}

-- the chains of the box, where the code finds it
chains-at :
    (c : After-place_at-at) →
    (let a = c.args in
    ChainsOn a.recs.now a.n a.numbers.now a.chains.now c.place_at-at.result
    × (map (record_at a.recs.now) (places_on a.recs.now a.n c.place_at-at.result)
    ≡ sets_on (decode_of a.rec.now).tsite (decode_of a.rec.now).tseq (edits_of a.recs.now a.n)))
chains-at c =
    let s = c in
    let a = s.args in
    let e = decode_of a.rec.now in
    let is : c.place_at-at.result ≡ place_of a.places.now e.tsite.0 e.tseq.0
    = c.place_at-at.ensures
    ∙ ap₂ (place_of a.places.now) c.byte_at.ensures c.two_at.ensures in
    subst
    (λ (q : ℕ). ChainsOn a.recs.now a.n a.numbers.now a.chains.now q
    × (map (record_at a.recs.now) (places_on a.recs.now a.n q)
    ≡ sets_on e.tsite e.tseq (edits_of a.recs.now a.n)))
    (sym is)
    (target-chains a.recs.now a.n a.places.now a.numbers.now a.chains.now s.requires.0 e
    s.requires.1)

pub overflow_cast-k : goal.overflow_cast-k
overflow_cast-k c =
    let s = c in
    let a = s.args in
    let e = decode_of a.rec.now in
    let few : a.k ≤ most_sets = rw (s.requires.2, ← s.requires.0.all) (s.requires.0.holds.few-sets e.tsite e.tseq) in
    search (rules, few)

pub is_kept-requires : goal.is_kept-requires
is_kept-requires c =
    let s = c in
    s.requires.3.names-long

pub put_anew-requires : goal.put_anew-requires
put_anew-requires c =
    let s = c in
    let rs = s.args.recs.now in
    let h = s.requires.3 in
    let (chains, sets) = chains-at (goal.at.put_anew-requires c).After-place_at-at in (
      chains,
      s.requires.2 ∙ sym (ap length sets)
          ∙ length-map (places_on rs s.args.n c.place_at-at.result) (record_at rs),
      h.names-long,
      h.rows_long,
    )

pub returns-then-not-is_kept : goal.returns-then-not-is_kept
returns-then-not-is_kept c =
    let p = c.put_anew in
    subst (λ (ms : List Edit). TellOf ms p.new.names p.new.rows) (chains-at (goal.at.returns-then-not-is_kept c).After-place_at-at).1
    p.ensures

pub returns-else-not-is_kept : goal.returns-else-not-is_kept
returns-else-not-is_kept c =
    let s = c in
    let a = s.args in
    let same = rw (c.byte_at.ensures, c.two_at.ensures) at
    (sym c.is_kept.ensures ∙ c.if-not-is_kept.false) in
    kept-all (edits_of a.recs.now a.n) a.names.now a.rows.now s.requires.3
    (decode_of a.rec.now).tsite (decode_of a.rec.now).tseq a.k s.requires.2 same
