-- `table_index::plain::look_at_set` meets its contract. Assumes nothing.
use mathlib.Core.Path.{◌≡◌, ap, ◌∙◌}
use mathlib.Core.Bool.{not}
use Prim.Native.Nat.{ℕ}
use lib.Dec.{eqb}
use lib.ListN.{get_or}
use native.Mathlib.Omega.{arith}
use Rattle.edit_record.specs.RecordBytes.{decode_of}
use Rattle.edit_walk.specs.WalkForms.{place_of}
use Rattle.table_index.specs.IndexForms.{marks_on}
use Rattle.table_index.proofs.LookByIndex.{target, met_of}
use Rattle.table_index.proofs.plain.look_at_set.Goals as goal
use Rattle.table_index.proofs.plain.look_at_set.Goals.{After-place_at-q}

-- where the code finds the target
place_is :
    (c : After-place_at-q) →
    (let s = c in c.place_at-q.result
    ≡ place_of s.args.ix.now.places (decode_of c.args.rec.now).tsite.0 (decode_of c.args.rec.now).tseq.0)
place_is c =
    let s = c in
    c.place_at-q.ensures
    ∙ ap (place_of s.args.ix.now.places (decode_of c.args.rec.now).tsite.0) c.pair_at-seq.ensures

pub marks_unless-conflicts-requires : goal.marks_unless-conflicts-requires
marks_unless-conflicts-requires c =
    let c4 = c in
    let s = c in
    let a = s.args in
    let (d, h, count, turn, sees) = s.requires.0 in
    let x = s.requires.2 in
    let t = target d a.recs.now h a.n count a.ix.now.places a.ix.now.numbers a.ix.now.counts
    a.ix.now.chains x (decode_of c.args.rec.now) s.requires.5 in
    rw (place_is (goal.at.marks_unless-conflicts-requires c).After-place_at-q) (
      (d, h, count, record { in-turn = turn; place = t.low; target = t.target }, sees),
      s.requires.1,
      x.chained,
      x.numbers-long,
      t.number,
      s.requires.3,
      s.requires.4,
    )

pub returns : goal.returns
returns c =
    let c1 = c in
    let c2 = c1 in
    let c4 = c2 in
    let s = c in
    let a = s.args in
    let (d, h, count, turn, sees) = s.requires.0 in
    let is = place_is (goal.at.returns c).After-place_at-q in
    met_of d a.recs.now h a.n count a.ix.now.places a.ix.now.numbers a.ix.now.counts
    a.ix.now.chains s.requires.2 (decode_of c.args.rec.now) s.requires.5 _
    (c2.byte_at-object.ensures ∙ ap (λ (i : ℕ). get_or a.ix.now.numbers i 0) is)
    c2.at16-sets.ensures
    (ap (λ (k : ℕ). not (eqb k 0)) c1.byte_at-limits.ensures)
    (c.marks_unless-conflicts.ensures ∙ ap (λ (i : ℕ). marks_on a.recs.now a.n i (decode_of c.args.rec.now)) is)
    (omega arith)
