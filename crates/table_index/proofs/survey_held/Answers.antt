-- `table_index::survey_held` meets its contract. Assumes nothing.
use mathlib.Core.Path.{◌≡◌, refl, sym, ap, subst, ◌∙◌}
use mathlib.Core.Bool.{not, cond}
use Prim.Native.Nat.{ℕ}
use lib.Dec.{eqb}
use lib.ListN.{get_or}
use Rattle.math_lists.specs.SortedLists.{any}
use Rattle.edit_record.specs.RecordBytes.{decode_of}
use Rattle.edit_record.specs.Answer1.{is_limited}
use Rattle.edit_causal.specs.ConflictForms.{plain_marks}
use Rattle.edit_history.specs.EditsHeld.{edits_of, sets_on}
use Rattle.edit_walk.specs.WalkForms.{place_of}
use Rattle.table_index.specs.IndexForms.{number_at, limit_at}
use Rattle.table_index.proofs.LookByIndex.{told}
use Rattle.table_index.proofs.SurveyByIndex.{survey-found, Aimed, aimed}
use Rattle.table_index.proofs.survey_held.Goals as goal
use Rattle.table_index.proofs.survey_held.Goals.{After-place_at-q}

-- the target, where the code finds it
target :
    (c : After-place_at-q) →
    (let s = c in
    Aimed s.args.c s.args.recs.now s.requires.0 s.args.ix.now.places s.args.ix.now.numbers
    s.args.ix.now.counts s.args.ix.now.chains s.requires.2 (decode_of c.args.rec.now) c.place_at-q.result)
target c =
    let s = c in
    let a = s.args in
    let e = decode_of c.args.rec.now in
    let is : c.place_at-q.result ≡ place_of a.ix.now.places e.tsite.0 e.tseq.0
    = c.place_at-q.ensures ∙ ap (place_of a.ix.now.places e.tsite.0) c.pair_at-seq.ensures in
    subst
    (Aimed a.c a.recs.now s.requires.0 a.ix.now.places a.ix.now.numbers a.ix.now.counts a.ix.now.chains
    s.requires.2 e)
    (sym is)
    (aimed a.c a.recs.now s.requires.0 a.ix.now.places a.ix.now.numbers a.ix.now.counts a.ix.now.chains
    s.requires.2 e s.requires.5)

pub marks_for-plain-requires : goal.marks_for-plain-requires
marks_for-plain-requires c =
    let c3 = c in
    let s = c in
    let t = target (goal.at.marks_for-plain-requires c).After-place_at-q in
    let a = s.args in (
      (a.c, s.requires.0, refl, record { in-turn = s.requires.4; place = t.low; target = t.target }),
      s.requires.1,
      s.requires.2.chained,
      s.requires.2.numbers-long,
      t.number,
      s.requires.3,
    )

pub returns : goal.returns
returns c =
    let c1 = c in
    let c3 = c1 in
    let c4 = c3 in
    let c5 = c4 in
    let s = c in
    let t = target (goal.at.returns c).After-place_at-q in
    let a = s.args in
    let rs = a.recs.now in
    let e = decode_of c.args.rec.now in
    let es = edits_of rs a.c.records in
    let ms = sets_on e.tsite e.tseq es in
    let q = c5.place_at-q.result in
    let o : c4.byte_at-object.result ≡ number_at rs q = c4.byte_at-object.ensures ∙ t.number in
    let k : c3.at16-sets.result ≡ get_or a.ix.now.counts (number_at rs q) 0
    = c3.at16-sets.ensures ∙ ap (λ (i : ℕ). get_or a.ix.now.counts i 0) o in
    let plain = c1.marks_for-plain.ensures ∙ ap (plain_marks e) t.sets in
    let limit : c.byte_at-limited.result ≡ cond (any is_limited ms) 1 0
    = c.byte_at-limited.ensures ∙ ap (λ (i : ℕ). get_or a.ix.now.chains (limit_at i) 0) o ∙ t.limits in
    let is : q ≡ place_of a.ix.now.places e.tsite.0 e.tseq.0
    = c5.place_at-q.ensures ∙ ap (place_of a.ix.now.places e.tsite.0) c5.pair_at-seq.ensures in
    survey-found a.c rs s.requires.0 a.ix.now.places s.requires.2.indexed e s.requires.5
    (not (eqb c.byte_at-limited.result 0)) c4.byte_at-object.result c3.at16-sets.result c1.marks_for-plain.result
    (o ∙ ap (number_at rs) is) (k ∙ t.count) plain (told (any is_limited ms) c.byte_at-limited.result limit)
