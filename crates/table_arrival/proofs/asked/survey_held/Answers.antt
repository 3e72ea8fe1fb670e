-- `table_arrival::asked::survey_held` meets its contract. Assumes nothing.
use mathlib.Core.Path.{◌≡◌, ap, ◌∙◌}
use Prim.Native.Nat.{ℕ}
use native.Mathlib.Omega.{arith}
use lib.ListN.{length}
use Rattle.math_lists.specs.SortedLists.{any}
use Rattle.edit_record.specs.RecordBytes.{decode_of}
use Rattle.edit_record.specs.Answer1.{is_limited}
use Rattle.edit_causal.specs.ConflictForms.{plain_marks}
use Rattle.edit_history.specs.EditsHeld.{edits_of, sets_on}
use Rattle.edit_walk.specs.WalkForms.{place_of}
use Rattle.table_index.specs.IndexForms.{number_at}
use Rattle.table_index.proofs.SurveyByIndex.{target-placed, survey-found}
use Rattle.table_arrival.proofs.asked.survey_held.Lts
use Rattle.table_arrival.proofs.asked.survey_held.Tie
use Rattle.table_arrival.proofs.asked.survey_held.Reads
use Rattle.table_arrival.proofs.asked.survey_held.Goals as goal

-- the place is the target's, and its sequence number is the field of the record
placed : (c : (Lts.After-place_at Tie.the-claims Reads.Pre Reads.Post)) →
    let a = c.args in
    let e = decode_of a.rec.now in
    c.place_at-p.result ≡ place_of a.places.now e.tsite.0 e.tseq.0
placed c =
    let a = c.args in
    let e = decode_of a.rec.now in
    c.place_at-p.ensures ∙ ap (place_of a.places.now e.tsite.0) c.pair_at-q.ensures

pub creates_before-object-requires : goal.creates_before-object-requires
creates_before-object-requires c =
    let s = c in
    let a = s.args in
    let (h, _, ix, _, held) = s.requires in
    let (l, _) = target-placed a.c a.recs.now h a.places.now ix (decode_of a.rec.now) held in
    omega (arith, placed c.before, l, h.few-records)

pub mates_on-m-requires : goal.mates_on-m-requires
mates_on-m-requires c =
    let s = c in
    let h = s.requires.0 in
    let q = c.pair_at-q.result in (
      omega (arith, h.few-records, s.requires.1),
      h.few-records,
      s.requires.3,
      h.few-sets (decode_of s.args.rec.now).tsite (record { 0 = q }),
    )

pub returns : goal.returns
returns c =
    let s = c in
    let a = s.args in
    let (h, _, ix, _, held) = s.requires in
    let rs = a.recs.now in
    let e = decode_of a.rec.now in
    let es = edits_of rs a.c.records in
    let z = c in
    let seq = ap (λ (q : ℕ). sets_on e.tsite (record { 0 = q }) es) z.pair_at-q.ensures in
    let m = c.mates_on-m.ensures in
    survey-found a.c rs h a.places.now ix e held c.mates_on-m.result.limited
    z.creates_before-object.result c.mates_on-m.result.sets c.mates_on-m.result.plain
    (z.creates_before-object.ensures ∙ ap (number_at rs) (placed c.before.before.before.before))
    (m.sets ∙ ap length seq)
    (m.plain ∙ ap (plain_marks e) seq)
    (m.limited ∙ ap (any is_limited) seq)
