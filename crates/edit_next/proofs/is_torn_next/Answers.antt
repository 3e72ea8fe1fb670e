-- `edit_next::is_torn_next` meets its contract: news decides. Assumes nothing.
use mathlib.Core.Path.{ap, ◌∙◌}
use mathlib.Core.List.{List}
use Prim.Native.Nat.{ℕ}
use Rattle.edit_record.specs.RecordBytes.{decode_of}
use Rattle.edit_history.specs.EditsHeld.{edits_of}
use Rattle.edit_walk.specs.WalkForms.{torn_by_news}
use Rattle.edit_walk.proofs.NewsDecide.{turn-against, news-same}
use Rattle.edit_next.proofs.is_torn_next.Goals as goal

pub returns : goal.returns
returns c =
    let z = c in
    let a = z.args in
    let (sites, ok, y) = z.requires.2 in
    let rs = a.recs.now in
    let ps = a.places.now in
    let e = decode_of a.rec.now in
    c.is_torn_by_news.ensures
    ∙ ap (λ (v : List ℕ). torn_by_news rs ps v e.site) c.vector_of-v.ensures
    ∙ news-same sites ok.few rs a.p ok.pass ps ok.indexed e
    (turn-against sites ok.few a.held.now (edits_of rs a.p) ok.counted e y)
