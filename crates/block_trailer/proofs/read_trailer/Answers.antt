-- `block_trailer::read_trailer` meets its contract: each of its four ends is that outcome. Assumes nothing.
use mathlib.Core.Path.{◌≡◌, sym, ap, ◌∙◌}
use mathlib.Core.Bool.{true, false}
use Rattle.block_trailer.specs.Locating.{Located, sites_fit}
use Rattle.block_trailer.proofs.LocatingOutcomes.{sites-tested, over-limit, unfit-refused, sites-refused}
use Rattle.block_trailer.proofs.LocatingOutcomes.{fit_at, accepted}
use Rattle.block_trailer.proofs.read_trailer.Goals as goal

pub returns-then-file-gt-FILE_LIMIT : goal.returns-then-file-gt-FILE_LIMIT
returns-then-file-gt-FILE_LIMIT c =
    let is = over-limit c.args.file.now c.if-file-gt-FILE_LIMIT.true in
    (ap (λ (x : Located). x.trailer) is, ap (λ (x : Located). x.start) is)

pub returns-then-is_unfit : goal.returns-then-is_unfit
returns-then-is_unfit c =
    let is = unfit-refused c.args.file.now c.if-file-gt-FILE_LIMIT.false (sym c.is_unfit.ensures ∙ c.if-is_unfit.true) in
    (ap (λ (x : Located). x.trailer) is, ap (λ (x : Located). x.start) is)

pub returns-then-sites-sites_by : goal.returns-then-sites-sites_by
returns-then-sites-sites_by c =
    let is = sites-refused c.args.file.now c.if-file-gt-FILE_LIMIT.false
    (sym c.is_unfit.ensures ∙ c.if-is_unfit.false)
    (rw (
      ← c.trailer_at-at.ensures,
      ← c.byte_at-sites.ensures,
      ← c.byte_at-form.ensures,
      ← c.sites_by.ensures,
    )
    (sites-tested c.byte_at-sites.result c.sites_by.result true c.if-sites-sites_by.true)) in
    (ap (λ (x : Located). x.trailer) is, ap (λ (x : Located). x.start) is)

pub overflow_sub-start : goal.overflow_sub-start
overflow_sub-start c =
    rw (c.distance_at.ensures, c.trailer_at-at.ensures)
    (fit_at c.args.file.now (sym c.is_unfit.ensures ∙ c.if-is_unfit.false)).inside

pub returns : goal.returns
returns c =
    let file = c.args.file.now in
    let sites : sites_fit file ≡ true =
    rw (
      ← c.trailer_at-at.ensures,
      ← c.byte_at-sites.ensures,
      ← c.byte_at-form.ensures,
      ← c.sites_by.ensures,
    )
    (sites-tested c.byte_at-sites.result c.sites_by.result false c.if-sites-sites_by.false) in
    let is = accepted file c.if-file-gt-FILE_LIMIT.false (sym c.is_unfit.ensures ∙ c.if-is_unfit.false) sites in (
      rw (
        c.two_at-records.ensures,
        c.byte_at-form.ensures,
        c.byte_at-sites.ensures,
        c.trailer_at-at.ensures,
        is,
      ),
      rw (c.distance_at.ensures, c.trailer_at-at.ensures, is),
    )
