-- `edit_fit::is_malformed` meets its contract: a record of its own length is there whole. Assumes nothing.
use mathlib.Core.Path.{sym, ◌∙◌}
use native.Mathlib.Omega.{arith}
use lib.ListN.{length}
use borrow.Author.Tests.{eq-eqb, ne_eqb}
use Rattle.edit_record.specs.Answer1.{malformed}
use Rattle.edit_record.specs.RecordBytes.{span_of}
use Rattle.edit_record.proofs.RecordSpans.{span-least}
use Rattle.edit_fit.proofs.is_malformed.Goals as goal

pub returns-then-rec-span_of : goal.returns-then-rec-span_of
unfolding malformed
returns-then-rec-span_of c =
    let rec = c.args.rec.now in
    rw (ne_eqb (length rec) (span_of rec) (λ e. c.if-rec-span_of.true (e ∙ sym c.span_of.ensures)))

pub is_unfit-requires : goal.is_unfit-requires
is_unfit-requires c =
    let rec = c.args.rec.now in
    omega (arith, span-least rec, c.span_of.ensures, c.if-rec-span_of.false)

pub returns : goal.returns
unfolding malformed
returns c =
    let rec = c.args.rec.now in
    rw (
      eq-eqb (length rec) (span_of rec) (c.if-rec-span_of.false ∙ c.span_of.ensures),
      c.is_unfit.ensures,
    )
