-- `edit_fit::is_unfit` meets its contract: an entry at or past n tells by itself, and without one the rest does.
-- Assumes nothing.
use mathlib.Core.Path.{sym, ◌∙◌}
use Rattle.edit_record.specs.RecordBytes.{decode_of}
use Rattle.edit_record.proofs.WellFormed.{past-unfit}
use Rattle.edit_fit.proofs.is_unfit.Goals as goal

pub returns-then-is_nonzero_past : goal.returns-then-is_nonzero_past
returns-then-is_nonzero_past c =
    let a = c.args in
    sym
    (past-unfit a.n (decode_of a.rec.now) (sym c.is_nonzero_past.ensures ∙ c.if-is_nonzero_past.true))

pub returns : goal.returns
returns c =
    c.is_body_unfit.ensures (λ h. sym c.is_nonzero_past.ensures ∙ c.if-is_nonzero_past.false)
