-- `edit_next::is_set_unfit` meets its contract: the fields where they stand are those of the edit, and what is
-- asked of the other kinds alone adds nothing. Assumes nothing.
use mathlib.Core.Path.{◌≡◌, refl, sym}
use mathlib.Core.Bool.{Bool, true, false, ◌||◌}
use borrow.Author.Tests.{lt-leb}
use Rattle.edit_record.specs.RecordBytes.{decode_of}
use Rattle.edit_record.specs.Answer1.{unfit}
use Rattle.edit_record.proofs.WellFormed.{outside-unfit}
use Rattle.edit_next.proofs.is_set_unfit.Goals as goal

nothing-more : (b : Bool) → b ≡ (b || false || false || false)
nothing-more true = refl
nothing-more false = refl

pub returns-then-n-site : goal.returns-then-n-site
returns-then-n-site c h =
    let a = c.args in
    sym (outside-unfit a.n (decode_of a.rec.now) c.if-n-site.true)

pub returns : goal.returns
unfolding unfit
returns c h =
    let low = lt-leb _ _ c.if-n-site.false in
    rw (
      c.requires.1,
      low,
      h low,
      c.own_entry-own.ensures,
      c.pair_at-tseq.ensures,
      c.pair_at-seq.ensures,
    )
    (nothing-more _)
