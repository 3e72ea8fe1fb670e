-- `edit_walk::is_in_turn` meets its contract. Assumes nothing.
use mathlib.Core.Path.{◌≡◌, sym, ◌∙◌}
use mathlib.Core.Bool.{true, false}
use Rattle.edit_record.specs.RecordBytes.{decode_of}
use Rattle.edit_record.specs.Answer1.{unfit}
use Rattle.edit_walk.specs.WalkForms.{in_turn_against}
use Rattle.edit_walk.proofs.is_in_turn.Goals as goal

pub returns-then-is_unfit : goal.returns-then-is_unfit
unfolding in_turn_against
returns-then-is_unfit c =
    let a = c.args in
    let h : unfit a.sites (decode_of a.rec.now) ≡ true = sym c.is_unfit.ensures ∙ c.if-is_unfit.true in
    rw h

pub returns : goal.returns
unfolding in_turn_against
returns c =
    let z = c in
    let a = z.args in
    let h : unfit a.sites (decode_of a.rec.now) ≡ false = sym z.is_unfit.ensures ∙ z.if-is_unfit.false in
    rw (
      h,
      c.is_early.ensures,
      c.is_repeated.ensures,
      c.pair_at.ensures,
      c.vector_of-v.ensures,
    )
