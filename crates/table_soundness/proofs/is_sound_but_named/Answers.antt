-- `table_soundness::is_sound_but_named` meets its contract. Assumes nothing.
use mathlib.Core.Path.{refl, sym, ◌∙◌}
use borrow.Author.Tests.{leb-true}
use Rattle.math_lists.proofs.Booleans.{clash}
use Rattle.table_soundness.proofs.SoundTests.{wrong-lengths, past-limits, crowded}
use Rattle.table_drawing.specs.Tables.{Tables, tables_of}
use Rattle.table_soundness.proofs.is_sound_but_named.Goals as goal
use Rattle.table_soundness.proofs.is_sound_but_named.Goals.{Start}

abbrev tables-of : Start → Tables
tables-of s = tables_of s.args.c s.args.records.now s.args.objects.now s.args.groups.now

pub returns-then-not-lengths_right : goal.returns-then-not-lengths_right
returns-then-not-lengths_right c =
    let l = c.lengths_right in
    let t = tables-of (goal.at.returns-then-not-lengths_right c).Start in
    (sym (wrong-lengths t (sym l.ensures ∙ c.if-not-lengths_right.true)), λ y. clash y refl)

pub returns-then-not-within_limits : goal.returns-then-not-within_limits
returns-then-not-within_limits c =
    let w = c.within_limits in
    let t = tables-of (goal.at.returns-then-not-within_limits c).Start in
    (sym (past-limits t (sym w.ensures ∙ c.if-not-within_limits.true)), λ y. clash y refl)

pub returns-then-not-is_room_enough : goal.returns-then-not-is_room_enough
returns-then-not-is_room_enough c =
    let w = c.is_room_enough in
    let t = tables-of (goal.at.returns-then-not-is_room_enough c).Start in
    (sym (crowded t (sym w.ensures ∙ c.if-not-is_room_enough.true)), λ y. clash y refl)

pub is_sound_within-requires : goal.is_sound_within-requires
is_sound_within-requires c = (
  sym c.lengths_right.ensures ∙ c.if-not-lengths_right.false,
  sym c.within_limits.ensures ∙ c.if-not-within_limits.false,
  leb-true _ _ (sym c.is_room_enough.ensures ∙ c.if-not-is_room_enough.false),
  c.requires,
)
