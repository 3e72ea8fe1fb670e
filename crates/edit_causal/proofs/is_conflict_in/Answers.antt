-- `edit_causal::is_conflict_in` meets its contract. Assumes nothing.
use mathlib.Core.Path.{◌≡◌}
use mathlib.Core.Bool.{not, ◌&&◌, and-true, and-false}
use lib.Dec.{eqb}
use borrow.Author.Tests.{eq-eqb, ne_eqb}
use Rattle.math_lists.proofs.Booleans.{and-turn}
use Rattle.edit_record.specs.declared.Edit.{Edit}
use Rattle.edit_record.specs.RecordBytes.{decode_of}
use Rattle.edit_record.specs.Answer1.{is_set}
use Rattle.edit_causal.specs.Causal.{same_edit, are_concurrent}
use Rattle.edit_causal.specs.Conflict.{do_conflict}
use Rattle.edit_causal.specs.ConflictForms.{on_one}
use Rattle.edit_causal.specs.ShownValue.{shown_value}
use Rattle.edit_causal.proofs.is_conflict_in.Goals as goal

-- edits of one key conflict if they are Sets on one object, concurrent, and differ in what is shown
one_key :
    (a b : Edit) → a.key ≡ b.key →
    (on_one a b && are_concurrent a b
    && not (eqb (shown_value a.key a.value) (shown_value a.key b.value)))
    ≡ do_conflict a b
one_key a b k =
    let sets = is_set a && is_set b in
    let same = same_edit a.tsite a.tseq b.tsite b.tseq in
    let both = are_concurrent a b in
    rw (and-turn sets same both, eq-eqb a.key b.key k, and-true (sets && both && same), k)

pub returns-then-key-b : goal.returns-then-key-b
returns-then-key-b c =
    let x = c.args in
    let a = decode_of x.a.now in
    let b = decode_of x.b.now in
    let four = is_set a && is_set b && are_concurrent a b && same_edit a.tsite a.tseq b.tsite b.tseq in
    rw (ne_eqb a.key b.key c.if-key-b.true, and-false four)

pub returns : goal.returns
returns c =
    let z = c in
    let x = z.args in
    let a = decode_of x.a.now in
    let b = decode_of x.b.now in
    rw (
      c.is_concurrent_in.ensures,
      c.are_sets_on_one.ensures,
      c.shown-y.ensures,
      c.value_of-2.ensures,
      c.shown-x.ensures,
      c.value_of.ensures,
    )
    (one_key a b z.if-key-b.false)
