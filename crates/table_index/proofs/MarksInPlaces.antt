-- Which of the Sets in some places conflict with an edit by document 01's rule, found one after another. Assumes
-- nothing.
use mathlib.Core.Path.{◌≡◌, ◌∙◌}
use mathlib.Core.Bool.{false, ◌&&◌, and-false}
use mathlib.Core.List.{List, map}
use Prim.Native.Nat.{ℕ, ◌^◌, ◌≤◌, ◌<◌}
use lib.ListN.{length, take, length-map}
use lib.Seq.{length-take-le}
use borrow.Author.Tests.{ne_eqb}
use Rattle.edit_record.specs.declared.Edit.{Edit}
use Rattle.edit_record.specs.Answer1.{is_set}
use Rattle.edit_causal.specs.Causal.{same_edit, are_concurrent}
use Rattle.edit_causal.specs.Conflict.{do_conflict}
use Rattle.edit_causal.specs.ConflictForms.{plain_marks}
use Rattle.edit_causal.proofs.PlainMarks.{marked-below}
use Rattle.edit_history.specs.EditsHeld.{record_at}

-- edits with different keys do not conflict
pub keys-differ : (a e : Edit) → (a.key ≡ e.key → ⊥) → false ≡ do_conflict a e
keys-differ a e d =
    let four = is_set a && is_set e && are_concurrent a e && same_edit a.tsite a.tseq e.tsite e.tseq in
    rw (ne_eqb a.key e.key d, and-false four)

module _ (e : Edit) (rs ps : List ℕ) (i : ℕ) where
  front : i ≤ length ps → length (map (record_at rs) (take i ps)) ≡ i
  front l = length-map (take i ps) (record_at rs) ∙ length-take-le i ps l

  pub marks-below : i ≤ length ps → plain_marks e (map (record_at rs) (take i ps)) < 2 ^ i
  marks-below l =
      let k = marked-below e (map (record_at rs) (take i ps)) in
      rw (front l) at k
