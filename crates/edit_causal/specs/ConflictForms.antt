-- What is asked of the Sets of an object where their groups are worked out, and document 01's conflicts of an arriving
-- Set as a number. No one need believe it: laws in proofs/ and above say where it holds. Assumes nothing.
use Rattle.std.specs.Prelude.{◌≡◌, Bool, false, ◌&&◌, List, ℕ, length, get_or}
use Rattle.math_lists.specs.NumbersBelow.{mask}
use Rattle.math_contexts.specs.Box.{Lawful}
use Rattle.math_contexts.specs.Versions.{AllNamed}
use Rattle.edit_record.specs.declared.Edit.{Edit}
use Rattle.edit_record.specs.RecordBytes.{no_edit}
use Rattle.edit_record.specs.Answer1.{is_set}
use Rattle.edit_causal.specs.Causal.{same_edit, comes_before}
use Rattle.edit_causal.specs.Conflict.{do_conflict, box_on, conflicts_in}

-- a and b are Sets on one object
abbrev pub on_one : Edit → Edit → Bool
on_one a b = is_set a && is_set b && same_edit a.tsite a.tseq b.tsite b.tseq

-- the author of a had seen b
abbrev pub saw : Edit → Edit → Bool
saw a b = comes_before b a

-- none of the Sets ms conflicts with itself
abbrev pub NoneItself : List Edit → Type 0
NoneItself ms = (i : ℕ) → conflicts_in ms i i ≡ false

-- having seen is what the vectors of accepted edits say, and each of the Sets ms that is limited names a version
pub record Proper (ms : List Edit) : Type 0 where
  pub lawful : Lawful (box_on ms) (length ms)
  pub named : AllNamed (box_on ms) (length ms)

-- those of ms that conflict with e by document 01's rule: bit i stands for the i-th
unfoldable pub plain_marks : Edit → List Edit → ℕ
plain_marks e ms = mask (length ms) (λ i. do_conflict (get_or ms i no_edit) e)
