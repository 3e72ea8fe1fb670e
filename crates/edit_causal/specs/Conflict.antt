-- When two Sets conflict, in document 01's words; values are the same when they are shown the same. Then conflict among
-- the Sets of an object, by which its groups are told, as document 02's Req 06 has it. Assumes nothing.
use Rattle.std.specs.Prelude.{Bool, not, ◌&&◌, List, [], ◌∷◌, ◌++◌, map, ℕ, eqb, length, take}
use Rattle.math_lists.specs.NumbersBelow.{mask}
use Rattle.math_lists.specs.SortedLists.{any}
use Rattle.math_contexts.specs.Box.{Box}
use Rattle.math_contexts.specs.BoxByArrival.{box_of}
use Rattle.math_contexts.specs.NamedVersions.{conflicts_by, contexts_named}
use Rattle.edit_record.specs.declared.Edit.{Edit}
use Rattle.edit_record.specs.RecordBytes.{no_edit}
use Rattle.edit_record.specs.Answer1.{is_set, is_limited, name_of, name_in}
use Rattle.edit_causal.specs.Causal.{same_edit, comes_before, are_concurrent}
use Rattle.edit_causal.specs.ShownValue.{shown_value}

-- two Sets conflict when they are concurrent, target the same object, have the same key and different values
abbrev pub do_conflict : Edit → Edit → Bool
do_conflict a b =
    is_set a && is_set b
    && are_concurrent a b
    && same_edit a.tsite a.tseq b.tsite b.tseq
    && eqb a.key b.key
    && not (eqb (shown_value a.key a.value) (shown_value b.key b.value))

-- ---- among the Sets ms of an object

-- the names of the members that a lists, if it is limited, and whether b is one of them
abbrev pub listed_by : Edit → List ℕ
listed_by a = map name_in (take a.count a.members)

abbrev pub lists : Edit → Edit → Bool
lists a b = is_limited a && any (eqb (name_of b)) (listed_by a)

-- an author had seen the Sets that come before his
abbrev pub box_on : List Edit → Box
box_on ms = box_of no_edit do_conflict (λ a b. comes_before b a) lists is_limited ms

-- the i-th and the j-th conflict: some edit in one's context or the Set itself conflicts, by document 01's rule, with
-- some edit in the other's context or the Set itself
unfoldable pub conflicts_in : List Edit → ℕ → ℕ → Bool
conflicts_in ms = conflicts_by (box_on ms) (contexts_named (box_on ms) (length ms))

-- those that conflict with a Set e that comes after them, as a number: bit i stands for the i-th
unfoldable pub conflicts_with : Edit → List Edit → ℕ
conflicts_with e ms = mask (length ms) (conflicts_in (ms ++ (e ∷ [])) (length ms))
