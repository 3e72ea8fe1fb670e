-- What decides where an object stands, and the order of the objects in the list, in the words of document 02's Req 12:
-- to-top edits count, to-bottom ones have no effect. Assumes nothing.
use Rattle.std.specs.Prelude.{Bool, not, cond, List, [], ◌∷◌, ◌++◌}
use Rattle.math_lists.specs.SortedLists.{filter, gather_by}
use Rattle.edit_record.specs.declared.Edit.{Edit}
use Rattle.edit_record.specs.Answer1.{is_top}
use Rattle.edit_causal.specs.Causal.{same_edit}
use Rattle.edit_causal.specs.TotalOrder.{ranks_before}

-- ---- what decides the place of an object

-- e targets the object whose Create is c
abbrev pub is_on : Edit → Edit → Bool
is_on c e = same_edit e.tsite e.tseq c.site c.seq

-- in the total order
unfoldable pub in_order : List Edit → List Edit
in_order es = gather_by ranks_before [] es

-- the last edit of ls on the object of c, or m if there is none
unfoldable pub last_on : Edit → Edit → List Edit → Edit
last_on c m [] = m
last_on c m (e ∷ ls) = last_on c (cond (is_on c e) e m) ls

-- of the object of c: its last to-top in the total order, or its Create if it has none
unfoldable pub deciding : List Edit → Edit → Edit
deciding es c = last_on c c (in_order (filter is_top es))

-- ---- the order of the list

-- objects in the total order of what decides the place of each, which `last` gives
abbrev pub by_last : {A : Type 0} → (A → Edit) → List A → List A
by_last last xs = gather_by (λ a b. ranks_before (last a) (last b)) [] xs

-- objects in the order of the list: first the rest, which are decided by their Creates and so keep document 01's order
-- between them; then those that a to-top decides, the latest rearmost
unfoldable pub standing : {A : Type 0} → (A → Edit) → List A → List A
standing last xs = by_last last (filter (λ x. not (is_top (last x))) xs) ++ by_last last (filter (λ x. is_top (last x)) xs)
