-- The values of a version, in document 01's words. ms are the Sets of the object in the order of arrival, g is a group
-- of them. Assumes nothing.
use Rattle.std.specs.Prelude.{Bool, not, ◌&&◌, ◌||◌, cond, List, [], ◌∷◌, ℕ, eqb, ltb}
use Rattle.math_lists.specs.SortedLists.{filter}
use Rattle.edit_record.specs.declared.Edit.{Edit}
use Rattle.edit_causal.specs.TotalOrder.{ranks_before}
use Rattle.list_version.specs.Members.{members_of}

abbrev pub has_key : ℕ → Edit → Bool
has_key k e = eqb e.key k

-- the total order; two edits of one rank, which sound tables never hold, go by value
abbrev pub stands_before : Edit → Edit → Bool
stands_before a b = ranks_before a b || not (ranks_before b a) && ltb a.value b.value

-- the last of those passed, if any were, and x
unfoldable pub later : List Edit → Edit → List Edit
later [] x = x ∷ []
later (e ∷ es) x = cond (stands_before e x) (x ∷ []) (e ∷ [])

unfoldable pub last_after : List Edit → List Edit → List Edit
last_after passed [] = passed
last_after passed (x ∷ xs) = last_after (later passed x) xs

-- the member with key k that is last in the total order, if there is one: its value is the version's value for k
unfoldable pub last_with : List Edit → ℕ → ℕ → List Edit
last_with ms g k = last_after [] (filter (has_key k) (members_of ms g))
