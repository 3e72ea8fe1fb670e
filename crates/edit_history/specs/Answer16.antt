-- Answer 16 to an edit e, as document 02's Req 06 says it: e is limited, and what it lists, with the Create, names no
-- version among the edits that its vector has seen. Assumes nothing.
use Rattle.std.specs.Prelude.{ℕ, List, [], ◌∷◌, ◌++◌, Bool, not, ◌&&◌, ◌||◌, length, eqb}
use Rattle.math_lists.specs.NumbersBelow.{all}
use Rattle.math_lists.specs.SortedLists.{any}
use Rattle.math_contexts.specs.NamedVersions.{names_none}
use Rattle.edit_record.specs.declared.Edit.{Edit}
use Rattle.edit_record.specs.Answer1.{is_limited, name_of}
use Rattle.edit_causal.specs.Causal.{comes_before}
use Rattle.edit_causal.specs.Conflict.{listed_by, box_on}
use Rattle.edit_history.specs.EditsHeld.{record_at, edits_of, sets_on}

-- the name x is that of no Set among ms that e has seen
abbrev pub is_strange : List Edit → Edit → ℕ → Bool
is_strange ms e x = not (any (λ m. comes_before m e && eqb (name_of m) x) ms)

-- where ms are the Sets of e's object: a strange name is listed, or there is no such version
unfoldable pub nameless_among : List Edit → Edit → Bool
nameless_among ms e =
    is_limited e && (any (is_strange ms e) (listed_by e) || names_none (box_on (ms ++ (e ∷ []))) (length ms))

-- 16, where the edits es are held
abbrev pub is_nameless : List Edit → Edit → Bool
is_nameless es e = nameless_among (sets_on e.tsite e.tseq es) e

-- it is given to none of the first n records of a table, each after those before it
unfoldable pub records_named : List ℕ → ℕ → Bool
records_named rs n = all n (λ p. not (is_nameless (edits_of rs p) (record_at rs p)))
