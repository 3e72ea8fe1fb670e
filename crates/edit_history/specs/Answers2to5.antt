-- Answers 2 to 5 to an edit e, as rows 2 to 5 of document 01's 'Numbers given back' say them. es are the edits held, in
-- the order of arrival. Assumes nothing.
use Rattle.std.specs.Prelude.{ℕ, ◌+◌, List, Bool, not, ◌&&◌, ◌||◌, get_or, eqb, leb, ltb}
use Rattle.math_lists.specs.NumbersBelow.{some, all}
use Rattle.math_lists.specs.SortedLists.{any}
use Rattle.edit_record.specs.declared.Edit.{Edit}
use Rattle.edit_record.specs.Layout.{most_sites}
use Rattle.edit_record.specs.Answer1.{is_aimed, unfit}
use Rattle.edit_causal.specs.Causal.{has_seen}
use Rattle.edit_history.specs.EditsHeld.{record_at, edits_of, count_from, is_target}

-- 2: sequence number at or below the count held from that site
unfoldable pub is_repeated : List Edit → Edit → Bool
is_repeated es e = leb e.seq.0 (count_from e.site.0 es)

-- 3: sequence number more than one past that count, or another entry above the count held from its site
unfoldable pub is_early : List Edit → Edit → Bool
is_early es e =
    ltb (count_from e.site.0 es + 1) e.seq.0
    || some most_sites (λ s. not (eqb s e.site.0) && ltb (count_from s es) (get_or e.vector s 0))

-- an entry of v is larger than w's
unfoldable pub larger_somewhere : List ℕ → List ℕ → Bool
larger_somewhere v w = some most_sites (λ s. ltb (get_or w s 0) (get_or v s 0))

-- 4: an edit this one has seen has a vector with a larger entry somewhere
abbrev pub tears : Edit → Edit → Bool
tears e a = has_seen e.vector a.site a.seq && larger_somewhere a.vector e.vector

unfoldable pub is_torn : List Edit → Edit → Bool
is_torn es e = any (tears e) es

-- 5: for a Set, and for a layer edit as for a Set, the target is not a Create that this edit's vector has seen
unfoldable pub is_astray : List Edit → Edit → Bool
is_astray es e = is_aimed e && not (any (is_target e) es)

-- none of 1 to 5 applies, for a record of the right length in a drawing of n sites
unfoldable pub passes : ℕ → List Edit → Edit → Bool
passes n es e = not (unfit n e || is_repeated es e || is_early es e || is_torn es e || is_astray es e)

-- the first n records of a table pass in their order, each after those before it
unfoldable pub records_pass : ℕ → List ℕ → ℕ → Bool
records_pass sites rs n = all n (λ p. passes sites (edits_of rs p) (record_at rs p))
