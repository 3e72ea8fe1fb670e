-- The edits held, in the order of arrival, as the table of records holds them: one record after another.
-- Assumes nothing.
use Rattle.std.specs.Prelude.{ℕ, zero, suc, ◌*◌, List, [], ◌∷◌, ◌++◌, Bool, ◌&&◌, cond, drop, take, length, eqb}
use Rattle.math_lists.specs.SortedLists.{filter}
use Rattle.edit_record.specs.declared.Site.{Site}
use Rattle.edit_record.specs.declared.Seq.{Seq}
use Rattle.edit_record.specs.declared.Edit.{Edit}
use Rattle.edit_record.specs.Layout.{place_length}
use Rattle.edit_record.specs.RecordBytes.{decode_of, span_of}
use Rattle.edit_record.specs.Answer1.{is_create, is_set}
use Rattle.edit_causal.specs.Causal.{same_edit, has_seen}

-- ---- in the table

-- the records held, Creates included, are at most so many
abbrev pub most_records : ℕ
most_records = 256

-- the bytes of the record in place p, and the edit in it
abbrev pub bytes_at : List ℕ → ℕ → List ℕ
bytes_at rs p =
    let place = drop (p * place_length) rs in
    take (span_of place) place

abbrev pub record_at : List ℕ → ℕ → Edit
record_at rs p = decode_of (drop (p * place_length) rs)

-- the edits in the first n places
unfoldable pub edits_of : List ℕ → ℕ → List Edit
edits_of rs zero = []
edits_of rs (suc n) = edits_of rs n ++ (record_at rs n ∷ [])

-- ---- in the edits es

-- how many edits of site s are held
unfoldable pub count_from : ℕ → List Edit → ℕ
count_from s es = length (filter (λ a. eqb a.site.0 s) es)

-- the Creates: the objects of the drawing, in their order
unfoldable pub creates : List Edit → List Edit
creates es = filter is_create es

-- the Sets on the Create s.q
abbrev pub is_set_on : Site → Seq → Edit → Bool
is_set_on s q e = is_set e && same_edit e.tsite e.tseq s q

unfoldable pub sets_on : Site → Seq → List Edit → List Edit
sets_on s q es = filter (is_set_on s q) es

-- ---- what is held of the target of e

-- a is the Create that e targets, and e's vector has seen it
abbrev pub is_target : Edit → Edit → Bool
is_target e a = is_create a && same_edit a.site a.seq e.tsite e.tseq && has_seen e.vector a.site a.seq

-- the number of e's object: how many Creates stand before its Create
unfoldable pub index_of : (Edit → Bool) → List Edit → ℕ
index_of f [] = 0
index_of f (a ∷ rest) = cond (f a) 0 (suc (index_of f rest))

unfoldable pub object_of : Edit → List Edit → ℕ
object_of e es = index_of (is_target e) (creates es)
