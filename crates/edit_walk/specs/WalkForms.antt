-- Forms that the code uses to test the records in one walk, by an index of the places of their edits. No one need
-- believe them: laws in proofs/ tie them to `Answers2to5`. Assumes nothing.
use Rattle.std.specs.Prelude.{ℕ, ◌+◌, ◌-◌, ◌≤◌, ◌<◌, ◌≡◌, List, Bool, true, not, ◌&&◌, ◌||◌, cond, get_or, set, length, replicate, eqb, leb, ltb}
use Rattle.math_lists.specs.NumbersBelow.{all, some}
use Rattle.edit_record.specs.declared.Site.{Site}
use Rattle.edit_record.specs.declared.Edit.{Edit}
use Rattle.edit_record.specs.Layout.{most_sites}
use Rattle.edit_record.specs.Answer1.{is_create, is_aimed, entry_of, unfit}
use Rattle.edit_history.specs.EditsHeld.{most_records, record_at, edits_of, count_from}
use Rattle.edit_history.specs.Answers2to5.{larger_somewhere, records_pass}
use Rattle.edit_history.specs.SurveyForms.{Counted, repeated_against, early_against}

-- ---- the index

-- the entries: a start for each site, then the places, site after site
abbrev pub places_length : ℕ
places_length = most_sites + most_records + 1

-- where the place of the edit s.q stands, and the place
abbrev pub slot_of : List ℕ → ℕ → ℕ → ℕ
slot_of ps s q = get_or ps s 0 + q

abbrev pub place_of : List ℕ → ℕ → ℕ → ℕ
place_of ps s q = get_or ps (slot_of ps s q) 0

-- the starts stand before all places, and each site s has room for so many edits
pub record Spaced (room : ℕ → ℕ) (ps : List ℕ) : Type 0 where
  pub entries : length ps ≡ places_length
  pub behind : (s : ℕ) → s < most_sites → most_sites ≤ get_or ps s 0
  pub apart : (s t : ℕ) → s < t → t < most_sites → get_or ps s 0 + room s ≤ get_or ps t 0
  pub within : (s : ℕ) → s < most_sites → get_or ps s 0 + room s < places_length

-- two indexes have the same starts
abbrev pub SameStarts : List ℕ → List ℕ → Type 0
SameStarts ps ps' = (s : ℕ) → s < most_sites → get_or ps' s 0 ≡ get_or ps s 0

-- how many of the first n records each site has
abbrev pub count_in : List ℕ → ℕ → ℕ → ℕ
count_in rs n s = count_from s (edits_of rs n)

-- the edits of the first n records have their places in it
abbrev pub Indexed : List ℕ → ℕ → List ℕ → Type 0
Indexed rs n ps = (p : ℕ) → p < n → place_of ps (record_at rs p).site.0 (record_at rs p).seq.0 ≡ p

-- ---- 4 and 5 by the index

-- for each site the sequence number of the latest edit that an edit of site s with the vector v has seen, itself left
-- out; 0 is none
abbrev pub seen_before : List ℕ → Site → List ℕ
seen_before v s = set v s.0 (get_or v s.0 0 - 1)

-- there is an edit s.q, and its vector has an entry larger than w's
unfoldable pub torn_by : List ℕ → List ℕ → List ℕ → ℕ → ℕ → Bool
torn_by rs ps w s q = not (eqb q 0) && larger_somewhere (record_at rs (place_of ps s q)).vector w

-- the vector of the edit s.q; zeros where q is 0
unfoldable pub vector_by : List ℕ → List ℕ → ℕ → ℕ → List ℕ
vector_by rs ps s q = cond (eqb q 0) (replicate most_sites 0) (record_at rs (place_of ps s q)).vector

-- what the author of an edit of site s with the vector w had seen with his edit before it
abbrev pub seen_by_last : List ℕ → List ℕ → List ℕ → Site → List ℕ
seen_by_last rs ps w s = vector_by rs ps s.0 (get_or (seen_before w s) s.0 0)

-- that edit has an entry larger than w's, or the latest edit of a site has that this one has seen and that one had not
unfoldable pub torn_by_news : List ℕ → List ℕ → List ℕ → Site → Bool
torn_by_news rs ps w s =
    larger_somewhere (seen_by_last rs ps w s) w
    || some most_sites (λ t. not (eqb (get_or (seen_before w s) t 0) (get_or (seen_by_last rs ps w s) t 0))
    && torn_by rs ps w t (get_or (seen_before w s) t 0))

-- the target was seen, is held, and is a Create
unfoldable pub target_held : List ℕ → List ℕ → List ℕ → Edit → Bool
target_held counts rs ps e =
    ltb 0 e.tseq.0
    && leb e.tseq.0 (entry_of e.vector e.tsite).0
    && leb e.tseq.0 (entry_of counts e.tsite).0
    && is_create (record_at rs (place_of ps e.tsite.0 e.tseq.0))

-- none of 1 to 3 applies
unfoldable pub in_turn_against : ℕ → List ℕ → Edit → Bool
in_turn_against sites counts e = not (unfit sites e || repeated_against counts e || early_against counts e)

-- none of 1 to 5 applies
unfoldable pub passes_against : ℕ → List ℕ → List ℕ → List ℕ → Edit → Bool
passes_against sites counts rs ps e =
    not
    (unfit sites e
    || repeated_against counts e
    || early_against counts e
    || torn_by_news rs ps e.vector e.site
    || is_aimed e && not (target_held counts rs ps e))

-- ---- 1 to 4 by a record before

-- w has in every entry but that of site s what v has
unfoldable pub same_but : List ℕ → List ℕ → ℕ → Bool
same_but v w s = all most_sites (λ t. eqb t s || eqb (get_or v t 0) (get_or w t 0))

-- and there one edit more
unfoldable pub is_next : List ℕ → List ℕ → ℕ → Bool
is_next v w s = eqb (get_or w s 0) (get_or v s 0 + 1) && same_but v w s

-- e is the next edit of its site after those that are counted, and has seen all of them
unfoldable pub sees_all : List ℕ → Edit → Bool
sees_all counts e = eqb e.seq.0 (get_or counts e.site.0 0 + 1) && same_but counts e.vector e.site.0

-- the first n records pass, and the counts and the index are theirs
pub record Passing (sites : ℕ) (counts rs : List ℕ) (n : ℕ) (ps : List ℕ) : Type 0 where
  pub few : sites ≤ most_sites
  pub pass : records_pass sites rs n ≡ true
  pub counted : Counted counts (edits_of rs n)
  pub indexed : Indexed rs n ps

-- ---- the walk over the first n records

-- room has a place for each edit of the first n records
abbrev pub Roomy : (ℕ → ℕ) → List ℕ → ℕ → Type 0
Roomy room rs n = (s : ℕ) → s < most_sites → count_in rs n s ≤ room s

-- they pass, the index has room for them, and the counts and the index are theirs
pub record Walking (sites : ℕ) (room : ℕ → ℕ) (rs : List ℕ) (n : ℕ) (held ps : List ℕ) : Type 0 where
  pub pass : records_pass sites rs n ≡ true
  pub wide : length held ≡ most_sites
  pub spaced : Spaced room ps
  pub fits : Roomy room rs n
  pub counted : Counted held (edits_of rs n)
  pub indexed : Indexed rs n ps

-- the record after them passes as well, and there is room for its edit
abbrev pub GoesOn : ℕ → (ℕ → ℕ) → List ℕ → ℕ → List ℕ → List ℕ → Type 0
GoesOn sites room rs n held ps =
    (passes_against sites held rs ps (record_at rs n) ≡ true)
    × (get_or held (record_at rs n).site.0 0 < room (record_at rs n).site.0)

-- no walk goes past them
abbrev pub Stops : ℕ → (ℕ → ℕ) → List ℕ → ℕ → Type 0
Stops sites room rs n = (m : ℕ) → n < m → records_pass sites rs m ≡ true → Roomy room rs m → ⊥
