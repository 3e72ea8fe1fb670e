-- What is kept beside the records, so that an arriving edit need not be held against every one of them: where each edit
-- stands (ps), the number of each Create's object and of each Set among those of its object (ns), and for each object
-- how many Sets it has (cs) and its Sets of each key as a chain (hs), from the latest one back. No one need believe it:
-- laws in proofs/ tie it to `EditsHeld`. Assumes nothing.
use Rattle.std.specs.Prelude.{◌≡◌, Bool, true, false, ◌&&◌, not, cond, List, map, ℕ, zero, suc, ◌+◌, ◌*◌, ◌≤◌, ◌<◌, eqb, get_or, length, set}
use Rattle.math_lists.specs.NumbersBelow.{keep}
use Rattle.math_lists.specs.SortedLists.{any}
use Rattle.edit_record.specs.declared.Site.{Site}
use Rattle.edit_record.specs.declared.Seq.{Seq}
use Rattle.edit_record.specs.Layout.{most_sites, keys, limited_kind}
use Rattle.edit_record.specs.declared.Edit.{Edit}
use Rattle.edit_record.specs.Answer1.{is_create, is_set, is_limited}
use Rattle.edit_causal.specs.Causal.{has_seen}
use Rattle.edit_causal.specs.ConflictForms.{plain_marks}
use Rattle.edit_causal.specs.ShownValue.{shown_value}
use Rattle.edit_history.specs.EditsHeld.{most_records, record_at, edits_of, creates, is_set_on, sets_on, is_target}
use Rattle.edit_history.specs.EditsHeld.{object_of}
use Rattle.edit_history.specs.Answers2to5.{passes, records_pass}
use Rattle.edit_history.specs.SurveyForms.{Counted}
use Rattle.edit_walk.specs.WalkForms.{places_length, place_of, Indexed, in_turn_against}
use Rattle.group_step.specs.GroupRows.{most_objects, most_sets}
use Rattle.table_drawing.specs.declared.Counters.{Counters}
use Rattle.table_index.specs.declared.Looked.{Looked}

-- the number of the object whose Create stands in place p: how many Creates stand before it
abbrev pub number_at : List ℕ → ℕ → ℕ
number_at rs p = length (creates (edits_of rs p))

-- the places, among the first n, of the Sets on the Create in place p
abbrev pub is_on : List ℕ → ℕ → ℕ → Bool
is_on rs p q = is_set_on (record_at rs p).site (record_at rs p).seq (record_at rs q)

unfoldable pub places_on : List ℕ → ℕ → ℕ → List ℕ
places_on rs n p = keep n (is_on rs p)

-- ---- the chains of an object's Sets, one for each key

-- the entries of the chains: the latest Set of each object and key, then for each Set the one before it in its chain,
-- then for each object whether a Set of it is limited. 0 is none: the first record is a Create
abbrev pub head_at : ℕ → ℕ → ℕ
head_at o y = o * keys + y

abbrev pub link_at : ℕ → ℕ
link_at p = most_objects * keys + p

abbrev pub limit_at : ℕ → ℕ
limit_at o = most_objects * keys + most_records + o

abbrev pub chains_length : ℕ
chains_length = most_objects * keys + most_records + most_objects

-- the record in place p is a Set of the key y on the Create in place q
abbrev pub is_keyed : List ℕ → ℕ → ℕ → ℕ → Bool
is_keyed rs q y p = is_on rs q p && eqb (record_at rs p).key y

-- the latest such place among the first n; 0 where there is none
unfoldable pub latest_on : List ℕ → ℕ → ℕ → ℕ → ℕ
latest_on rs q y zero = 0
latest_on rs q y (suc n) = cond (is_keyed rs q y n) n (latest_on rs q y n)

-- one of the Sets among the first n on the Create in place q is limited
unfoldable pub limited_on : List ℕ → ℕ → ℕ → Bool
limited_on rs q n = any is_limited (map (record_at rs) (places_on rs n q))

-- the chains of the first n records: a Set's number (in ns) is how many Sets of its object stand before it
pub record ChainsOf (rs : List ℕ) (n : ℕ) (ns hs : List ℕ) : Type 0 where
  pub chains-long : length hs ≡ chains_length
  pub latest :
      (q : ℕ) → q < n → is_create (record_at rs q) ≡ true → (y : ℕ) → y < keys →
      get_or hs (head_at (number_at rs q) y) 0 ≡ latest_on rs q y n
  pub linked :
      (q p : ℕ) → q < n → is_create (record_at rs q) ≡ true → p < n → is_on rs q p ≡ true →
      get_or hs (link_at p) 0 ≡ latest_on rs q (record_at rs p).key p
  pub ranked :
      (q p : ℕ) → q < n → is_create (record_at rs q) ≡ true → p < n → is_on rs q p ≡ true →
      get_or ns p 0 ≡ length (places_on rs p q)
  pub limited :
      (q : ℕ) → q < n → is_create (record_at rs q) ≡ true →
      get_or hs (limit_at (number_at rs q)) 0 ≡ cond (limited_on rs q n) 1 0
  pub no-heads :
      (o y : ℕ) → number_at rs n ≤ o → o < most_objects → y < keys → get_or hs (head_at o y) 0 ≡ 0
  pub no-limits : (o : ℕ) → number_at rs n ≤ o → o < most_objects → get_or hs (limit_at o) 0 ≡ 0

-- the chains after a Set of this kind and key in place p, on object o
abbrev pub headed : List ℕ → ℕ → ℕ → ℕ → List ℕ
headed hs p o y = set (set hs (link_at p) (get_or hs (head_at o y) 0)) (head_at o y) p

abbrev pub linked_in : List ℕ → ℕ → ℕ → ℕ → ℕ → List ℕ
linked_in hs p o kind y =
    set (headed hs p o y) (limit_at o) (cond (eqb kind limited_kind) 1 (get_or (headed hs p o y) (limit_at o) 0))

-- the index of the first n records
pub record IndexOf (rs : List ℕ) (n : ℕ) (ps ns cs hs : List ℕ) : Type 0 where
  pub places-long : length ps ≡ places_length
  pub numbers-long : length ns ≡ most_records
  pub counts-long : length cs ≡ most_objects
  pub indexed : Indexed rs n ps
  pub numbered : (p : ℕ) → p < n → is_create (record_at rs p) ≡ true → get_or ns p 0 ≡ number_at rs p
  pub counted :
      (p : ℕ) → p < n → is_create (record_at rs p) ≡ true → get_or cs (number_at rs p) 0 ≡ length (places_on rs n p)
  pub fresh : (o : ℕ) → number_at rs n ≤ o → get_or cs o 0 ≡ 0
  pub chained : ChainsOf rs n ns hs

-- the records that the counters c count pass 1 to 5 in their order and are within the limits, as in sound tables
pub record Holds (c : Counters) (rs : List ℕ) : Type 0 where
  pub few-sites : c.sites ≤ most_sites
  pub few-records : c.records ≤ most_records
  pub few-objects : c.objects ≤ most_objects
  pub pass : records_pass c.sites rs c.records ≡ true
  pub held : Counted c.held (edits_of rs c.records)
  pub objects : c.objects ≡ number_at rs c.records
  pub few-sets : (s : Site) (q : Seq) → length (sets_on s q (edits_of rs c.records)) ≤ most_sets

-- ---- a Set that arrives

-- none of 1 to 3 is given to e, and its target is the Create in place q
pub record Arriving (c : Counters) (rs : List ℕ) (q : ℕ) (e : Edit) : Type 0 where
  pub in-turn : in_turn_against c.sites c.held e ≡ true
  pub place : q < c.records
  pub target : is_target e (record_at rs q) ≡ true

-- its author had not seen a, which is shown otherwise than as x
abbrev pub unseen_other : Edit → Edit → ℕ → Bool
unseen_other a e x =
    not (has_seen e.vector a.site a.seq) && not (eqb (shown_value a.key a.value) x)

-- the Sets among the first n on the Create in place q that are in conflict with e by document 01's rule
abbrev pub marks_on : List ℕ → ℕ → ℕ → Edit → ℕ
marks_on rs n q e = plain_marks e (map (record_at rs) (places_on rs n q))

-- ---- a record that is looked at

-- counters by their parts
abbrev pub counters_of : ℕ → ℕ → ℕ → List ℕ → ℕ → Counters
counters_of sites n m held sum = record { sites = sites; records = n; objects = m; held = held; sum = sum }

-- what is found of a Set e after the first n records
pub record MetOf (rs : List ℕ) (n : ℕ) (ps ns cs : List ℕ) (e : Edit) (r : Looked) : Type 0 where
  pub object : r.object ≡ object_of e (edits_of rs n)
  pub number : r.object ≡ get_or ns (place_of ps e.tsite.0 e.tseq.0) 0
  pub count : r.sets ≡ get_or cs r.object 0
  pub sets : r.sets ≡ length (sets_on e.tsite e.tseq (edits_of rs n))
  pub room : r.sets < most_sets
  pub conflicts : r.conflicts ≡ plain_marks e (sets_on e.tsite e.tseq (edits_of rs n))
  pub limited : r.limited ≡ any is_limited (sets_on e.tsite e.tseq (edits_of rs n))

-- an edit e to which none of 1 to 6 is given, as far as it is looked at, after the first n records, of which m are
-- Creates
pub record PassedOf (sites n m : ℕ) (rs ps ns cs : List ℕ) (e : Edit) (r : Looked) : Type 0 where
  pub pass : passes sites (edits_of rs n) e ≡ true
  pub create-room : is_create e ≡ true → m < most_objects
  pub set : is_set e ≡ true → MetOf rs n ps ns cs e r
  pub no_other : r.limited ≡ true → is_set e ≡ true

-- what is found of a Set e after the first n records, none of whose object's Sets is limited
pub record FoundOf (rs : List ℕ) (n : ℕ) (ps ns cs : List ℕ) (e : Edit) (r : Looked) : Type 0 where
  pub object : r.object ≡ object_of e (edits_of rs n)
  pub number : r.object ≡ get_or ns (place_of ps e.tsite.0 e.tseq.0) 0
  pub count : r.sets ≡ get_or cs r.object 0
  pub sets : r.sets ≡ length (sets_on e.tsite e.tseq (edits_of rs n))
  pub room : r.sets < most_sets
  pub conflicts : r.conflicts ≡ plain_marks e (sets_on e.tsite e.tseq (edits_of rs n))
  pub unlimited : any is_limited (sets_on e.tsite e.tseq (edits_of rs n)) ≡ false

-- an edit e to which none of 1 to 6 is given after the first n records, of which m are Creates
pub record FitOf (sites n m : ℕ) (rs ps ns cs : List ℕ) (e : Edit) (r : Looked) : Type 0 where
  pub plain : is_limited e ≡ false
  pub pass : passes sites (edits_of rs n) e ≡ true
  pub create-room : is_create e ≡ true → m < most_objects
  pub set : is_set e ≡ true → FoundOf rs n ps ns cs e r
