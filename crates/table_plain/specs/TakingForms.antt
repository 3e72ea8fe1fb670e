-- Forms that the code uses: what a record is taken by, and what that leaves. No one need believe them: laws in proofs/
-- tie them to `Replay`. Assumes nothing.
use Rattle.std.specs.Prelude.{ℕ, ◌+◌, ◌-◌, ◌^◌, ◌≤◌, ◌<◌, ◌≡◌, Option, MatchOption, Bool, true, false, List, [], ◌∷◌, ◌++◌, eqb, length, get_or, set, take, drop, replicate}
use Rattle.math_lists.specs.SortedLists.{any, elem, Ascending}
use Rattle.math_maximal.specs.Step.{step}
use Rattle.edit_record.specs.declared.Edit.{Edit}
use Rattle.edit_record.specs.Layout.{most_sites, keys, set_kind}
use Rattle.edit_record.specs.Answer1.{is_create}
use Rattle.edit_record.specs.RecordBytes.{decode_of, span_of}
use Rattle.edit_history.specs.EditsHeld.{most_records, count_from, is_target, object_of}
use Rattle.edit_history.specs.declared.Held.{Held}
use Rattle.edit_walk.specs.WalkForms.{Spaced, SameStarts, slot_of, place_of}
use Rattle.group_step.specs.GroupRows.{most_objects, most_sets, most_groups, row, put_row, settled}
use Rattle.group_step.specs.StepForms.{Apart}
use Rattle.group_limited.specs.declared.Judged.{Judged}
use Rattle.table_drawing.specs.Tables.{Tables, tables_of, held_by, groups_at, objects_length, groups_length}
use Rattle.table_drawing.specs.AnswerNumbers.{outcome_of}
use Rattle.table_soundness.specs.Sound.{sound}
use Rattle.table_index.specs.IndexForms.{IndexOf, counters_of, chains_length, linked_in}
use Rattle.table_index.specs.declared.Looked.{Looked}
use Rattle.table_arrival.specs.Arrival.{put_counts, put_entry, acceptance_of}
use Rattle.table_arrival.specs.ArrivalForms.{RowsApart, Ready}
use Rattle.table_plain.specs.declared.Took.{Took}

-- what taking the record b asks of the tables t and of the index of their records, which has room for it
pub record Takes (t : Tables) (ps ns cs hs b : List ℕ) : Type 0 where
  pub is_sound : sound t ≡ true
  pub wide : length t.counters.held ≡ most_sites
  pub index : IndexOf t.records t.counters.records ps ns cs hs
  pub apart : RowsApart t
  pub room : Spaced (λ s. count_from s (held_by t ++ (decode_of b ∷ []))) ps

-- what it leaves: the answer a and the tables u; and where the record was taken, their index, which starts as before
pub record Leaves (t : Tables) (b : List ℕ) (a : ℕ) (u : Tables) (before ps ns cs hs : List ℕ) : Type 0 where
  pub outcome : outcome_of a u ≡ acceptance_of t b
  pub index : a ≡ 0 → IndexOf u.records u.counters.records ps ns cs hs
  pub starts : a ≡ 0 → SameStarts before ps

-- ---- the short way

-- what it asks of the tables t, of the index of their records and of the record b
pub record TakesShort (t : Tables) (ps ns cs hs b : List ℕ) : Type 0 where
  pub takes : Takes t ps ns cs hs b
  pub few : t.counters.records < most_records
  pub whole : length b ≡ span_of b

-- what it leaves, where it took the record; else all is as it was
pub record LeavesShort (t : Tables) (b : List ℕ) (ok : Bool) (u : Tables) (ps ns cs hs ps' ns' cs' hs' : List ℕ) :
    Type 0 where
  pub taken : ok ≡ true → Leaves t b 0 u ps ps' ns' cs' hs'
  pub tables : ok ≡ false → u ≡ t
  pub index : ok ≡ false → (ps' ≡ ps) × (ns' ≡ ns) × (cs' ≡ cs) × (hs' ≡ hs)

-- the same of what is said of a record: where there are n records, m objects and this sum, that none is taken, or how
-- many objects there are then and the sum
abbrev pub TookShort :
    ℕ → ℕ → ℕ → ℕ → Tables → List ℕ → Option Took → List ℕ → List ℕ → List ℕ → List ℕ → List ℕ → List ℕ → List ℕ →
    List ℕ → List ℕ → List ℕ → List ℕ → List ℕ → Type 0
TookShort sites n m sum t b r held rs os gs ps ns cs hs ps' ns' cs' hs' =
    MatchOption r
    (LeavesShort t b false (tables_of (counters_of sites n m held sum) rs os gs) ps ns cs hs ps' ns' cs' hs')
    (λ k. LeavesShort t b true (tables_of (counters_of sites (n + 1) k.objects held k.sum) rs os gs) ps ns cs hs
    ps' ns' cs' hs')

-- the place of the record b in the index ps
abbrev pub spot_of : List ℕ → List ℕ → ℕ
spot_of ps b = slot_of ps (decode_of b).site.0 (decode_of b).seq.0

-- what counting the record b, which has place n, and putting its place into the index asks of the counts and of that
pub record Enters (held : List ℕ) (n : ℕ) (ps b : List ℕ) : Type 0 where
  pub room : n < most_records
  pub site : (decode_of b).site.0 < length held
  pub count : get_or held (decode_of b).site.0 0 < most_records
  pub spot : spot_of ps b < length ps

-- the groups in use of the object of a Set of which r was found, and those that the step gives
abbrev pub used_by : List ℕ → List ℕ → Looked → List ℕ
used_by os gs r = take (groups_at os r.object) (row r.object gs)

abbrev pub stepped_by : List ℕ → List ℕ → Looked → List ℕ
stepped_by os gs r = step r.conflicts r.sets (used_by os gs r)

-- what storing it asks of the objects, their groups and the index
pub record Steps (os gs ns cs hs : List ℕ) (key : ℕ) (r : Looked) : Type 0 where
  pub object : r.object < most_objects
  pub sets : r.sets < most_sets
  pub groups : groups_at os r.object ≤ most_groups
  pub ascending : Ascending (used_by os gs r)
  pub below : (x : ℕ) → elem x (used_by os gs r) ≡ true → x < 2 ^ r.sets
  pub apart : Apart (used_by os gs r)
  pub rest : drop (groups_at os r.object) (row r.object gs) ≡ replicate (most_groups - groups_at os r.object) 0
  pub objects-long : length os ≡ objects_length
  pub groups-long : length gs ≡ groups_length
  pub numbers-long : length ns ≡ most_records
  pub counts-long : length cs ≡ most_objects
  pub chains-long : length hs ≡ chains_length
  pub few : key < keys
  pub count : get_or cs r.object 0 < most_sets

-- the groups of its object after it
abbrev pub rows_by : List ℕ → List ℕ → Looked → List ℕ
rows_by os gs r = put_row r.object gs (settled (stepped_by os gs r) (row r.object gs))

-- what storing it leaves: where there is room for the groups its object's entry, its number and the chain of its key go
-- along, and where there is none all is as it was
abbrev pub SetStored :
    ℕ → ℕ → ℕ → Looked → Bool → List ℕ → List ℕ → List ℕ → List ℕ → List ℕ → List ℕ → List ℕ → List ℕ → List ℕ →
    List ℕ → Type 0
SetStored n kind key r ok os gs ns cs hs os' gs' ns' cs' hs' =
    (gs' ≡ rows_by os gs r)
    × (ok ≡ true →
    (length (stepped_by os gs r) ≤ most_groups)
    × (os' ≡ put_counts os r.object (r.sets + 1) (length (stepped_by os gs r)))
    × (ns' ≡ set ns n (get_or cs r.object 0))
    × (cs' ≡ set cs r.object (get_or cs r.object 0 + 1))
    × (hs' ≡ linked_in hs n r.object kind key))
    × (ok ≡ false →
    (most_groups < length (stepped_by os gs r)) × (os' ≡ os) × (ns' ≡ ns) × (cs' ≡ cs) × (hs' ≡ hs))

-- ---- what a record changes beside itself

-- what it asks, where the edit e is not limited, r was found of it and there are m objects
pub record StoresBeside (m : ℕ) (os gs ns cs hs : List ℕ) (e : Edit) (r : Looked) : Type 0 where
  pub of-set : eqb e.kind set_kind ≡ true → Steps os gs ns cs hs e.key r
  pub of-create : is_create e ≡ true → m < most_objects
  pub objects-long : length os ≡ objects_length
  pub numbers-long : length ns ≡ most_records

-- and leaves, where the record has place n
pub record StoredBeside (n m : ℕ) (e : Edit) (r : Looked) (ok : Bool) (os gs ns cs hs os' gs' ns' cs' hs' : List ℕ) :
    Type 0 where
  pub of-set : eqb e.kind set_kind ≡ true → SetStored n set_kind e.key r ok os gs ns cs hs os' gs'
      ns' cs' hs'
  pub no-set : eqb e.kind set_kind ≡ false → (ok ≡ true) × (gs' ≡ gs) × (cs' ≡ cs) × (hs' ≡ hs)
  pub of-create : is_create e ≡ true → (os' ≡ put_entry os m n 0 1) × (ns' ≡ set ns n m)
  pub of_layer : is_create e ≡ false → eqb e.kind set_kind ≡ false → (os' ≡ os) × (ns' ≡ ns)

-- ---- a Set that was judged

-- what was found of the Set b and judged of it, in r: the number of its object is the index's too
pub record JudgedBy (t : Tables) (ps ns cs b : List ℕ) (r : Looked) : Type 0 where
  pub asked : Held
  pub judged : Judged
  pub ready : Ready t b asked judged true
  pub surveyed : (r.object ≡ asked.object) × (r.sets ≡ asked.sets)
  pub conflicts : r.conflicts ≡ judged.conflicts
  pub held : any (is_target (decode_of b)) (held_by t) ≡ true
  pub own : r.object ≡ object_of (decode_of b) (held_by t)
  pub number : r.object ≡ get_or ns (place_of ps (decode_of b).tsite.0 (decode_of b).tseq.0) 0
  pub count : r.sets ≡ get_or cs r.object 0
