-- The lent tables, their limits, and the answers. Assumes nothing.
use Rattle.std.specs.Prelude.{ℕ, ◌+◌, ◌*◌, List, Bool, ◌&&◌, get_or, length, replicate, eqb, leb}
use Rattle.edit_record.specs.Layout.{most_sites, place_length}
use Rattle.edit_record.specs.declared.Edit.{Edit}
use Rattle.edit_history.specs.EditsHeld.{most_records, edits_of}
use Rattle.group_step.specs.GroupRows.{most_objects, most_groups}
use Rattle.table_drawing.specs.declared.Counters.{Counters}

-- ---- the tables as lent: bytes of records; per object the place of its Create, its number of Sets and its number of
-- groups; the rows of groups

pub record Tables : Type 0 where
  pub counters : Counters
  pub records : List ℕ
  pub objects : List ℕ
  pub groups : List ℕ

abbrev pub tables_of : Counters → List ℕ → List ℕ → List ℕ → Tables
tables_of c rs os gs = record { counters = c; records = rs; objects = os; groups = gs }

-- the numbers of an object's entry
abbrev pub entry_length : ℕ
entry_length = 3

abbrev pub place_at : List ℕ → ℕ → ℕ
place_at os o = get_or os (o * entry_length) 0

abbrev pub sets_at : List ℕ → ℕ → ℕ
sets_at os o = get_or os (o * entry_length + 1) 0

abbrev pub groups_at : List ℕ → ℕ → ℕ
groups_at os o = get_or os (o * entry_length + 2) 0

-- the edits that the tables hold
abbrev pub held_by : Tables → List Edit
held_by t = edits_of t.records t.counters.records

-- ---- the stated lengths

abbrev pub records_length : ℕ
records_length = most_records * place_length

abbrev pub objects_length : ℕ
objects_length = most_objects * entry_length

abbrev pub groups_length : ℕ
groups_length = most_objects * most_groups

abbrev pub lengths_right : List ℕ → List ℕ → List ℕ → Bool
lengths_right rs os gs =
    eqb (length rs) records_length && eqb (length os) objects_length && eqb (length gs) groups_length

-- a drawing has 1 to 16 sites
abbrev pub sites_right : ℕ → Bool
sites_right n = leb 1 n && leb n most_sites

-- the empty drawing of n sites: every entry is zero except N
unfoldable pub empty_drawing : ℕ → Tables
empty_drawing n =
    tables_of (record { sites = n; records = 0; objects = 0; held = replicate most_sites 0; sum = 0 })
    (replicate records_length 0) (replicate objects_length 0) (replicate groups_length 0)
