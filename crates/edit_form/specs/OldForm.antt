-- The two forms in which a block holds its records, of document 02's Req 04. The long form is the edit record itself.
-- The old one has eight entries where that has sixteen, and was there for Creates and Sets alone: a record of another
-- kind has no old form. A stretch is the bytes of records one behind the other. Assumes nothing.
use Rattle.std.specs.Prelude.{ℕ, zero, suc, ◌+◌, ◌-◌, ◌*◌, List, [], ◌++◌, Bool, ◌||◌, cond, get_or, take, drop, replicate, eqb}
use Rattle.edit_record.specs.Layout.{most_sites, create_kind, set_kind, kind_at, vector_at, record_length}
use Rattle.edit_record.specs.RecordBytes.{span_of}

-- ---- the forms, by the number that a trailer has for each

abbrev pub old_form : ℕ
old_form = 0

abbrev pub long_form : ℕ
long_form = 1

-- the entries of an old vector, the bytes of those that it lacks, and the bytes of an old record
abbrev pub old_sites : ℕ
old_sites = 8

abbrev pub lacking : ℕ
lacking = 2 * (most_sites - old_sites)

abbrev pub old_length : ℕ
old_length = record_length - lacking

-- the most sites in a form
abbrev pub sites_by : ℕ → ℕ
sites_by form = cond (eqb form old_form) old_sites most_sites

-- ---- an old record as a long one

-- the same bytes, with zeros behind the eighth entry for the entries that it lacks
abbrev pub widened : List ℕ → List ℕ
widened b =
    let front = vector_at + 2 * old_sites in
    take front b ++ (replicate lacking 0 ++ drop front b)

abbrev pub has_old_form : ℕ → Bool
has_old_form kind = eqb kind create_kind || eqb kind set_kind

-- a record whose kind has no old form becomes zeros alone, which are answer 1
abbrev pub long_of : List ℕ → List ℕ
long_of b = cond (has_old_form (get_or b kind_at 0)) (widened b) (replicate record_length 0)

-- ---- a stretch

-- the bytes of the record at the front of what is left of a stretch, and that record as a long one
abbrev pub length_from : ℕ → List ℕ → ℕ
length_from form rest = cond (eqb form old_form) old_length (span_of rest)

unfoldable pub long_from : ℕ → List ℕ → List ℕ
long_from form rest =
    let b = take (length_from form rest) rest in
    cond (eqb form old_form) (long_of b) b

-- where the record number k starts, each behind the one before it; and that record as a long one
unfoldable pub start_of : ℕ → List ℕ → ℕ → ℕ
start_of form stretch zero = 0
start_of form stretch (suc k) =
    let at = start_of form stretch k in
    at + length_from form (drop at stretch)

abbrev pub stored_in : ℕ → List ℕ → ℕ → List ℕ
stored_in form stretch k = long_from form (drop (start_of form stretch k) stretch)

-- the first n of some records one behind the other
unfoldable pub chained : (ℕ → List ℕ) → ℕ → List ℕ
chained rs zero = []
chained rs (suc n) = chained rs n ++ rs n
