-- The trailer of a stored block, which are the last 8 bytes of a file. Assumes nothing.
use Rattle.std.specs.Prelude.{ℕ, ◌+◌, ◌-◌, ◌/◌, ◌%◌, List, [], ◌∷◌, ◌++◌, Bool, not, ◌||◌, get_or, length, take, drop, eqb, ltb}
use Rattle.edit_record.specs.RecordBytes.{two, four, count_bytes}
use Rattle.edit_form.specs.OldForm.{long_form, start_of}
use Rattle.edit_history.specs.EditsHeld.{most_records}

-- the bytes of a trailer
abbrev pub trailer_length : ℕ
trailer_length = 8

-- a file that is read has at most so many bytes
abbrev pub file_limit : ℕ
file_limit = 65536

-- ---- as it is written

-- the trailer behind n long records of a drawing of so many sites: the number of records, N, the form, and the distance
-- from the trailer's start back to the first record
unfoldable pub trailer_of : ℕ → ℕ → ℕ → List ℕ
trailer_of n sites distance =
    count_bytes (n ∷ []) ++ (sites ∷ long_form ∷ count_bytes (distance % 65536 ∷ distance / 65536 ∷ []))

-- ---- as it stands in a file

-- where it starts
abbrev pub trailer_at : List ℕ → ℕ
trailer_at file = length file - trailer_length

-- where its fields start, the first of which is the number of records
abbrev pub sites_at : ℕ
sites_at = 2

abbrev pub form_at : ℕ
form_at = 3

abbrev pub distance_at : ℕ
distance_at = 4

-- the fields; a byte past the end counts as 0
abbrev pub records_in : List ℕ → ℕ
records_in file = two file (trailer_at file)

abbrev pub sites_in : List ℕ → ℕ
sites_in file = get_or file (trailer_at file + sites_at) 0

abbrev pub form_in : List ℕ → ℕ
form_in file = get_or file (trailer_at file + form_at) 0

abbrev pub distance_in : List ℕ → ℕ
distance_in file = four file (trailer_at file + distance_at)

-- the stretch of the records: so many bytes as the distance, which end where the trailer starts
abbrev pub start_in : List ℕ → ℕ
start_in file = trailer_at file - distance_in file

abbrev pub stretch_in : List ℕ → List ℕ
stretch_in file = take (distance_in file) (drop (start_in file) file)

-- file shorter than 8, more than 256 records, fourth byte above 1, the distance reaching before the file's start, or
-- not the sum of the records' bytes: one behind the other, they do not end where the trailer starts
unfoldable pub unfit_trailer : List ℕ → Bool
unfit_trailer file =
    ltb (length file) trailer_length
    || ltb most_records (records_in file)
    || ltb long_form (form_in file)
    || ltb (trailer_at file) (distance_in file)
    || not (eqb (start_of (form_in file) (stretch_in file) (records_in file)) (distance_in file))
