-- Locating a block in a file by its trailer: 10, then 9; refused, the empty stretch at the file's start; else the
-- stretch of the records alone. Assumes nothing.
use Rattle.std.specs.Prelude.{ℕ, ◌+◌, List, [], Bool, ◌&&◌, ◌||◌, cond, length, leb, ltb, Result, Ok, Err}
use Rattle.edit_form.specs.OldForm.{sites_by}
use Rattle.table_drawing.specs.declared.Refusal.{Refusal}
use Rattle.table_drawing.specs.AnswerNumbers.{number_of}
use Rattle.block_trailer.specs.declared.Trailer.{Trailer}
use Rattle.block_trailer.specs.Trailer.{file_limit, records_in, sites_in, form_in, start_in}
use Rattle.block_trailer.specs.Trailer.{stretch_in, unfit_trailer}

-- the answer, N, the form and the number of records
pub record Found : Type 0 where
  pub answer : ℕ
  pub sites : ℕ
  pub form : ℕ
  pub records : ℕ

abbrev pub found : ℕ → ℕ → ℕ → ℕ → Found
found a n f k = record { answer = a; sites = n; form = f; records = k }

-- what a read trailer says, and where the first record starts; where the file is refused all of that is 0
abbrev pub found_by : Result Trailer Refusal → Found
found_by (Ok t) = found 0 t.sites t.form t.records
found_by (Err r) = found (number_of r) 0 0 0

abbrev pub start_by : Result Trailer Refusal → ℕ
start_by (Ok t) = t.start
start_by (Err r) = 0

-- what is found, and the stretch of the file that holds the records alone: where it starts, and its bytes
pub record Located : Type 0 where
  pub trailer : Found
  pub start : ℕ
  pub stretch : List ℕ

-- refused: the empty stretch at the file's start
abbrev pub refused_with : ℕ → Located
refused_with a = record { trailer = found a 0 0 0; start = 0; stretch = [] }

-- accepted: the stretch that ends where the trailer starts
abbrev pub accepted_in : List ℕ → Located
accepted_in file =
    record {
      trailer = found 0 (sites_in file) (form_in file) (records_in file);
      start = start_in file;
      stretch = stretch_in file;
    }

-- N is 1 to 16, and in an old block 1 to 8
abbrev pub sites_fit : List ℕ → Bool
sites_fit file = leb 1 (sites_in file) && leb (sites_in file) (sites_by (form_in file))

-- 10, then 9
unfoldable pub located : List ℕ → Located
located file =
    cond (ltb file_limit (length file) || unfit_trailer file) (refused_with 10)
    (cond (sites_fit file) (accepted_in file) (refused_with 9))

-- the place in memory that is i bytes further on
abbrev pub further : ℕ × ℕ → ℕ → ℕ × ℕ
further place i = (place.0, i + place.1)
