-- Records taken one after another from an empty drawing: what reading a file does, and what the separate check holds
-- tables against. Assumes nothing.
use Rattle.std.specs.Prelude.{ℕ, zero, suc, List, [], ◌∷◌, ◌++◌, cond, eqb, Result, Ok, Err}
use Rattle.edit_record.specs.declared.Edit.{Edit}
use Rattle.edit_record.specs.RecordBytes.{decode_of}
use Rattle.table_drawing.specs.declared.Counters.{Counters}
use Rattle.table_drawing.specs.Tables.{Tables, tables_of, empty_drawing}
use Rattle.table_drawing.specs.AnswerNumbers.{number_of}
use Rattle.table_arrival.specs.Arrival.{acceptance_of}
use Rattle.table_given.specs.declared.FileRefusal.{FileRefusal}

-- the first refused record's number and its index from 0, and the tables after those before it
pub record Replayed : Type 0 where
  pub answer : ℕ
  pub index : ℕ
  pub after : Tables

abbrev pub replayed : ℕ → ℕ → Tables → Replayed
replayed a i t = record { answer = a; index = i; after = t }

-- what a call that takes records one after another gives back, with the records, the objects and the groups that it
-- leaves
abbrev pub replayed_by : Result Counters FileRefusal → List ℕ → List ℕ → List ℕ → Replayed
replayed_by (Ok c) rs os gs = replayed 0 0 (tables_of c rs os gs)
replayed_by (Err e) rs os gs = replayed (number_of e.refusal) e.index (tables_of e.counters rs os gs)

-- the record number n of the records rs, each its bytes, after those before it
abbrev pub one_more : (ℕ → List ℕ) → ℕ → Tables → Replayed
one_more rs n t =
    let o = acceptance_of t (rs n) in
    replayed o.answer (cond (eqb o.answer 0) 0 n) o.after

-- the first n of the records, from an empty drawing of so many sites
unfoldable pub replay_of : ℕ → (ℕ → List ℕ) → ℕ → Replayed
replay_of sites rs zero = replayed 0 0 (empty_drawing sites)
replay_of sites rs (suc n) =
    let r = replay_of sites rs n in
    cond (eqb r.answer 0) (one_more rs n r.after) r

-- the edits of the first n of the records
unfoldable pub edits_in : (ℕ → List ℕ) → ℕ → List Edit
edits_in rs zero = []
edits_in rs (suc n) = edits_in rs n ++ (decode_of (rs n) ∷ [])
