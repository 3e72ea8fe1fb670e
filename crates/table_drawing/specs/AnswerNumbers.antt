-- The number that documents 01 and 02 give each answer, and the outcome of a call that changes tables. Assumes nothing.
use Rattle.std.specs.Prelude.{ℕ, Result, Ok, Err}
use Rattle.table_drawing.specs.declared.Refusal.{Refusal}
use Rattle.table_drawing.specs.declared.Refusal.TheVariants.{Malformed, Repeated, Early, Torn, Astray, Full, Crowded}
use Rattle.table_drawing.specs.declared.Refusal.TheVariants.{Unsound, BadSites, BadFile, NoRoom, NoLine, Nameless}
use Rattle.table_drawing.specs.declared.Refusal.TheVariants.{TooManySets}
use Rattle.table_drawing.specs.Tables.{Tables}

abbrev pub number_of : Refusal → ℕ
number_of Malformed = 1
number_of Repeated = 2
number_of Early = 3
number_of Torn = 4
number_of Astray = 5
number_of Full = 6
number_of Crowded = 7
number_of Unsound = 8
number_of BadSites = 9
number_of BadFile = 10
number_of NoRoom = 11
number_of NoLine = 12
number_of Nameless = 16
number_of TooManySets = 18

-- the number of a call's answer, which is 0 where it is done
abbrev pub answer_of : {T : Type 0} → Result T Refusal → ℕ
answer_of (Ok x) = 0
answer_of (Err r) = number_of r

-- what a call gives back and the tables that it leaves
pub record Outcome : Type 0 where
  pub answer : ℕ
  pub after : Tables

abbrev pub outcome_of : ℕ → Tables → Outcome
outcome_of n t = record { answer = n; after = t }
