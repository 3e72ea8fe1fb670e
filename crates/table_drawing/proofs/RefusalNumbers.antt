-- The number of a refusal is not 0, which is that of a call that is done. Assumes nothing.
use mathlib.Core.Path.{◌≡◌, refl}
use mathlib.Core.Bool.{false}
use lib.Dec.{eqb}
use borrow.Author.Tests.{eq-eqb}
use Rattle.math_lists.proofs.Booleans.{clash}
use Rattle.table_drawing.specs.declared.Refusal.{Refusal}
use Rattle.table_drawing.specs.declared.Refusal.TheVariants.{Malformed, Repeated, Early, Torn, Astray, Full, Crowded}
use Rattle.table_drawing.specs.declared.Refusal.TheVariants.{Unsound, BadSites, BadFile, NoRoom, NoLine, Nameless}
use Rattle.table_drawing.specs.declared.Refusal.TheVariants.{TooManySets}
use Rattle.table_drawing.specs.AnswerNumbers.{number_of}

pub number_of-not_0 : (r : Refusal) → eqb (number_of r) 0 ≡ false
number_of-not_0 Malformed = refl
number_of-not_0 Repeated = refl
number_of-not_0 Early = refl
number_of-not_0 Torn = refl
number_of-not_0 Astray = refl
number_of-not_0 Full = refl
number_of-not_0 Crowded = refl
number_of-not_0 Unsound = refl
number_of-not_0 BadSites = refl
number_of-not_0 BadFile = refl
number_of-not_0 NoRoom = refl
number_of-not_0 NoLine = refl
number_of-not_0 Nameless = refl
number_of-not_0 TooManySets = refl

pub refused : (r : Refusal) → number_of r ≡ 0 → ⊥
refused r z = clash (eq-eqb (number_of r) 0 z) (number_of-not_0 r)
