-- `block_trailer::is_filled` meets its contract: `at` is where record i starts, and a record that starts past the end
-- has none behind it that starts at the end. Assumes nothing.
use mathlib.Core.Path.{◌≡◌}
use Rattle.edit_form.specs.OldForm.{start_of}
use Rattle.block_trailer.proofs.is_filled.Given as goal

abbrev pub invariant-loop : goal.invariant-loop
invariant-loop l = l.at ≡ start_of l.form l.stretch l.counter
