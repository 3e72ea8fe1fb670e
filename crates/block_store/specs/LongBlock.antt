-- The block of a file in the long form: its records as long ones, one behind the other, and then the trailer. Theorems
-- on the old form speak of it. Assumes nothing.
use Rattle.std.specs.Prelude.{ℕ, List, ◌++◌, length}
use Rattle.edit_form.specs.OldForm.{stored_in, chained}
use Rattle.block_trailer.specs.Trailer.{trailer_of}
use Rattle.block_trailer.specs.Locating.{located}

unfoldable pub long_block : List ℕ → List ℕ
long_block file =
    let l = located file in
    let f = l.trailer in
    let bytes = chained (stored_in f.form l.stretch) f.records in
    bytes ++ trailer_of f.records f.sites (length bytes)
