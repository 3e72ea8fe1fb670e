-- Document 01's test of the distance: where no record is a limited Set, so that all of a form have one length, the
-- records end where the trailer starts exactly if the distance is their number times the bytes of a record. Assumes
-- nothing.
use mathlib.Core.Path.{◌≡◌, refl, ap, ◌∙◌}
use mathlib.Core.Bool.{Bool, true, false, not, ◌||◌}
use mathlib.Core.List.{List}
use Prim.Native.Nat.{ℕ, ◌*◌}
use lib.ListN.{length}
use lib.Dec.{eqb, ltb}
use Rattle.math_lists.proofs.Booleans.{eqb_comm}
use Rattle.edit_form.specs.OldForm.{long_form}
use Rattle.edit_form.proofs.OneLength.{length_by, NoneLimited, start-by-number}
use Rattle.edit_history.specs.EditsHeld.{most_records}
use Rattle.block_trailer.specs.Trailer.{trailer_length, trailer_at, records_in, form_in, distance_in, stretch_in}
use Rattle.block_trailer.specs.Trailer.{unfit_trailer}

last-two : (a b c : Bool) → (a || b || c) ≡ (a || c || b)
last-two true b c = refl
last-two false true true = refl
last-two false true false = refl
last-two false false true = refl
last-two false false false = refl

pub distance-by-number :
    (file : List ℕ) → NoneLimited (form_in file) (stretch_in file) (records_in file) →
    unfit_trailer file
    ≡ (ltb (length file) trailer_length
    || ltb most_records (records_in file)
    || ltb long_form (form_in file)
    || not (eqb (distance_in file) (records_in file * length_by (form_in file)))
    || ltb (trailer_at file) (distance_in file))
unfolding unfit_trailer
distance-by-number file none =
    let far = ltb (trailer_at file) (distance_in file) in
    let ahead =
    ltb (length file) trailer_length || ltb most_records (records_in file) || ltb long_form (form_in file) in
    let n = records_in file * length_by (form_in file) in
    ap (λ (k : ℕ). ahead || far || not (eqb k (distance_in file)))
    (start-by-number (form_in file) (stretch_in file) (records_in file) none)
    ∙ ap (λ (b : Bool). ahead || far || not b) (eqb_comm n (distance_in file))
    ∙ last-two ahead far (not (eqb (distance_in file) n))
