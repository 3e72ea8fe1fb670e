-- The eight bytes of a trailer: written and read back; and, of a block in the long form, read and written back. Assumes
-- nothing.
use mathlib.Core.Path.{◌≡◌, refl, ◌∙◌}
use mathlib.Core.Bool.{false}
use mathlib.Core.List.{List, [], ◌∷◌, ◌++◌, append_assoc}
use Prim.Native.Nat.{ℕ, ◌+◌, ◌/◌, ◌%◌, ◌≤◌}
use native.Mathlib.Omega.{arith}
use lib.ListN.{length, get_or, take, drop, length-append, length-drop, take-append-drop}
use lib.Seq.{drop-cons, drop-drop, drop_at, take_all, take_at, get_or-append-add}
use borrow.Author.Tests.{le-ltb}
use Rattle.math_lists.proofs.Booleans.{eqb-self}
use Rattle.edit_record.specs.RecordBytes.{two, four, counts, count_bytes}
use Rattle.edit_record.proofs.NumbersInBytes.{Bytes, two-drop, two-below, bytes_drop, count-back, value-back, low_half}
use Rattle.edit_record.proofs.NumbersInBytes.{high_half, bytes_back}
use Rattle.edit_form.specs.OldForm.{long_form, start_of}
use Rattle.edit_history.specs.EditsHeld.{most_records}
use Rattle.block_trailer.specs.Trailer.{trailer_length, file_limit, trailer_of, trailer_at, sites_at, form_at}
use Rattle.block_trailer.specs.Trailer.{distance_at, records_in, sites_in, form_in, distance_in, start_in}
use Rattle.block_trailer.specs.Trailer.{stretch_in, unfit_trailer}

pub trailer-long : (n sites d : ℕ) → length (trailer_of n sites d) ≡ trailer_length
unfolding trailer_of count_bytes
trailer-long n sites d = refl

-- ---- written and read back

-- a file that ends with a trailer
module _ (front : List ℕ) (n sites d : ℕ) where
  abbrev file : List ℕ
  file = front ++ trailer_of n sites d

  pub trailer-at : trailer_at file ≡ length front
  trailer-at = simp length-append (omega (arith, trailer-long n sites d))

  byte : (i k : ℕ) → k ≡ length front + i → get_or file k 0 ≡ get_or (trailer_of n sites d) i 0
  byte i k e = rw e (get_or-append-add front (trailer_of n sites d) i 0)

  pub sites-back : sites_in file ≡ sites
  unfolding trailer_of count_bytes
  sites-back = byte sites_at (trailer_at file + sites_at) (omega (arith, trailer-at))

  pub form-back : form_in file ≡ long_form
  unfolding trailer_of count_bytes
  form-back = byte form_at (trailer_at file + form_at) (omega (arith, trailer-at))

  pub records-back : n ≤ most_records → records_in file ≡ n
  unfolding trailer_of count_bytes
  records-back few =
      rw (
        byte 0 (trailer_at file) (omega (arith, trailer-at)),
        byte 1 (trailer_at file + 1) (omega (arith, trailer-at)),
      )
      (count-back n (omega arith))

  distance_back : d ≤ file_limit → distance_in file ≡ d
  unfolding trailer_of count_bytes
  distance_back low =
      rw (
        byte distance_at (trailer_at file + distance_at) (omega (arith, trailer-at)),
        byte 5 (trailer_at file + distance_at + 1) (omega (arith, trailer-at)),
        byte 6 (trailer_at file + distance_at + 2) (omega (arith, trailer-at)),
        byte 7 (trailer_at file + distance_at + 2 + 1) (omega (arith, trailer-at)),
        count-back (d % 65536) (omega arith),
        count-back (d / 65536) (omega arith),
      )
      (value-back d)

-- long records behind any bytes, and their trailer
module _ (ahead rs : List ℕ) (n sites : ℕ) (low : length rs ≤ file_limit) where
  abbrev front : List ℕ
  front = ahead ++ rs

  abbrev whole : List ℕ
  whole = front ++ trailer_of n sites (length rs)

  far : distance_in whole ≡ length rs
  far = distance_back front n sites (length rs) low

  at : trailer_at whole ≡ length ahead + length rs
  at = trailer-at front n sites (length rs) ∙ length-append ahead rs

  pub start_back : start_in whole ≡ length ahead
  start_back = omega (arith, far, at)

  pub stretch-back : stretch_in whole ≡ rs
  stretch-back =
      let behind = trailer_of n sites (length rs) in
      rw (start_back, far, append_assoc ahead rs behind, drop_at ahead (rs ++ behind) (length ahead) refl)
      (take_at rs behind (length rs) refl)

  pub trailer-fit : n ≤ most_records → start_of long_form rs n ≡ length rs → unfit_trailer whole ≡ false
  unfolding unfit_trailer
  trailer-fit few walked =
      let long : trailer_length ≤ length whole =
      omega (arith, length-append front (trailer_of n sites (length rs)), trailer-long n sites (length rs)) in
      rw (
        le-ltb (length whole) trailer_length long,
        records-back front n sites (length rs) few,
        le-ltb most_records n few,
        form-back front n sites (length rs),
        le-ltb (trailer_at whole) (distance_in whole) (omega (arith, far, at)),
        stretch-back,
        walked,
        far,
        eqb-self (length rs),
      )

-- ---- read and written back

pub trailer-again :
    (s : List ℕ) → length s ≡ trailer_length → Bytes s → get_or s form_at 0 ≡ long_form →
    trailer_of (two s 0) (get_or s sites_at 0) (four s distance_at) ≡ s
unfolding trailer_of counts
trailer-again s long h form =
    let low : four s 4 % 65536 ≡ two s 4 = low_half (two s 4) (two s 6) (two-below s h 4) in
    let high : four s 4 / 65536 ≡ two s 6 = high_half (two s 4) (two s 6) (two-below s h 4) in
    let front : count_bytes (two s 0 ∷ []) ≡ take 2 s = bytes_back 1 s (omega arith) h in
    let back : count_bytes (two s 4 ∷ two s 6 ∷ []) ≡ drop 4 s =
    rw (← two-drop 4 s 0, ← two-drop 6 s 0, ← drop-drop 2 4 s)
    (bytes_back 2 (drop 4 s) (simp length-drop (omega arith)) (bytes_drop 4 s h)
    ∙ take_all 4 (drop 4 s) (simp length-drop (omega arith))) in
    let third : drop 2 s ≡ get_or s 2 0 ∷ drop 3 s = drop-cons s 2 0 (omega arith) in
    let fourth : drop 3 s ≡ long_form ∷ drop 4 s = drop-cons s 3 0 (omega arith) ∙ rw form in
    rw (low, high, front, back) (rw (← fourth, ← third) (take-append-drop 2 s))
