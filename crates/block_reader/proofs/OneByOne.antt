-- A reader of a stretch of n records in a form gives these as long ones, in their order, and then the end mark each
-- time it is called. A reader of an old stretch gives what the reader of the long stretch gives that holds the same
-- records. Assumes nothing.
use mathlib.Core.Path.{◌≡◌, refl, sym, ap, ◌∙◌}
use Rattle.std.specs.Prelude.{Option, Some, None}
use mathlib.Core.List.{List, [], ◌∷◌, ◌++◌, append-nil}
use Prim.Native.Nat.{ℕ, zero, suc, ◌+◌, ◌≤◌, ◌<◌}
use native.Mathlib.Omega.{arith}
use lib.ListN.{length, drop}
use lib.Seq.{append_snoc}
use borrow.Author.Tests.{le-leb, lt-leb}
use Rattle.edit_record.specs.declared.Edit.{Edit}
use Rattle.edit_record.specs.RecordBytes.{decode_of}
use Rattle.edit_form.specs.OldForm.{old_form, long_form, length_from, start_of, stored_in}
use Rattle.edit_form.proofs.CopiedParts.{length-least}
use Rattle.edit_form.proofs.Stretches.{rest_from, start-next, ends-before}
use Rattle.edit_history.specs.EditsHeld.{bytes_at, record_at, edits_of}
use Rattle.edit_history.proofs.FieldsInPlace.{bytes-decoded}
use Rattle.block_reader.specs.Reader.{record_at_place, taken_at}

-- the edits in the first n records of a stretch in a form
unfoldable pub stretch_edits : ℕ → List ℕ → ℕ → List Edit
stretch_edits form s zero = []
stretch_edits form s (suc n) = stretch_edits form s n ++ (decode_of (stored_in form s n) ∷ [])

-- a record that is given, and those after it; nothing comes after the end mark
abbrev pub with_those : Option Edit → List Edit → List Edit
with_those (Some e) es = e ∷ es
with_those None es = []

-- the edits that a reader of s in a form at the place p gives before its first end mark, called k times
unfoldable pub given_from : ℕ → ℕ → List ℕ → ℕ → List Edit
given_from zero form s p = []
given_from (suc k) form s p =
    let t = taken_at s form p in
    with_those t.given (given_from k form s t.place)

-- ---- one by one

module _ (form : ℕ) (s : List ℕ) where
  -- where a record is left, it is given, and the place moves past it
  pub gives-the-record :
      (p : ℕ) →
      let next = p + length_from form (drop p s) in
      next ≤ length s → taken_at s form p ≡ record { given = Some (record_at_place s form p); place = next }
  unfolding taken_at
  gives-the-record p left = rw (le-leb (p + length_from form (drop p s)) (length s) left)

  -- with fewer bytes left the end mark is given and the place stays, so that the next call finds the same
  pub stays-at-the-end :
      (p : ℕ) → length s < p + length_from form (drop p s) → taken_at s form p ≡ record { given = None; place = p }
  unfolding taken_at
  stays-at-the-end p few = rw (lt-leb (p + length_from form (drop p s)) (length s) few)

  -- called k times where record i starts and m more are left
  from-the-place :
      (m k i : ℕ) → length s ≡ start_of form s (i + m) → m ≤ k →
      stretch_edits form s i ++ given_from k form s (start_of form s i) ≡ stretch_edits form s (i + m)
  unfolding given_from stretch_edits
  from-the-place zero zero i long l =
      let same : i ≡ i + 0 = omega arith in
      append-nil (stretch_edits form s i) ∙ ap (stretch_edits form s) same
  from-the-place zero (suc k) i long l =
      let same : i ≡ i + 0 = omega arith in
      let at-the-end : length s < start_of form s i + length_from form (rest_from form s i) =
      omega (arith, long ∙ ap (start_of form s) (sym same), length-least form (rest_from form s i)) in
      rw (stays-at-the-end (start_of form s i) at-the-end)
      (append-nil (stretch_edits form s i) ∙ ap (stretch_edits form s) same)
  from-the-place (suc m) zero i long l = absurd (omega (arith, l))
  from-the-place (suc m) (suc k) i long l =
      let p = start_of form s i in
      let moved : i + suc m ≡ suc i + m = omega arith in
      let rest = from-the-place m k (suc i) (long ∙ ap (start_of form s) moved) (omega (arith, l)) in
      rw (
        gives-the-record p (omega (arith, long, ends-before form s i (i + suc m) (omega arith))),
        ← start-next form s i,
      )
      (sym (append_snoc (stretch_edits form s i) (decode_of (stored_in form s i))
      (given_from k form s (start_of form s (suc i))))
      ∙ rest
      ∙ ap (stretch_edits form s) (sym moved))

  -- a stretch of n records: they are given from its start on, however often the reader is called after them
  pub gives-the-block :
      (n k : ℕ) → length s ≡ start_of form s n → n ≤ k → given_from k form s 0 ≡ stretch_edits form s n
  unfolding stretch_edits start_of
  gives-the-block n k long l =
      let whole : 0 + n ≡ n = omega arith in
      from-the-place n k 0 (long ∙ ap (start_of form s) (sym whole)) l ∙ ap (stretch_edits form s) whole

-- ---- the same records

same-edits :
    (f g : ℕ) (s t : List ℕ) (n : ℕ) → ((i : ℕ) → i < n → stored_in f s i ≡ stored_in g t i) →
    stretch_edits f s n ≡ stretch_edits g t n
unfolding stretch_edits
same-edits f g s t zero h = refl
same-edits f g s t (suc n) h = rw (same-edits f g s t n (λ i l. h i (omega arith)), h n (omega arith))

-- an old stretch s, and a long one t that holds its records as long ones
pub old-as-long :
    (s t : List ℕ) (n k : ℕ) → length s ≡ start_of old_form s n → length t ≡ start_of long_form t n →
    ((i : ℕ) → i < n → stored_in old_form s i ≡ stored_in long_form t i) → n ≤ k →
    given_from k old_form s 0 ≡ given_from k long_form t 0
old-as-long s t n k old long h l =
    gives-the-block old_form s n k old l
    ∙ same-edits old_form long_form s t n h
    ∙ sym (gives-the-block long_form t n k long l)

-- the records of a stretch are those of a table that holds them
pub as-held :
    (form : ℕ) (s ts : List ℕ) (n : ℕ) → ((p : ℕ) → p < n → bytes_at ts p ≡ stored_in form s p) →
    stretch_edits form s n ≡ edits_of ts n
unfolding stretch_edits edits_of
as-held form s ts zero h = refl
as-held form s ts (suc n) h =
    let own : decode_of (stored_in form s n) ≡ record_at ts n =
    ap decode_of (sym (h n (omega arith))) ∙ bytes-decoded ts n in
    rw (as-held form s ts n (λ p l. h p (omega arith)), own)
