-- The outcomes of locating a block in a file, by what was tested on the way, and where the stretch lies.
-- Assumes nothing.
use mathlib.Core.Path.{◌≡◌, refl, sym, ap, ◌∙◌}
use mathlib.Core.Bool.{Bool, true, false, not, ◌&&◌, ◌||◌, cond}
use mathlib.Core.List.{List, []}
use mathlib.Core.Logic.{inl, inr}
use Prim.Native.Nat.{ℕ, ◌+◌, ◌-◌, ◌≤◌, ◌<◌}
use native.Mathlib.Omega.{arith}
use lib.ListN.{length, take, drop, length-drop}
use lib.Seq.{length-take-le}
use lib.Dec.{eqb, leb, ltb}
use borrow.Author.Tests.{eqb-true, lt-ltb, le-ltb, ltb-true, ltb-false, leb-true, lt-leb, le-leb, not-false}
use Rattle.math_lists.proofs.Booleans.{both, and-on, either, neither, off-where}
use Rattle.edit_record.specs.Layout.{most_sites}
use Rattle.edit_form.specs.OldForm.{old_form, long_form, old_sites, sites_by, start_of}
use Rattle.edit_history.specs.EditsHeld.{most_records}
use Rattle.table_drawing.specs.declared.Refusal.{Refusal}
use Rattle.table_drawing.specs.Tables.{sites_right}
use Rattle.table_drawing.specs.AnswerNumbers.{number_of}
use Rattle.table_drawing.proofs.RefusalNumbers.{number_of-not_0}
use Rattle.block_trailer.specs.Trailer.{trailer_length, file_limit, trailer_at, records_in, sites_in, form_in}
use Rattle.block_trailer.specs.Trailer.{distance_in, start_in, stretch_in, unfit_trailer}
use Rattle.block_trailer.specs.Locating.{found, Located, refused_with, accepted_in, sites_fit, located}
use Rattle.block_trailer.specs.Locating.{Found}

-- ---- a trailer that is fit

pub record Fit (file : List ℕ) : Type 0 where
  pub long : trailer_length ≤ length file
  pub few : records_in file ≤ most_records
  pub form : form_in file ≤ long_form
  pub inside : distance_in file ≤ trailer_at file
  pub walked : start_of (form_in file) (stretch_in file) (records_in file) ≡ distance_in file

pub fit_at : (file : List ℕ) → unfit_trailer file ≡ false → Fit file
unfolding unfit_trailer
fit_at file h =
    let end = start_of (form_in file) (stretch_in file) (records_in file) in
    let short = ltb (length file) trailer_length in
    let many = ltb most_records (records_in file) in
    let above = ltb long_form (form_in file) in
    let far = ltb (trailer_at file) (distance_in file) in
    let whole = eqb end (distance_in file) in
    let (h3, e) = neither (short || many || above || far) (not whole) h in
    let (h2, d) = neither (short || many || above) far h3 in
    let (h1, c) = neither (short || many) above h2 in
    let (a, b) = neither short many h1 in
    record {
      long = ltb-false (length file) trailer_length a;
      few = ltb-false most_records (records_in file) b;
      form = ltb-false long_form (form_in file) c;
      inside = ltb-false (trailer_at file) (distance_in file) d;
      walked = eqb-true end (distance_in file) (not-false whole e);
    }

-- the stretch is there whole, unless it reaches before the file's start
pub stretch-long : (file : List ℕ) → distance_in file ≤ trailer_at file → length (stretch_in file) ≡ distance_in file
stretch-long file inside =
    length-take-le (distance_in file) (drop (start_in file) file) (omega (arith, length-drop (start_in file) file))

-- what is tested before the records are walked
abbrev pub unfit_before : List ℕ → Bool
unfit_before file =
    ltb (length file) trailer_length
    || ltb most_records (records_in file)
    || ltb long_form (form_in file)
    || ltb (trailer_at file) (distance_in file)

pub unfit-at-once : (file : List ℕ) → unfit_before file ≡ true → unfit_trailer file ≡ true
unfolding unfit_trailer
unfit-at-once file h = rw h

-- and by the walk over what is lent of the file
pub unfit-by-walk :
    (file : List ℕ) (filled : Bool) → unfit_before file ≡ false →
    let s = take (trailer_at file - start_in file) (drop (start_in file) file) in
    filled ≡ eqb (start_of (form_in file) s (records_in file)) (length s) → not filled ≡ unfit_trailer file
unfolding unfit_trailer
unfit-by-walk file filled h walked =
    let far = ltb (trailer_at file) (distance_in file) in
    let (_, near) = neither
    (ltb (length file) trailer_length || ltb most_records (records_in file) || ltb long_form (form_in file)) far h in
    let inside = ltb-false (trailer_at file) (distance_in file) near in
    let back : trailer_at file - start_in file ≡ distance_in file = omega arith in
    rw (h, walked, back, stretch-long file inside)

-- ---- the number of sites

-- the two tests that refuse a number of sites, turned round
pub sites-tested : (n most : ℕ) (t : Bool) → (ltb n 1 || ltb most n) ≡ t → (leb 1 n && leb n most) ≡ not t
sites-tested n most false h =
    let (low, high) = neither (ltb n 1) (ltb most n) h in
    and-on (leb 1 n) (leb n most) (le-leb 1 n (ltb-false n 1 low)) (le-leb n most (ltb-false most n high))
sites-tested n most true h = elim (either (ltb n 1) (ltb most n) h) [
  | inl low ↦ rw (lt-leb 1 n (ltb-true n 1 low))
  | inr high ↦ off-where (leb 1 n) (leb n most) (λ _. lt-leb n most (ltb-true most n high))
]

-- the N of a form is one of a drawing
pub sites-right : (file : List ℕ) → sites_fit file ≡ true → sites_right (sites_in file) ≡ true
sites-right file h =
    let n = sites_in file in
    let most = sites_by (form_in file) in
    let (low, high) = both (leb 1 n) (leb n most) h in
    and-on (leb 1 n) (leb n most_sites) low
    (le-leb n most_sites (go n (eqb (form_in file) old_form) (leb-true n most high)))
  where
    go : (n : ℕ) (o : Bool) → n ≤ cond o old_sites most_sites → n ≤ most_sites
    go n true l = omega arith
    go n false l = l

-- ---- the outcomes

module _ (file : List ℕ) where
  pub over-limit : file_limit < length file → refused_with 10 ≡ located file
  unfolding located
  over-limit h = rw (lt-ltb file_limit (length file) h)

  module _ (within : length file ≤ file_limit) where
    pub unfit-refused : unfit_trailer file ≡ true → refused_with 10 ≡ located file
    unfolding located
    unfit-refused h = rw (le-ltb file_limit (length file) within, h)

    pub sites-refused : unfit_trailer file ≡ false → sites_fit file ≡ false → refused_with 9 ≡ located file
    unfolding located
    sites-refused h k = rw (le-ltb file_limit (length file) within, h, k)

    pub accepted : unfit_trailer file ≡ false → sites_fit file ≡ true → located file ≡ accepted_in file
    unfolding located
    accepted h k = rw (le-ltb file_limit (length file) within, h, k)

  -- what holds of both refusals, and of a stretch before a fit trailer, holds of what is located
  pub located-by :
      (P : Located → Type 0) → P (refused_with 10) → P (refused_with 9) →
      (Fit file → sites_fit file ≡ true → P (accepted_in file)) → P (located file)
  unfolding located
  located-by P ten nine fit =
      go (ltb file_limit (length file)) (unfit_trailer file) refl (sites_fit file) refl
    where
      go : (o u : Bool) → unfit_trailer file ≡ u → (s : Bool) → sites_fit file ≡ s →
          P (cond (o || u) (refused_with 10) (cond s (accepted_in file) (refused_with 9)))
      go true u p s q = ten
      go false true p s q = ten
      go false false p true q = fit (fit_at file p) q
      go false false p false q = nine

-- ---- where the stretch lies

-- it ends at the trailer's start, or where it starts if the file is refused
abbrev end_in : List ℕ → Located → ℕ
end_in file l = cond (eqb l.trailer.answer 0) (trailer_at file) 0

record Lies (file : List ℕ) (l : Located) : Type 0 where
  pub ends : l.start + length l.stretch ≡ end_in file l
  pub holds : l.stretch ≡ take (length l.stretch) (drop l.start file)

stretch-lies : (file : List ℕ) → Lies file (located file)
stretch-lies file =
    located-by file (Lies file) (record { ends = refl; holds = refl }) (record { ends = refl; holds = refl })
    (λ f k.
    let long = stretch-long file f.inside in
    record {
      ends = omega (arith, f.inside, long);
      holds = ap (λ (w : ℕ). take w (drop (start_in file) file)) (sym long);
    })

-- by what the trailer was read to say, the start s that it was read to have, and the end e that follows from it
module _ (file : List ℕ) {a n f k s e : ℕ} (read : found a n f k ≡ (located file).trailer)
    (start : s ≡ (located file).start) (end : e ≡ cond (eqb a 0) (length file - trailer_length) 0) where
  ends_so : s + length (located file).stretch ≡ e
  ends_so =
      ap (λ (i : ℕ). i + length (located file).stretch) start
      ∙ (stretch-lies file).ends
      ∙ sym (end ∙ ap (λ (t : Found). cond (eqb t.answer 0) (trailer_at file) 0) read)

  pub start-before-end : s ≤ e
  start-before-end = omega (arith, ends_so)

  pub end-inside : e ≤ length file
  end-inside = go (eqb a 0) end
    where
      go : (b : Bool) → e ≡ cond b (length file - trailer_length) 0 → e ≤ length file
      go true h = omega arith
      go false h = omega arith

  pub stretch-is : take (e - s) (drop s file) ≡ (located file).stretch
  stretch-is =
      let long : e - s ≡ length (located file).stretch = omega (arith, ends_so) in
      rw (long, start) (sym (stretch-lies file).holds)

-- the empty stretch of a refused file
pub empty-is :
    (file : List ℕ) (r : Refusal) → found (number_of r) 0 0 0 ≡ (located file).trailer → 0 ≡ (located file).start →
    [] ≡ (located file).stretch
empty-is file r read start =
    let end : 0 ≡ cond (eqb (number_of r) 0) (length file - trailer_length) 0 = rw (number_of-not_0 r) in
    stretch-is file read start end
