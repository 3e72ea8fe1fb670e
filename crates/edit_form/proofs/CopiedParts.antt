-- A record put together of copied parts: the two parts of an old record with zeros between them, and the site, which
-- stands at the same place in both forms. Assumes nothing.
use mathlib.Core.Path.{◌≡◌, refl, sym, ap, ap₂, ◌∙◌}
use mathlib.Core.Bool.{Bool, true, false, not, ◌&&◌, cond}
use mathlib.Core.List.{List, [], ◌++◌, append_assoc, append-nil}
use Prim.Native.Nat.{ℕ, ◌+◌, ◌-◌, ◌*◌, ◌≤◌, ◌<◌}
use native.Mathlib.Omega.{arith}
use lib.Dec.{eqb, lit<}
use lib.ListN.{length, get_or, take, drop, replicate, length-append, drop_of_length-le}
use lib.ListN.{get_or-append}
use lib.Seq.{length-take-le, take_at, drop_at, take-take, take-add, get_or-take}
use Rattle.math_lists.proofs.ReplacedPart.{put}
use Rattle.edit_record.specs.Layout.{kind_at, site_at, vector_at, record_length, members_at, member_length, two_bytes}
use Rattle.edit_record.specs.RecordBytes.{span_of}
use Rattle.edit_record.proofs.NumbersInBytes.{Bytes}
use Rattle.edit_record.proofs.RecordSpans.{span-least, span_below}
use Rattle.edit_form.specs.OldForm.{old_form, old_sites, lacking, old_length, length_from, widened, has_old_form}
use Rattle.edit_form.specs.OldForm.{long_of, long_from}

-- where the entries of an old vector end, and what stands behind them
abbrev pub old_end : ℕ
old_end = vector_at + 2 * old_sites

abbrev pub behind : ℕ
behind = old_length - old_end

-- what holds of the bytes of an old record and of a long one holds of those of either form
pub by_form : (P : ℕ → Type 0) (form : ℕ) (rest : List ℕ) → P old_length → P (span_of rest) → P (length_from form rest)
by_form P form rest old long = go (eqb form old_form)
  where
    go : (o : Bool) → P (cond o old_length (span_of rest))
    go true = old
    go false = long

pub length-least : (form : ℕ) (rest : List ℕ) → old_length ≤ length_from form rest
length-least form rest =
    by_form (λ w. old_length ≤ w) form rest (omega arith) (omega (arith, span-least rest))

pub length-below : (form : ℕ) (rest : List ℕ) → Bytes rest → length_from form rest < members_at + two_bytes * member_length
length-below form rest h =
    by_form (λ w. w < members_at + two_bytes * member_length) form rest (omega arith) (span_below rest h)

-- ---- an old record

-- a part of the front is the front of a part
pub drop-take : (m n : ℕ) (l : List ℕ) → m ≤ length l → drop m (take (m + n) l) ≡ take n (drop m l)
drop-take m n l h =
    ap (drop m) (take-add m n l) ∙ drop_at (take m l) (take n (drop m l)) m (length-take-le m l h)

module _ (rest : List ℕ) (long : old_length ≤ length rest) where
  -- zeros, with the front of the record copied over them
  abbrev over_zeros : List ℕ
  over_zeros = put (replicate record_length 0) 0 old_end (take old_end (drop 0 rest))

  abbrev front : List ℕ
  front = take old_end rest ++ replicate lacking 0

  front_long : length front ≡ old_end + lacking
  front_long = length-append (take old_end rest) (replicate lacking 0) ∙ rw (length-take-le old_end rest (omega arith))

  over-zeros-is : over_zeros ≡ front ++ replicate behind 0
  over-zeros-is = sym (append_assoc (take old_end rest) (replicate lacking 0) (replicate behind 0))

  -- and the rest of the record behind the zeros that are left
  pub parts-widened :
      put over_zeros (old_end + lacking) behind (take behind (drop old_end rest)) ≡ widened (take old_length rest)
  parts-widened =
      let back = take behind (drop old_end rest) in
      let before : take (old_end + lacking) over_zeros ≡ front =
      ap (take (old_end + lacking)) over-zeros-is
      ∙ take_at front (replicate behind 0) (old_end + lacking) front_long in
      let after : drop (old_end + lacking + behind) over_zeros ≡ [] =
      drop_of_length-le over_zeros {i = old_end + lacking + behind}
      (rw over-zeros-is (simp length-append (omega (arith, length-take-le old_end rest (omega arith))))) in
      ap₂ (λ (x y : List ℕ). x ++ (back ++ y)) before after
      ∙ ap (λ (x : List ℕ). front ++ x) (append-nil back)
      ∙ append_assoc (take old_end rest) (replicate lacking 0) back
      ∙ ap₂ (λ (x y : List ℕ). x ++ (replicate lacking 0 ++ y)) (sym (take-take old_end old_length rest (omega arith)))
      (sym (drop-take old_end behind rest (omega arith)))

-- the kind is read in the record or in what is left of the stretch
pub old-by-kind :
    (rest : List ℕ) →
    long_of (take old_length rest)
    ≡ cond (has_old_form (get_or rest kind_at 0)) (widened (take old_length rest)) (replicate record_length 0)
old-by-kind rest = rw (get_or-take old_length rest kind_at 0 (lit< tt))

-- ---- the site

-- in front of the zeros a byte stands where it stood
pub widened-before : (b : List ℕ) (i : ℕ) → old_end ≤ length b → i < old_end → get_or (widened b) i 0 ≡ get_or b i 0
widened-before b i long l =
    get_or-append (take old_end b) (replicate lacking 0 ++ drop old_end b) 0 i
    (omega (arith, length-take-le old_end b long))
    ∙ get_or-take old_end b i 0 l

-- where an old record has no old form, zeros stand for it; else the site stands where it stood
pub site-read :
    (form : ℕ) (rest : List ℕ) → length_from form rest ≤ length rest →
    get_or (long_from form rest) site_at 0
    ≡ cond (eqb form old_form && not (has_old_form (get_or rest kind_at 0))) 0 (get_or rest site_at 0)
unfolding long_from
site-read form rest long = go (eqb form old_form) long
  where
    old : old_length ≤ length rest → (t : Bool) →
        get_or (cond t (widened (take old_length rest)) (replicate record_length 0)) site_at 0
        ≡ cond (not t) 0 (get_or rest site_at 0)
    old h true =
        widened-before (take old_length rest) site_at (omega (arith, length-take-le old_length rest h)) (lit< tt)
        ∙ get_or-take old_length rest site_at 0 (lit< tt)
    old h false = refl

    go : (o : Bool) → cond o old_length (span_of rest) ≤ length rest →
        get_or
        (cond o (long_of (take (cond o old_length (span_of rest)) rest)) (take (cond o old_length (span_of rest)) rest))
        site_at 0
        ≡ cond (o && not (has_old_form (get_or rest kind_at 0))) 0 (get_or rest site_at 0)
    go true h = rw (old-by-kind rest) (old h (has_old_form (get_or rest kind_at 0)))
    go false h = get_or-take (span_of rest) rest site_at 0 (omega (arith, span-least rest))
