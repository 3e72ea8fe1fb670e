-- Old records beside long ones: a record of a kind that has no old form is answer 1; the record of a stretch in either
-- form is a long one; and the edit in an old record, with zeros for the entries that its vector lacks. What is said of
-- entries holds for any number of them. Assumes nothing.
use mathlib.Core.Path.{◌≡◌, refl, sym, ap, ap₂, ◌∙◌}
use mathlib.Core.Logic.{inl, inr}
use mathlib.Core.Bool.{Bool, true, false, not, ◌&&◌, cond, and-false, or-false}
use mathlib.Core.List.{List, [], ◌∷◌, ◌++◌, append_assoc}
use Prim.Native.Nat.{ℕ, zero, suc, ◌+◌, ◌-◌, ◌*◌, ◌≤◌, ◌<◌}
use native.Mathlib.Omega.{arith}
use lib.Dec.{eqb, leb, lit<}
use borrow.Author.Tests.{eqb-true}
use lib.ListN.{length, get_or, take, drop, replicate, length-append, length-drop, get_or-append}
use lib.Seq.{length-take-le, drop_at, drop-append-le, drop-drop, get_or-drop}
use lib.Seq.{get_or-append-add}
use Rattle.math_lists.specs.NumbersBelow.{some}
use Rattle.math_lists.proofs.NumbersBelow.{some_same}
use Rattle.math_lists.proofs.Booleans.{decide, either, or_right}
use Rattle.math_lists.proofs.ByPlaces.{zero-anywhere}
use Rattle.edit_record.specs.declared.Edit.{Edit}
use Rattle.edit_record.specs.Layout.{most_sites, kind_at, site_at, seq_at, vector_at, target_at, key_at, target_seq_at, value_at}
use Rattle.edit_record.specs.Layout.{record_length, members_at, most_members, create_kind, set_kind, limited_kind}
use Rattle.edit_record.specs.RecordBytes.{two, four, counts, limits, decode_of, span_of}
use Rattle.edit_record.specs.Answer1.{nonzero_past, unfit, malformed}
use Rattle.edit_record.proofs.NumbersInBytes.{counts-length}
use Rattle.edit_record.proofs.FoursInBytes.{fours-none}
use Rattle.edit_record.proofs.AgreeingBytes.{span-plain}
use Rattle.edit_record.proofs.EntriesPastSites.{is_past}
use Rattle.edit_record.proofs.RecordSpans.{span-own}
use Rattle.edit_form.specs.OldForm.{old_form, old_sites, lacking, old_length, length_from, widened, has_old_form}
use Rattle.edit_form.specs.OldForm.{long_of, long_from}
use Rattle.edit_form.proofs.CopiedParts.{old_end, drop-take, widened-before}

-- ---- a kind that has no old form

pub no-old-form-is-1 :
    (b : List ℕ) → has_old_form (get_or b kind_at 0) ≡ false → (n : ℕ) → malformed n (long_of b) ≡ true
unfolding malformed unfit
no-old-form-is-1 b h n =
    or_right (not (eqb (length (long_of b)) (span_of (long_of b)))) (unfit n (decode_of (long_of b))) (rw h)

-- ---- how long records are

pub widened-long : (b : List ℕ) → length b ≡ old_length → length (widened b) ≡ record_length
widened-long b long =
    simp (length-append, length-drop) (omega (arith, length-take-le old_end b (omega arith)))

long_of-long : (b : List ℕ) → length b ≡ old_length → length (long_of b) ≡ record_length
long_of-long b long = go (has_old_form (get_or b kind_at 0))
  where
    go : (o : Bool) → length (cond o (widened b) (replicate record_length 0)) ≡ record_length
    go true = widened-long b long
    go false = refl

-- a kind that has an old form limits to no version
old-plain : (k : ℕ) → has_old_form k ≡ true → eqb k limited_kind ≡ false
old-plain k h =
    elim (either (eqb k create_kind) (eqb k set_kind) h) [
      | inl e ↦ rw (eqb-true k create_kind e)
      | inr e ↦ rw (eqb-true k set_kind e)
    ]

-- so an old record is of no kind that is longer
old-span : (b : List ℕ) → length b ≡ old_length → span_of (long_of b) ≡ record_length
old-span b long = elim (decide (has_old_form (get_or b kind_at 0))) [
  | inl on ↦
      let kind : get_or (widened b) kind_at 0 ≡ get_or b kind_at 0 = widened-before b kind_at (omega arith) (lit< tt) in
      rw on (span-plain (widened b) (rw kind (old-plain (get_or b kind_at 0) on)))
  | inr off ↦ rw off (span-plain (replicate record_length 0) refl)
]

-- a long record is there as it stands, and an old one is widened
pub long-own :
    (form : ℕ) (rest : List ℕ) → eqb form old_form ≡ false → long_from form rest ≡ take (length_from form rest) rest
unfolding long_from
long-own form rest long = rw long

pub long-old : (form : ℕ) (rest : List ℕ) → eqb form old_form ≡ true → long_from form rest ≡ long_of (take old_length rest)
unfolding long_from
long-old form rest old = rw old

-- the record that is taken is a whole one
pub long-from-whole :
    (form : ℕ) (rest : List ℕ) → length_from form rest ≤ length rest →
    length (long_from form rest) ≡ span_of (long_from form rest)
unfolding long_from
long-from-whole form rest h = go (eqb form old_form) h
  where
    taken : Bool → List ℕ
    taken o = cond o (long_of (take (cond o old_length (span_of rest)) rest)) (take (cond o old_length (span_of rest)) rest)

    go : (o : Bool) → cond o old_length (span_of rest) ≤ length rest → length (taken o) ≡ span_of (taken o)
    go true l =
        let long = length-take-le old_length rest l in
        long_of-long (take old_length rest) long ∙ sym (old-span (take old_length rest) long)
    go false l = length-take-le (span_of rest) rest l ∙ sym (span-own rest)

-- ---- counts

-- the first m, and k more behind them
pub counts-split : (m k : ℕ) (s : List ℕ) → counts (m + k) s ≡ counts m s ++ counts k (drop (2 * m) s)
unfolding counts
counts-split zero k s =
    let e : 0 + k ≡ k = omega arith in
    rw e
counts-split (suc m) k s =
    let e : suc m + k ≡ suc (m + k) = omega arith in
    let d : 2 * suc m ≡ 2 + 2 * m = omega arith in
    rw (e, d)
    (ap (λ (l : List ℕ). two s 0 ∷ l)
    (counts-split m k (drop 2 s)
    ∙ ap (λ (r : List ℕ). counts m (drop 2 s) ++ counts k r) (drop-drop (2 * m) 2 s)))

-- m counts are in their own bytes, whatever stands behind these
pub counts-front :
    (m : ℕ) (s r : List ℕ) → 2 * m ≤ length s → counts m (take (2 * m) s ++ r) ≡ counts m s
unfolding counts
counts-front zero s r l = refl
counts-front (suc m) [] r l = absurd (omega arith)
counts-front (suc m) (a ∷ []) r l = absurd (omega arith)
counts-front (suc m) (a ∷ b ∷ s) r l =
    let e : 2 * suc m ≡ suc (suc (2 * m)) = omega arith in
    rw e (ap (λ (t : List ℕ). (a + b * 256) ∷ t) (counts-front m s r (omega arith)))

pub counts-zeros : (k : ℕ) (r : List ℕ) → counts k (replicate (2 * k) 0 ++ r) ≡ replicate k 0
unfolding counts
counts-zeros zero r = refl
counts-zeros (suc k) r =
    let e : 2 * suc k ≡ suc (suc (2 * k)) = omega arith in
    rw e (ap (λ (t : List ℕ). 0 ∷ t) (counts-zeros k r))

-- m counts, and zeros for k more
pub counts-padded :
    (m k : ℕ) (s r : List ℕ) → 2 * m ≤ length s →
    counts (m + k) (take (2 * m) s ++ (replicate (2 * k) 0 ++ r)) ≡ counts m s ++ replicate k 0
counts-padded m k s r room =
    let tail = replicate (2 * k) 0 ++ r in
    counts-split m k (take (2 * m) s ++ tail)
    ∙ ap₂ (λ (x y : List ℕ). x ++ y) (counts-front m s tail room)
    (ap (counts k) (drop_at (take (2 * m) s) tail (2 * m) (length-take-le (2 * m) s room)) ∙ counts-zeros k r)

-- ---- the edit in an old record

-- its fields, read where an old record has them, with zeros for the entries that its vector lacks; it lists nothing
abbrev pub old_edit : List ℕ → Edit
old_edit b =
    record {
      kind = get_or b kind_at 0;
      site = record { 0 = get_or b site_at 0 };
      seq = record { 0 = two b seq_at };
      vector = counts old_sites (drop vector_at b) ++ replicate (most_sites - old_sites) 0;
      tsite = record { 0 = get_or b (target_at - lacking) 0 };
      key = get_or b (key_at - lacking) 0;
      tseq = record { 0 = two b (target_seq_at - lacking) };
      value = four b (value_at - lacking);
      count = 0;
      members = replicate most_members 0;
    }

-- bytes that have a record's fields where it has them
read-so :
    (b w : List ℕ) → ((i : ℕ) → i < old_end → get_or w i 0 ≡ get_or b i 0) →
    ((i : ℕ) → get_or w (target_at + i) 0 ≡ get_or b (old_end + i) 0) →
    counts most_sites (drop vector_at w) ≡ (old_edit b).vector → limits w ≡ false → decode_of w ≡ old_edit b
read-so b w f g v plain =
    rw (
      v,
      plain,
      fours-none most_members (drop members_at w),
      f kind_at (lit< tt),
      f site_at (lit< tt),
      f seq_at (lit< tt),
      f (seq_at + 1) (lit< tt),
      g 0,
      g 1,
      g 2,
      g 3,
      g 4,
      g 5,
      g 6,
      g 7,
    )

module _ (b : List ℕ) (long : length b ≡ old_length) where
  end-inside : old_end ≤ length b
  end-inside = omega arith

  widened-behind : (i : ℕ) → get_or (widened b) (target_at + i) 0 ≡ get_or b (old_end + i) 0
  widened-behind i =
      let front = take old_end b ++ replicate lacking 0 in
      let long : length front ≡ target_at =
      length-append (take old_end b) (replicate lacking 0) ∙ rw (length-take-le old_end b end-inside) in
      let from : drop target_at (widened b) ≡ drop old_end b =
      ap (drop target_at) (sym (append_assoc (take old_end b) (replicate lacking 0) (drop old_end b)))
      ∙ drop_at front (drop old_end b) target_at long in
      sym (get_or-drop target_at (widened b) i 0) ∙ ap (λ (s : List ℕ). get_or s i 0) from ∙ get_or-drop old_end b i 0

  pub widened-vector :
      counts most_sites (drop vector_at (widened b))
      ≡ counts old_sites (drop vector_at b) ++ replicate (most_sites - old_sites) 0
  widened-vector =
      let own = drop vector_at b in
      let tail = replicate lacking 0 ++ drop old_end b in
      let from : drop vector_at (widened b) ≡ take (2 * old_sites) own ++ tail =
      drop-append-le vector_at (take old_end b) tail (omega (arith, length-take-le old_end b end-inside))
      ∙ ap (λ (l : List ℕ). l ++ tail) (drop-take vector_at (2 * old_sites) b (omega arith)) in
      ap (counts most_sites) from
      ∙ counts-padded old_sites (most_sites - old_sites) own (drop old_end b) (simp length-drop (omega arith))

  pub widened-edit : has_old_form (get_or b kind_at 0) ≡ true → decode_of (widened b) ≡ old_edit b
  widened-edit old =
      let f : (i : ℕ) → i < old_end → get_or (widened b) i 0 ≡ get_or b i 0 = λ i l. widened-before b i end-inside l in
      read-so b (widened b) f widened-behind widened-vector
      (rw (f kind_at (lit< tt)) (old-plain (get_or b kind_at 0) old))

-- ---- answer 1 of an old record

-- a test that nothing passes from m on looks at the first m alone
some-front :
    (m k : ℕ) (f : ℕ → Bool) → ((i : ℕ) → m ≤ i → f i ≡ false) → some (m + k) f ≡ some m f
unfolding some
some-front m zero f h =
    let e : m + 0 ≡ m = omega arith in
    rw e
some-front m (suc k) f h =
    let e : m + suc k ≡ suc (m + k) = omega arith in
    rw (e, some-front m k f h, h (m + k) (omega arith)) (or-false (some m f))

zero-behind : (v : List ℕ) (k i : ℕ) → length v ≤ i → get_or (v ++ replicate k 0) i 0 ≡ 0
zero-behind v k i l =
    let j = i - length v in
    let e : length v + j ≡ i = omega arith in
    rw (← e) (get_or-append-add v (replicate k 0) j 0 ∙ zero-anywhere k j)

-- no entry past the eighth is looked at, since they are zeros
pub old-test :
    (b : List ℕ) → length b ≡ old_length → (n : ℕ) →
    nonzero_past n (decode_of (widened b)).vector ≡ some old_sites (is_past n (counts old_sites (drop vector_at b)))
unfolding nonzero_past
old-test b long n =
    let v = counts old_sites (drop vector_at b) in
    let w = v ++ replicate (most_sites - old_sites) 0 in
    let own : length v ≡ old_sites = counts-length old_sites (drop vector_at b) in
    ap (λ (u : List ℕ). some most_sites (is_past n u)) (widened-vector b long)
    ∙ some-front old_sites (most_sites - old_sites) (is_past n w)
    (λ i l. rw (zero-behind v (most_sites - old_sites) i (omega arith)) (and-false (leb n i)))
    ∙ some_same old_sites (is_past n w) (is_past n v)
    (λ i l. ap (λ (x : ℕ). leb n i && not (eqb x 0))
    (get_or-append v (replicate (most_sites - old_sites) 0) 0 i (omega arith)))
