-- Numbers of four bytes: read one further, each at its place, written and read back, read and written back. Stated
-- over any number of them. Assumes nothing.
use mathlib.Core.Path.{◌≡◌, refl, sym, ap, ◌∙◌}
use mathlib.Core.List.{List, [], ◌∷◌, ◌++◌}
use Prim.Native.Nat.{ℕ, zero, suc, ◌+◌, ◌*◌, ◌/◌, ◌%◌, ◌^◌, ◌≤◌, ◌<◌, min}
use native.Mathlib.Omega.{arith}
use native.Mathlib.Decide.{dec_lt}
use lib.ListN.{length, get_or, set, take, drop, replicate}
use lib.Seq.{ext_get_or}
use Rattle.edit_record.specs.RecordBytes.{two, four, counts, count_bytes, first_fours, four_bytes}
use Rattle.edit_record.proofs.NumbersInBytes.{Bytes, two-drop, two-below, bytes_drop, count-back, value-back}
use Rattle.edit_record.proofs.NumbersInBytes.{low_half, high_half, bytes_back}

-- every element is a number of four bytes
abbrev pub Fours : List ℕ → Type 0
Fours v = (i : ℕ) → get_or v i 0 < 2 ^ 32

-- ---- reading

pub four-drop : (k : ℕ) (s : List ℕ) (i : ℕ) → four (drop k s) i ≡ four s (k + i)
four-drop k s i =
    let e : k + (i + 2) ≡ k + i + 2 = omega arith in
    rw (two-drop k s i, two-drop k s (i + 2), e)

pub four_below : (s : List ℕ) → Bytes s → (i : ℕ) → four s i < 2 ^ 32
four_below s h i = omega (arith, two-below s h i, two-below s h (i + 2))

-- none are zeros
pub fours-none : (n : ℕ) (s : List ℕ) → first_fours n 0 s ≡ replicate n 0
unfolding first_fours
fours-none zero s = refl
fours-none (suc n) s = ap (λ (l : List ℕ). 0 ∷ l) (fours-none n s)

-- one more
pub fours-more :
    (n i : ℕ) (s : List ℕ) → i < n → set (first_fours n i s) i (four s (4 * i)) ≡ first_fours n (suc i) s
unfolding first_fours
fours-more zero i s l = absurd (omega arith)
fours-more (suc n) zero s l = ap (λ (r : List ℕ). four s 0 ∷ r) (fours-none n s ∙ sym (fours-none n (drop 4 s)))
fours-more (suc n) (suc i) s l =
    let e : 4 * suc i ≡ 4 + 4 * i = omega arith in
    ap (λ (r : List ℕ). four s 0 ∷ r)
    (ap (λ (x : ℕ). set (first_fours n i (drop 4 s)) i x) (ap (four s) e ∙ sym (four-drop 4 s (4 * i)))
    ∙ fours-more n i (drop 4 s) (omega arith))

-- more than n are no more than n
pub fours-most : (n k : ℕ) (s : List ℕ) → n ≤ k → first_fours n k s ≡ first_fours n n s
unfolding first_fours
fours-most zero k s l = refl
fours-most (suc n) zero s l = absurd (omega arith)
fours-most (suc n) (suc k) s l = ap (λ (r : List ℕ). four s 0 ∷ r) (fours-most n k (drop 4 s) (omega arith))

pub fours-min : (n k : ℕ) (s : List ℕ) → first_fours n (min k n) s ≡ first_fours n k s
fours-min n k s = go (dec_lt n k)
  where
    go : Dec (n < k) → first_fours n (min k n) s ≡ first_fours n k s
    go (yes h) =
        let e : min k n ≡ n = omega arith in
        ap (λ (j : ℕ). first_fours n j s) e ∙ sym (fours-most n k s (omega arith))
    go (no h) =
        let e : min k n ≡ k = omega arith in
        ap (λ (j : ℕ). first_fours n j s) e

pub fours-length : (n k : ℕ) (s : List ℕ) → length (first_fours n k s) ≡ n
unfolding first_fours
fours-length zero k s = refl
fours-length (suc n) zero s = ap suc (fours-length n zero s)
fours-length (suc n) (suc k) s = ap suc (fours-length n k (drop 4 s))

-- each at its place, and 0 past the last
pub fours-at : (n k : ℕ) (s : List ℕ) (i : ℕ) → i < n → i < k → get_or (first_fours n k s) i 0 ≡ four s (4 * i)
unfolding first_fours
fours-at zero k s i l m = absurd (omega arith)
fours-at (suc n) zero s i l m = absurd (omega arith)
fours-at (suc n) (suc k) s zero l m = refl
fours-at (suc n) (suc k) s (suc i) l m =
    let e : 4 + 4 * i ≡ 4 * suc i = omega arith in
    fours-at n k (drop 4 s) i (omega arith) (omega arith) ∙ four-drop 4 s (4 * i) ∙ ap (four s) e

pub fours-past : (n k : ℕ) (s : List ℕ) (i : ℕ) → k ≤ i → get_or (first_fours n k s) i 0 ≡ 0
unfolding first_fours
fours-past zero k s i l = refl
fours-past (suc n) zero s zero l = refl
fours-past (suc n) zero s (suc i) l = fours-past n zero s i (omega arith)
fours-past (suc n) (suc k) s zero l = absurd (omega arith)
fours-past (suc n) (suc k) s (suc i) l = fours-past n k (drop 4 s) i (omega arith)

pub fours-below : (n k : ℕ) (s : List ℕ) → Bytes s → Fours (first_fours n k s)
unfolding first_fours
fours-below zero k s h i = omega arith
fours-below (suc n) zero s h zero = omega arith
fours-below (suc n) zero s h (suc i) = fours-below n zero s h i
fours-below (suc n) (suc k) s h zero = four_below s h 0
fours-below (suc n) (suc k) s h (suc i) = fours-below n k (drop 4 s) (bytes_drop 4 s h) i

-- ---- written

pub four_bytes-append : (v w : List ℕ) → four_bytes (v ++ w) ≡ four_bytes v ++ four_bytes w
unfolding four_bytes count_bytes
four_bytes-append [] w = refl
four_bytes-append (n ∷ v) w = rw (four_bytes-append v w)

pub four_bytes-length : (v : List ℕ) → length (four_bytes v) ≡ 4 * length v
unfolding four_bytes count_bytes
four_bytes-length [] = refl
four_bytes-length (n ∷ v) = omega (arith, four_bytes-length v)

pub four_bytes-zeros : (n : ℕ) → four_bytes (replicate n 0) ≡ replicate (4 * n) 0
unfolding four_bytes count_bytes
four_bytes-zeros zero = refl
four_bytes-zeros (suc n) =
    let e : 4 * suc n ≡ suc (suc (suc (suc (4 * n)))) = omega arith in
    rw (e, four_bytes-zeros n)

-- ---- written and read back

four-back : (n : ℕ) → n < 2 ^ 32
    → n % 65536 % 256 + n % 65536 / 256 % 256 * 256 + (n / 65536 % 256 + n / 65536 / 256 % 256 * 256) * 65536 ≡ n
four-back n h = rw (count-back (n % 65536) (omega arith), count-back (n / 65536) (omega arith)) (value-back n)

pub fours-back :
    (v rest : List ℕ) (i : ℕ) → get_or v i 0 < 2 ^ 32 → i < length v → four (four_bytes v ++ rest) (4 * i) ≡ get_or v i 0
unfolding four_bytes count_bytes
fours-back [] rest i h l = absurd (omega arith)
fours-back (n ∷ v) rest zero h l = four-back n h
fours-back (n ∷ v) rest (suc i) h l =
    let s = four_bytes (n ∷ v) ++ rest in
    let e : 4 * suc i ≡ 4 + 4 * i = omega arith in
    ap (four s) e ∙ sym (four-drop 4 s (4 * i)) ∙ fours-back v rest i h (omega arith)

-- the low half of the first
pub half_back : (n : ℕ) (v rest : List ℕ) → two (four_bytes (n ∷ v) ++ rest) 0 ≡ n % 65536
unfolding four_bytes count_bytes
half_back n v rest = count-back (n % 65536) (omega arith)

-- what stands at each place, and zeros past the last
pub fours-are :
    (n k : ℕ) (s m : List ℕ) → length m ≡ n → ((i : ℕ) → i < n → i < k → four s (4 * i) ≡ get_or m i 0) →
    ((i : ℕ) → k ≤ i → get_or m i 0 ≡ 0) → first_fours n k s ≡ m
fours-are n k s m long at past =
    ext_get_or 0 (first_fours n k s) m (fours-length n k s ∙ sym long) (λ i l. elim (dec_lt i k) [
      | yes b ↦
          let c : i < n = omega (arith, fours-length n k s) in
          fours-at n k s i c b ∙ at i c b
      | no b ↦ fours-past n k s i (omega arith) ∙ sym (past i (omega arith))
    ])

-- ---- read and written back

pub fours-kept :
    (n k : ℕ) (s : List ℕ) → k ≤ n → 4 * k ≤ length s → Bytes s →
    four_bytes (take k (first_fours n k s)) ≡ take (4 * k) s
unfolding first_fours four_bytes counts
fours-kept n zero s l m h = refl
fours-kept zero (suc k) s l m h = absurd (omega arith)
fours-kept (suc n) (suc k) [] l m h = absurd (omega arith)
fours-kept (suc n) (suc k) (a ∷ []) l m h = absurd (omega arith)
fours-kept (suc n) (suc k) (a ∷ b ∷ []) l m h = absurd (omega arith)
fours-kept (suc n) (suc k) (a ∷ b ∷ x ∷ []) l m h = absurd (omega arith)
fours-kept (suc n) (suc k) (a ∷ b ∷ x ∷ y ∷ s) l m h =
    let t = a ∷ b ∷ x ∷ y ∷ s in
    let e : 4 * suc k ≡ suc (suc (suc (suc (4 * k)))) = omega arith in
    let below = two-below t h 0 in
    let front : count_bytes (four t 0 % 65536 ∷ four t 0 / 65536 ∷ []) ≡ a ∷ b ∷ x ∷ y ∷ []
    = rw (low_half (two t 0) (two t 2) below, high_half (two t 0) (two t 2) below)
    (bytes_back 2 t (omega arith) h) in
    rw (e, front)
    (ap (λ (r : List ℕ). a ∷ b ∷ x ∷ y ∷ r) (fours-kept n k s (omega arith) (omega arith) (bytes_drop 4 t h)))
