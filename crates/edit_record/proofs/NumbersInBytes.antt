-- Numbers in bytes: read one further, written and read back, read and written back. Stated over any number of counts.
-- Assumes nothing.
use mathlib.Core.Path.{◌≡◌, refl, ap, ap₂, ◌∙◌}
use mathlib.Core.List.{List, [], ◌∷◌, ◌++◌}
use Prim.Native.Nat.{ℕ, zero, suc, ◌+◌, ◌*◌, ◌/◌, ◌%◌, ◌≤◌, ◌<◌}
use native.Mathlib.Omega.{arith}
use lib.ListN.{length, get_or, take, drop}
use lib.Seq.{get_or-drop}
use Rattle.edit_record.specs.Layout.{most_sites, vector_at}
use Rattle.edit_record.specs.RecordBytes.{two, counts, count_bytes}

-- every element is a byte; every element is a count of two bytes
abbrev pub Bytes : List ℕ → Type 0
Bytes s = (i : ℕ) → get_or s i 0 < 256

abbrev pub Counts : List ℕ → Type 0
Counts v = (i : ℕ) → get_or v i 0 < 65536

-- ---- reading

pub two-drop : (k : ℕ) (s : List ℕ) (i : ℕ) → two (drop k s) i ≡ two s (k + i)
two-drop k s i =
    let e : k + (i + 1) ≡ k + i + 1 = omega arith in
    rw (get_or-drop k s i 0, get_or-drop k s (i + 1) 0, e)

-- one count more
pub counts-more : (n : ℕ) (s : List ℕ) → counts (suc n) s ≡ counts n s ++ (two s (2 * n) ∷ [])
unfolding counts
counts-more zero s = refl
counts-more (suc n) s =
    let e : 2 + 2 * n ≡ 2 * suc n = omega arith in
    ap (λ (l : List ℕ). two s 0 ∷ l)
    (counts-more n (drop 2 s)
    ∙ ap (λ (x : ℕ). counts n (drop 2 s) ++ (x ∷ [])) (two-drop 2 s (2 * n) ∙ ap (two s) e))

-- the i-th count
pub counts-at : (n : ℕ) (s : List ℕ) (i : ℕ) → i < n → get_or (counts n s) i 0 ≡ two s (2 * i)
unfolding counts
counts-at zero s i l = absurd (omega arith)
counts-at (suc n) s zero l = refl
counts-at (suc n) s (suc i) l =
    counts-at n (drop 2 s) i (omega arith) ∙ two-drop 2 s (2 * i) ∙ ap (two s) (omega arith)

-- the entry i of the vector of a record
pub entry-in-record :
    (s : List ℕ) (i : ℕ) → i < most_sites →
    get_or (counts most_sites (drop vector_at s)) i 0 ≡ two s (vector_at + 2 * i)
entry-in-record s i l = counts-at most_sites (drop vector_at s) i l ∙ two-drop vector_at s (2 * i)

pub counts-length : (n : ℕ) (s : List ℕ) → length (counts n s) ≡ n
unfolding counts
counts-length zero s = refl
counts-length (suc n) s = ap suc (counts-length n (drop 2 s))

pub bytes_drop : (k : ℕ) (s : List ℕ) → Bytes s → Bytes (drop k s)
bytes_drop k s h i = rw (get_or-drop k s i 0) (h (k + i))

pub two-below : (s : List ℕ) → Bytes s → (i : ℕ) → two s i < 65536
two-below s h i = omega (arith, h i, h (i + 1))

pub counts-below : (n : ℕ) (s : List ℕ) → Bytes s → Counts (counts n s)
unfolding counts
counts-below zero s h i = omega arith
counts-below (suc n) s h zero = two-below s h 0
counts-below (suc n) s h (suc i) = counts-below n (drop 2 s) (bytes_drop 2 s h) i

-- ---- written and read back

pub count-back : (n : ℕ) → n < 65536 → n % 256 + n / 256 % 256 * 256 ≡ n
count-back n h = omega arith

pub value-back : (n : ℕ) → n % 65536 + n / 65536 * 65536 ≡ n
value-back n = omega arith

pub counts-back : (v rest : List ℕ) → Counts v → counts (length v) (count_bytes v ++ rest) ≡ v
unfolding counts count_bytes
counts-back [] rest h = refl
counts-back (n ∷ v) rest h =
    ap₂ (λ (x : ℕ) (l : List ℕ). x ∷ l) (count-back n (h 0)) (counts-back v rest (λ i. h (suc i)))

pub count_bytes-length : (v : List ℕ) → length (count_bytes v) ≡ 2 * length v
unfolding count_bytes
count_bytes-length [] = refl
count_bytes-length (n ∷ v) = omega (arith, count_bytes-length v)

-- ---- read and written back

low : (a b : ℕ) → a < 256 → (a + b * 256) % 256 ≡ a
low a b h = omega arith

high : (a b : ℕ) → a < 256 → b < 256 → (a + b * 256) / 256 % 256 ≡ b
high a b h k = omega arith

-- the two bytes of the count in two bytes
two_bytes_lem :
    (a b : ℕ) (l : List ℕ) → a < 256 → b < 256 → (a + b * 256) % 256 ∷ (a + b * 256) / 256 % 256 ∷ l ≡ a ∷ b ∷ l
two_bytes_lem a b l h k = rw (low a b h, high a b h k)

pub low_half : (a b : ℕ) → a < 65536 → (a + b * 65536) % 65536 ≡ a
low_half a b h = omega arith

pub high_half : (a b : ℕ) → a < 65536 → (a + b * 65536) / 65536 ≡ b
high_half a b h = omega arith

pub bytes_back : (n : ℕ) (s : List ℕ) → 2 * n ≤ length s → Bytes s → count_bytes (counts n s) ≡ take (2 * n) s
unfolding counts count_bytes
bytes_back zero s l h = refl
bytes_back (suc n) [] l h = absurd (omega arith)
bytes_back (suc n) (a ∷ []) l h = absurd (omega arith)
bytes_back (suc n) (a ∷ b ∷ s) l h =
    let e : 2 * suc n ≡ suc (suc (2 * n)) = omega arith in
    rw e
    (two_bytes_lem a b (count_bytes (counts n s)) (h 0) (h 1)
    ∙ ap (λ (r : List ℕ). a ∷ b ∷ r) (bytes_back n s (omega arith) (λ i. h (suc (suc i)))))
