-- Words added up: one word more, one record more, words behind others, and words that are zero. Assumes nothing.
use Rattle.std.proofs.Common.{◌≡◌, ℕ, zero, suc, ◌+◌, ◌*◌, ◌^◌, ◌<◌, List, ◌++◌, length, get_or, drop, replicate, sym, refl, ap, ◌∙◌, ap₂, add_assoc, add-suc, zero-add, arith, drop_at}
use native.Mathlib.Nat.{mod-add-mod, add-mod-mod, add-mod}
use lib.ListN.{length-replicate, get_or-append}
use Rattle.math_lists.specs.NumbersBelow.{sum}
use Rattle.math_lists.proofs.NumbersBelow.{sum_same}
use Rattle.math_lists.proofs.ByPlaces.{zero-anywhere}
use Rattle.edit_record.specs.Layout.{place_length}
use Rattle.edit_record.specs.RecordBytes.{two}
use Rattle.edit_record.proofs.NumbersInBytes.{two-drop}
use Rattle.edit_sum.specs.WordSum.{word_length, record_words, word_at, wrapped, sum_of, words_at, sum_held}

-- ---- wrapped numbers

-- a number may be wrapped before another is added
pub wrapped-early : (a b : ℕ) → wrapped (wrapped a + b) ≡ wrapped (a + b)
wrapped-early a b = mod-add-mod a (2 ^ 32) b

pub both-early : (a b : ℕ) → wrapped (a + b) ≡ wrapped (wrapped a + wrapped b)
both-early a b = add-mod a b (2 ^ 32)

-- ---- one word more

pub sum_more : (n : ℕ) (s : List ℕ) → wrapped (sum_of n s + word_at s n) ≡ sum_of (suc n) s
unfolding sum_of sum
sum_more n s = wrapped-early (sum n (word_at s)) (word_at s n)

-- and one record
pub record-more :
    (n : ℕ) (rs : List ℕ) →
    let place = drop (n * place_length) rs in
    wrapped (sum_held n rs + sum_of (record_words place) place) ≡ sum_held (suc n) rs
unfolding sum_held sum_of sum
record-more n rs = sym (both-early (sum n (words_at rs)) (words_at rs n))

-- ---- words behind others

sum-add : (n m : ℕ) (f : ℕ → ℕ) → sum (n + m) f ≡ sum n f + sum m (λ i. f (n + i))
unfolding sum
sum-add n zero f =
    let e : n + 0 ≡ n = omega arith in
    ap (λ (k : ℕ). sum k f) e ∙ omega arith
sum-add n (suc m) f =
    rw (add-suc n m, sum-add n m f) (add_assoc (sum n f) (sum m (λ i. f (n + i))) (f (n + m)))

-- a word further on is a word of what is left
word-drop : (n : ℕ) (s : List ℕ) (i : ℕ) → word_at s (n + i) ≡ word_at (drop (n * word_length) s) i
word-drop n s i =
    let low : (n + i) * word_length ≡ n * word_length + i * word_length = omega arith in
    let high : (n + i) * word_length + 2 ≡ n * word_length + (i * word_length + 2) = omega arith in
    ap₂ (λ (a b : ℕ). a + b * 65536)
    (ap (two s) low ∙ sym (two-drop (n * word_length) s (i * word_length)))
    (ap (two s) high ∙ sym (two-drop (n * word_length) s (i * word_length + 2)))

pub words-add :
    (n m : ℕ) (s : List ℕ) → sum (n + m) (word_at s) ≡ sum n (word_at s) + sum m (word_at (drop (n * word_length) s))
words-add n m s =
    sum-add n m (word_at s)
    ∙ ap (λ (x : ℕ). sum n (word_at s) + x) (sum_same m _ _ (λ i l. word-drop n s i))

-- the words of bytes behind n words
words-behind :
    (n m : ℕ) (a b : List ℕ) → length a ≡ n * word_length →
    sum (n + m) (word_at (a ++ b)) ≡ sum n (word_at a) + sum m (word_at b)
words-behind n m a b h =
    words-add n m (a ++ b)
    ∙ ap₂ (λ (x y : ℕ). x + y)
    (sum_same n _ _ (λ i l. front i l))
    (ap (λ (s : List ℕ). sum m (word_at s)) (drop_at a b (n * word_length) h))
  where
    byte : (j : ℕ) → j < n * word_length → get_or (a ++ b) j 0 ≡ get_or a j 0
    byte j l = get_or-append a b 0 j (omega (arith, h))

    front : (i : ℕ) → i < n → word_at (a ++ b) i ≡ word_at a i
    front i l =
        rw (
          byte (i * word_length) (omega arith),
          byte (i * word_length + 1) (omega arith),
          byte (i * word_length + 2) (omega arith),
          byte (i * word_length + 2 + 1) (omega arith),
        )

-- the sum of bytes one behind the other is the wrapped sum of the two
pub sums-behind :
    (n m : ℕ) (a b : List ℕ) → length a ≡ n * word_length → sum_of (n + m) (a ++ b) ≡ wrapped (sum_of n a + sum_of m b)
unfolding sum_of
sums-behind n m a b h =
    ap wrapped (words-behind n m a b h) ∙ both-early (sum n (word_at a)) (sum m (word_at b))

-- ---- zeros

zeros-sum : (k l : ℕ) → sum_of k (replicate l 0) ≡ 0
unfolding sum_of sum
zeros-sum k l = ap wrapped (go k)
  where
    go : (k : ℕ) → ◌≡◌ {A = ℕ} (sum k (word_at (replicate l 0))) 0
    go zero = refl
    go (suc k) =
        rw (
          go k,
          zero-anywhere l (k * word_length),
          zero-anywhere l (k * word_length + 1),
          zero-anywhere l (k * word_length + 2),
          zero-anywhere l (k * word_length + 2 + 1),
        )

-- zeros that are put in at a word's boundary, behind n words and before m, leave the sum as it is
pub zeros-add-nothing :
    (n k m : ℕ) (a b : List ℕ) → length a ≡ n * word_length →
    sum_of (n + (k + m)) (a ++ (replicate (k * word_length) 0 ++ b)) ≡ sum_of (n + m) (a ++ b)
zeros-add-nothing n k m a b h =
    sums-behind n (k + m) a (replicate (k * word_length) 0 ++ b) h
    ∙ ap (λ (x : ℕ). wrapped (sum_of n a + x))
    (sums-behind k m (replicate (k * word_length) 0) b (length-replicate {A = ℕ} (k * word_length) 0)
    ∙ ap (λ (x : ℕ). wrapped (x + sum_of m b)) (zeros-sum k (k * word_length))
    ∙ ap wrapped (zero-add (sum_of m b)))
    ∙ add-mod-mod (sum_of n a) (sum_of m b) (2 ^ 32)
    ∙ sym (sums-behind n m a b h)
