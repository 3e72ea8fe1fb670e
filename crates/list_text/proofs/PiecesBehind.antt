-- What stands at the front of a buffer after bytes were put behind it, and pieces put one after another.
-- Assumes nothing.
use mathlib.Core.Path.{◌≡◌, ap, ◌∙◌}
use mathlib.Core.List.{List, [], ◌∷◌, ◌++◌, append_assoc}
use Prim.Native.Nat.{ℕ, zero, suc, ◌+◌, ◌-◌, ◌/◌, ◌%◌, ◌≤◌, ◌<◌}
use native.Mathlib.Nat.{le_refl}
use native.Mathlib.Numerals.{add-one}
use native.Mathlib.Omega.{arith}
use lib.ListN.{length, get_or, take, drop, set, length-set}
use lib.Seq.{take-suc, take-suc-set, take_all, take-add, take-set-le, set_split, drop_at, length-take-le}
use Rattle.list_text.specs.Decimal.{zero_digit, decimal}
use Rattle.list_text.proofs.OneDecimal.{decimal-one, decimal-more, length-one}

-- ---- bytes

pub one_byte : (s : List ℕ) (n b : ℕ) → n < length s → take (n + 1) (set s n b) ≡ take n s ++ (b ∷ [])
one_byte s n b h = rw add-one (take-suc-set s n b h)

-- one more of the bytes of s behind the first n of d
pub byte_more :
    (d o s : List ℕ) (n i : ℕ) → n + i < length o → i < length s → take (n + i) o ≡ take n d ++ take i s →
    take (n + (i + 1)) (set o (n + i) (get_or s i 0)) ≡ take n d ++ take (i + 1) s
byte_more d o s n i ho hs e =
    let next : n + (i + 1) ≡ suc (n + i) = omega arith in
    rw (next, take-suc-set o (n + i) (get_or s i 0) ho, e, add-one, take-suc s i 0 hs)
    (append_assoc (take n d) (take i s) (get_or s i 0 ∷ []))

pub all-bytes :
    (d o s : List ℕ) (n i : ℕ) → length s ≤ i → take (n + i) o ≡ take n d ++ take i s → take (n + i) o ≡ take n d ++ s
all-bytes d o s n i l e = e ∙ ap (λ (x : List ℕ). take n d ++ x) (take_all i s l)

-- ---- a decimal, from its last digit to its first

-- a byte stored before others that stand
byte-before :
    (o : List ℕ) (i k b : ℕ) → i < length o → take (suc k) (drop i (set o i b)) ≡ b ∷ take k (drop (suc i) o)
byte-before o i k b h =
    rw (set_split o i b h, drop_at (take i o) (b ∷ drop (suc i) o) i (length-take-le i o (omega arith)))

-- of the digits d those of left are not put yet; the others stand from i to the end
pub digit-before :
    (d o : List ℕ) (i end left : ℕ) → 10 ≤ left → 0 < i → i ≤ end → i ≤ length o →
    d ≡ decimal left ++ take (end - i) (drop i o) →
    d ≡ decimal (left / 10) ++ take (end - (i - 1)) (drop (i - 1) (set o (i - 1) (zero_digit + left % 10)))
digit-before d o zero end left ten some low room e = absurd (omega arith)
digit-before d o (suc i) end left ten some low room e =
    let last = zero_digit + left % 10 in
    let back : suc i - 1 ≡ i = omega arith in
    let more : end - i ≡ suc (end - suc i) = omega arith in
    e ∙ rw (back, more, byte-before o i (end - suc i) last (omega arith), decimal-more left ten)
    (append_assoc (decimal (left / 10)) (last ∷ []) (take (end - suc i) (drop (suc i) o)))

-- two of them at once
pub two-before :
    (d o : List ℕ) (i end left : ℕ) → 100 ≤ left → 1 < i → i ≤ end → i ≤ length o →
    d ≡ decimal left ++ take (end - i) (drop i o) →
    d ≡ decimal (left / 100) ++ take (end - (i - 2)) (drop (i - 2)
    (set (set o (i - 1) (zero_digit + left % 100 % 10)) (i - 2) (zero_digit + left % 100 / 10)))
two-before d o i end left many some low room e =
    let last = zero_digit + left % 10 in
    let rest : left / 100 ≡ left / 10 / 10 = omega arith in
    let back : i - 2 ≡ i - 1 - 1 = omega arith in
    let one : left % 100 % 10 ≡ left % 10 = omega arith in
    let next : left % 100 / 10 ≡ left / 10 % 10 = omega arith in
    rw (rest, back, one, next)
    (digit-before d (set o (i - 1) last) (i - 1) end (left / 10) (omega arith) (omega arith) (omega arith)
    (rw (length-set o (i - 1) last) (omega arith))
    (digit-before d o i end left (omega arith) (omega arith) low room e))

pub first-digit :
    (d s o : List ℕ) (n i end left : ℕ) → left < 10 → i ≡ n + length (decimal left) → i ≤ end → i ≤ length o →
    take n o ≡ take n s → d ≡ decimal left ++ take (end - i) (drop i o) →
    take end (set o n (zero_digit + left)) ≡ take n s ++ d
first-digit d s o n i end left one at low room front e =
    let first = zero_digit + left in
    let next : i ≡ suc n = omega (arith, length-one left one) in
    let whole : end ≡ n + suc (end - suc n) = omega arith in
    let rest = take (end - suc n) (drop (suc n) o) in
    let digits : d ≡ first ∷ rest
    = e ∙ rw (decimal-one left one, next) in
    ap (λ (k : ℕ). take k (set o n first)) whole
    ∙ take-add n (suc (end - suc n)) (set o n first)
    ∙ rw (take-set-le n o n first (le_refl n), byte-before o n (end - suc n) first (omega arith), front, digits)

-- ---- pieces, one after another

pub two : (x a b : List ℕ) {y z : List ℕ} → y ≡ x ++ a → z ≡ y ++ b → z ≡ x ++ (a ++ b)
two x a b {y} {z} e f = f ∙ ap (λ (l : List ℕ). l ++ b) e ∙ append_assoc x a b

pub three :
    (x a b c : List ℕ) {y z w : List ℕ} → y ≡ x ++ a → z ≡ y ++ b → w ≡ z ++ c → w ≡ x ++ (a ++ (b ++ c))
three x a b c {y} {z} {w} e f g = two x a (b ++ c) e (two y b c f g)

pub four :
    (x a b c d : List ℕ) {y z w v : List ℕ} → y ≡ x ++ a → z ≡ y ++ b → w ≡ z ++ c → v ≡ w ++ d →
    v ≡ x ++ (a ++ (b ++ (c ++ d)))
four x a b c d {y} {z} {w} {v} e f g h = two x a (b ++ (c ++ d)) e (three y b c d f g h)

pub five :
    (x a b c d e : List ℕ) {y z w v u : List ℕ} → y ≡ x ++ a → z ≡ y ++ b → w ≡ z ++ c → v ≡ w ++ d → u ≡ v ++ e →
    u ≡ x ++ (a ++ (b ++ (c ++ (d ++ e))))
five x a b c d e {y} f g h i j = two x a (b ++ (c ++ (d ++ e))) f (four y b c d e g h i j)

-- four words with a number each, and an end
pub laid :
    (a b c d e f g h i : List ℕ) →
    (a ++ b) ++ ((c ++ d) ++ ((e ++ f) ++ ((g ++ h) ++ i))) ≡ a ++ b ++ c ++ d ++ e ++ f ++ g ++ h ++ i
laid a b c d e f g h i = simp append_assoc
