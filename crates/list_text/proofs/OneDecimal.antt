-- The computed decimal is a decimal, and the only one: the two definitions of `Decimal` agree. Assumes nothing.
use mathlib.Core.Path.{◌≡◌, refl, sym, ap, ap₂, subst, ◌∙◌}
use mathlib.Core.Bool.{cond}
use mathlib.Core.List.{List, [], ◌∷◌, ◌++◌}
use Prim.Native.Nat.{ℕ, zero, suc, ◌+◌, ◌*◌, ◌-◌, ◌/◌, ◌%◌, ◌^◌, ◌≤◌, ◌<◌}
use native.Mathlib.Nat.{pow-suc, le_refl}
use native.Mathlib.Omega.{arith}
use native.Mathlib.Decide.{dec_lt}
use borrow.Author.Tests.{lt-ltb, le-ltb}
use lib.Dec.{ltb}
use lib.ListN.{length, get_or, length-append, get_or-append}
use Rattle.list_text.specs.Decimal.{zero_digit, Digits, value_from, IsDecimal, last_digits, decimal}

-- ---- one digit more at the end

value-snoc : (a d : ℕ) (l : List ℕ) → value_from a (l ++ (d ∷ [])) ≡ value_from a l * 10 + (d - zero_digit)
value-snoc a d [] = refl
value-snoc a d (x ∷ l) = value-snoc (a * 10 + (x - zero_digit)) d l

digits-snoc : (d : ℕ) (l : List ℕ) → Digits l → zero_digit ≤ d → d < zero_digit + 10 → Digits (l ++ (d ∷ []))
digits-snoc d [] a h k = (h, k, tt)
digits-snoc d (x ∷ l) (p, q, a) h k = (p, q, digits-snoc d l a h k)

zero-alone : (l : List ℕ) → length l ≡ 1 → get_or l 0 0 ≡ zero_digit → value_from 0 l ≡ 0
zero-alone [] h e = refl
zero-alone (x ∷ []) h e = let k : x ≡ zero_digit = e in omega arith
zero-alone (x ∷ y ∷ l) h e = absurd (omega arith)

one-digit : (m : ℕ) → m < 10 → IsDecimal m ((zero_digit + m) ∷ [])
one-digit m h =
    record {
      some = omega arith;
      digits = (omega arith, omega arith, tt);
      value = omega arith;
      no_leading_zero = λ e. refl;
    }

digit-more :
    (m : ℕ) (l : List ℕ) → 10 ≤ m → IsDecimal (m / 10) l → IsDecimal m (l ++ ((zero_digit + m % 10) ∷ []))
digit-more m l h d =
    let some = d.some in
    let value = d.value in
    let last = zero_digit + m % 10 in
    let long : length (l ++ (last ∷ [])) ≡ length l + 1 = length-append l (last ∷ []) in
    record {
      some = omega arith;
      digits = digits-snoc last l d.digits (omega arith) (omega arith);
      value = value-snoc 0 last l ∙ rw value (omega arith);
      no_leading_zero = λ e.
          let first : get_or l 0 0 ≡ zero_digit = sym (get_or-append l (last ∷ []) 0 0 some) ∙ e in
          let none : value_from 0 l ≡ 0 = zero-alone l (d.no_leading_zero first) first in
          absurd (omega arith);
    }

-- ---- the computed digits are a decimal

room : (f m : ℕ) → 10 ≤ m → m < 10 ^ suc f → (0 < f) × (m / 10 < 10 ^ f)
room zero m k h = absurd (omega arith)
room (suc f) m k h = (omega arith, omega (arith, pow-suc 10 (suc f)))

last_digits_lem : (f m : ℕ) → 0 < f → m < 10 ^ f → IsDecimal m (last_digits f m)
unfolding last_digits
last_digits_lem zero m p h = absurd (omega arith)
last_digits_lem (suc f) m p h = go (dec_lt m 10) (last_digits_lem f (m / 10))
  where
    go : Dec (m < 10) → (0 < f → m / 10 < 10 ^ f → IsDecimal (m / 10) (last_digits f (m / 10))) →
        IsDecimal m (cond (ltb m 10) ((zero_digit + m) ∷ []) (last_digits f (m / 10) ++ ((zero_digit + m % 10) ∷ [])))
    go (yes k) ih = rw (lt-ltb m 10 k) (one-digit m k)
    go (no k) ih =
        let (some, fits) = room f m (omega arith) h in
        rw (le-ltb m 10 (omega arith)) (digit-more m (last_digits f (m / 10)) (omega arith) (ih some fits))

enough : (m : ℕ) → m < 10 ^ suc m
enough zero = omega arith
enough (suc m) = omega (arith, enough m, pow-suc 10 (suc m))

pub is-decimal : (m : ℕ) → IsDecimal m (decimal m)
unfolding decimal
is-decimal m = last_digits_lem (suc m) m (omega arith) (enough m)

-- ---- and no other list is

abbrev Ending : List ℕ → Type 0
Ending l = (k : List ℕ) × (d : ℕ) × (l ≡ k ++ (d ∷ []))

ending : (x : ℕ) (l : List ℕ) → Ending (x ∷ l)
ending x [] = ([], x, refl)
ending x (y ∷ l) = let (k, d, e) = ending y l in (x ∷ k, d, ap (λ (t : List ℕ). x ∷ t) e)

digits-split : (d : ℕ) (k : List ℕ) → Digits (k ++ (d ∷ [])) → Digits k × (zero_digit ≤ d) × (d < zero_digit + 10)
digits-split d [] (p, q, a) = (tt, p, q)
digits-split d (x ∷ k) (p, q, a) = let (b, h, l) = digits-split d k a in ((p, q, b), h, l)

grows : (a : ℕ) (l : List ℕ) → a ≤ value_from a l
grows a [] = omega arith
grows a (x ∷ l) = omega (arith, grows (a * 10 + (x - zero_digit)) l)

-- a decimal of one digit, and one of more, by its last digit
alone : (m d : ℕ) → IsDecimal m (d ∷ []) → (d ≡ zero_digit + m % 10) × (m < 10)
alone m d i =
    let (p, q, a) = i.digits in
    let v = i.value in
    (omega arith, omega arith)

longer :
    (m d x : ℕ) (k : List ℕ) → IsDecimal m (x ∷ k ++ (d ∷ [])) →
    (d ≡ zero_digit + m % 10) × (10 ≤ m) × IsDecimal (m / 10) (x ∷ k)
longer m d x k i =
    let (a, p, q) = digits-split d (x ∷ k) i.digits in
    let first = 0 * 10 + (x - zero_digit) in
    let v : value_from first k * 10 + (d - zero_digit) ≡ m = sym (value-snoc first d k) ∙ i.value in
    let long : length (k ++ (d ∷ [])) ≡ length k + 1 = length-append k (d ∷ []) in
    let no : x ≡ zero_digit → ⊥ = λ e. omega (arith, i.no_leading_zero e) in
    let g = grows first k in (
      omega arith,
      omega (arith, a.0),
      record { some = omega arith; digits = a; value = omega arith; no_leading_zero = λ z. absurd (no z) },
    )

abbrev Same : ℕ → ℕ → Type 0
Same f m = (l k : List ℕ) → length l ≤ f → IsDecimal m l → IsDecimal m k → l ≡ k

same-snoc :
    (f m d b : ℕ) (l k : List ℕ) → length l ≤ f → Same f (m / 10) → IsDecimal m (l ++ (d ∷ [])) →
    IsDecimal m (k ++ (b ∷ [])) → l ++ (d ∷ []) ≡ k ++ (b ∷ [])
same-snoc f m d b [] [] h ih i j = rw ((alone m d i).0, (alone m b j).0)
same-snoc f m d b [] (y ∷ k) h ih i j =
    let low = (alone m d i).1 in
    absurd (omega (arith, (longer m b y k j).1))
same-snoc f m d b (x ∷ l) [] h ih i j =
    let low = (alone m b j).1 in
    absurd (omega (arith, (longer m d x l i).1))
same-snoc f m d b (x ∷ l) (y ∷ k) h ih i j =
    let (p, t, i') = longer m d x l i in
    let (q, u, j') = longer m b y k j in
    ap₂ (λ (s : List ℕ) (z : ℕ). s ++ (z ∷ [])) (ih (x ∷ l) (y ∷ k) h i' j') (p ∙ sym q)

same-within : (f m : ℕ) → Same f m
same-within zero m l k h i j = absurd (omega (arith, i.some))
same-within (suc f) m [] k h i j = absurd (omega (arith, i.some))
same-within (suc f) m (x ∷ l) [] h i j = absurd (omega (arith, j.some))
same-within (suc f) m (x ∷ l) (y ∷ k) h i j =
    let (l', d, e) = ending x l in
    let (k', b, r) = ending y k in
    let long : length (x ∷ l) ≡ length l' + 1 = ap length e ∙ length-append l' (d ∷ []) in
    e
    ∙ same-snoc f m d b l' k' (omega arith) (same-within f (m / 10)) (subst (λ (t : List ℕ). IsDecimal m t) e i)
    (subst (λ (t : List ℕ). IsDecimal m t) r j)
    ∙ sym r

pub one-decimal : (m : ℕ) (l k : List ℕ) → IsDecimal m l → IsDecimal m k → l ≡ k
one-decimal m l k i j = same-within (length l) m l k (le_refl (length l)) i j

pub only-decimal : (m : ℕ) (l : List ℕ) → IsDecimal m l → l ≡ decimal m
only-decimal m l i = one-decimal m l (decimal m) i (is-decimal m)

-- where the last f digits are all, they may be computed instead
pub all_digits : (f m : ℕ) → 0 < f → m < 10 ^ f → decimal m ≡ last_digits f m
all_digits f m p h = sym (only-decimal m (last_digits f m) (last_digits_lem f m p h))

-- ---- so the decimal of a number is that of its tenth with one digit more

pub decimal-one : (m : ℕ) → m < 10 → decimal m ≡ (zero_digit + m) ∷ []
decimal-one m h = sym (only-decimal m ((zero_digit + m) ∷ []) (one-digit m h))

pub decimal-more : (m : ℕ) → 10 ≤ m → decimal m ≡ decimal (m / 10) ++ ((zero_digit + m % 10) ∷ [])
decimal-more m h =
    let tenth = decimal (m / 10) in
    sym (only-decimal m (tenth ++ ((zero_digit + m % 10) ∷ [])) (digit-more m tenth h (is-decimal (m / 10))))

-- ---- and how many digits there are

pub length-one : (m : ℕ) → m < 10 → length (decimal m) ≡ 1
length-one m h = ap length (decimal-one m h)

pub length_more : (m : ℕ) → 10 ≤ m → length (decimal m) ≡ length (decimal (m / 10)) + 1
length_more m h =
    ap length (decimal-more m h) ∙ length-append (decimal (m / 10)) ((zero_digit + m % 10) ∷ [])

-- a number below 10 ^ f has at most f digits
pub digits-fit : (f m : ℕ) → 0 < f → m < 10 ^ f → length (decimal m) ≤ f
digits-fit zero m p h = absurd (omega arith)
digits-fit (suc f) m p h = go (dec_lt m 10) (digits-fit f (m / 10))
  where
    go : Dec (m < 10) → (0 < f → m / 10 < 10 ^ f → length (decimal (m / 10)) ≤ f) → length (decimal m) ≤ suc f
    go (yes k) ih = omega (arith, length-one m k)
    go (no k) ih =
        let (some, fits) = room f m (omega arith) h in
        omega (arith, ih some fits, length_more m (omega arith))

ten-some : (f : ℕ) → 0 < 10 ^ f
ten-some zero = omega arith
ten-some (suc f) = omega (arith, ten-some f)

-- from the f-th power of ten on a number has more than f digits
pub digits-many : (f m : ℕ) → 10 ^ f ≤ m → f < length (decimal m)
digits-many zero m l = (is-decimal m).some
digits-many (suc f) m l =
    let some = ten-some f in
    omega (arith, length_more m (omega arith), digits-many f (m / 10) (omega arith))
