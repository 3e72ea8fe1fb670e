-- An edit is decoded from a record's own bytes alone, a whole record's fields among them: bytes that agree so far give
-- the same edit. Assumes nothing.
use mathlib.Core.Path.{◌≡◌, refl, sym, ap, ◌∙◌}
use mathlib.Core.Bool.{Bool, true, false, cond}
use mathlib.Core.Logic.{inl, inr}
use mathlib.Core.List.{List, ◌∷◌, ◌++◌}
use Prim.Native.Nat.{ℕ, zero, suc, ◌+◌, ◌*◌, ◌≤◌, ◌<◌}
use native.Mathlib.Omega.{arith}
use lib.Dec.{lit<}
use lib.ListN.{length, get_or, take, drop, get_or-append}
use lib.Seq.{get_or-drop, get_or-take}
use borrow.Author.Tests.{eq-eqb, ne_eqb}
use Rattle.math_lists.proofs.Booleans.{decide}
use Rattle.edit_record.specs.Layout.{most_sites, vector_at, target_at, value_at, record_length, place_length}
use Rattle.edit_record.specs.Layout.{count_at, members_at, member_length, most_members, kind_at, limited_kind}
use Rattle.edit_record.specs.RecordBytes.{two, four, counts, first_fours, limits, decode_of, span_of}

-- the first n elements are the same
abbrev pub Agree : ℕ → List ℕ → List ℕ → Type 0
Agree n s t = (i : ℕ) → i < n → get_or s i 0 ≡ get_or t i 0

pub agree-drop : (k n : ℕ) (s t : List ℕ) → Agree (k + n) s t → Agree n (drop k s) (drop k t)
agree-drop k n s t h i l = get_or-drop k s i 0 ∙ h (k + i) (omega arith) ∙ sym (get_or-drop k t i 0)

pub agree-append : (n : ℕ) (s r : List ℕ) → n ≤ length s → Agree n (s ++ r) s
agree-append n s r l i k = get_or-append s r 0 i (omega arith)

counts-agree : (n : ℕ) (s t : List ℕ) → Agree (2 * n) s t → counts n s ≡ counts n t
unfolding counts
counts-agree zero s t h = refl
counts-agree (suc n) s t h =
    let a = h 0 (omega arith) in
    let b = h 1 (omega arith) in
    let rest = counts-agree n (drop 2 s) (drop 2 t) (agree-drop 2 (2 * n) s t (λ i l. h i (omega arith))) in
    rw (a, b, rest)

-- the elements that are among the first n and among the first m are the same
abbrev AgreeBoth : ℕ → ℕ → List ℕ → List ℕ → Type 0
AgreeBoth n m s t = (i : ℕ) → i < n → i < m → get_or s i 0 ≡ get_or t i 0

agree-both-drop :
    (k n m : ℕ) (s t : List ℕ) → AgreeBoth (k + n) (k + m) s t → AgreeBoth n m (drop k s) (drop k t)
agree-both-drop k n m s t h i l o =
    get_or-drop k s i 0 ∙ h (k + i) (omega arith) (omega arith) ∙ sym (get_or-drop k t i 0)

fours-agree : (n k : ℕ) (s t : List ℕ) → AgreeBoth (4 * n) (4 * k) s t → first_fours n k s ≡ first_fours n k t
unfolding first_fours
fours-agree zero k s t h = refl
fours-agree (suc n) zero s t h = ap (λ (l : List ℕ). 0 ∷ l) (fours-agree n zero s t (λ i l m. absurd (omega arith)))
fours-agree (suc n) (suc k) s t h =
    let a = h 0 (omega arith) (omega arith) in
    let b = h 1 (omega arith) (omega arith) in
    let c = h 2 (omega arith) (omega arith) in
    let d = h 3 (omega arith) (omega arith) in
    let rest = fours-agree n k (drop 4 s) (drop 4 t)
    (agree-both-drop 4 (4 * n) (4 * k) s t (λ i l m. h i (omega arith) (omega arith))) in
    rw (a, b, c, d, rest)

-- ---- the record

pub span-least : (s : List ℕ) → record_length ≤ span_of s
unfolding span_of
span-least s = go (limits s)
  where
    go : (b : Bool) → record_length ≤ cond b (members_at + two s count_at * member_length) record_length
    go true = omega arith
    go false = omega arith

-- how far the record of a limited Set goes
pub span-limited : (s : List ℕ) → limits s ≡ true → span_of s ≡ members_at + two s count_at * member_length
unfolding span_of
span-limited s h = rw h

-- by a byte that is the kind's
pub limits-on : (s : List ℕ) (b : ℕ) → b ≡ get_or s kind_at 0 → b ≡ limited_kind → limits s ≡ true
limits-on s b e h = eq-eqb (get_or s kind_at 0) limited_kind (omega arith)

pub limits-off : (s : List ℕ) (b : ℕ) → b ≡ get_or s kind_at 0 → (b ≡ limited_kind → ⊥) → limits s ≡ false
limits-off s b e h = ne_eqb (get_or s kind_at 0) limited_kind (λ k. h (omega arith))

pub span-plain : (s : List ℕ) → limits s ≡ false → span_of s ≡ record_length
unfolding span_of
span-plain s h = rw h

-- what it lists: a member past the last that a place has room for is not read
listed-agree :
    (s t : List ℕ) → AgreeBoth (span_of s) place_length s t →
    (cond (limits s) (four s count_at) 0 ≡ cond (limits t) (four t count_at) 0)
    × (first_fours most_members (cond (limits s) (two s count_at) 0) (drop members_at s)
    ≡ first_fours most_members (cond (limits t) (two t count_at) 0) (drop members_at t))
listed-agree s t h = rw (← (h 0 (omega (arith, span-least s)) (lit< tt))) (elim (decide (limits s)) [
  | inl on ↦
      let w = span-limited s on in
      let k = two s count_at in
      let e0 = h count_at (omega arith) (lit< tt) in
      let e1 = h (count_at + 1) (omega arith) (lit< tt) in
      let e2 = h (count_at + 2) (omega arith) (lit< tt) in
      let e3 = h (count_at + 3) (omega arith) (lit< tt) in
      let m = fours-agree most_members k (drop members_at s) (drop members_at t)
      (agree-both-drop members_at (4 * most_members) (4 * k) s t (λ i l o. h i (omega arith) (omega arith))) in
      rw on (rw (e0, e1, e2, e3), rw (← e0, ← e1) m)
  | inr off ↦
      rw off (refl, fours-agree most_members 0 (drop members_at s) (drop members_at t) (λ i l o. absurd (omega arith)))
])

decode-both : (s t : List ℕ) → AgreeBoth (span_of s) place_length s t → decode_of s ≡ decode_of t
decode-both s t h =
    let g : Agree record_length s t = λ i l. h i (omega (arith, span-least s)) (omega arith) in
    let v : counts most_sites (drop vector_at s) ≡ counts most_sites (drop vector_at t)
    = counts-agree most_sites (drop vector_at s) (drop vector_at t)
    (agree-drop vector_at (2 * most_sites) s t (λ i l. g i (omega arith))) in
    let (c, m) = listed-agree s t h in
    rw (
      v,
      c,
      m,
      g 0 (lit< tt),
      g 1 (lit< tt),
      g 2 (lit< tt),
      g 3 (lit< tt),
      g target_at (lit< tt),
      g (target_at + 1) (lit< tt),
      g (target_at + 2) (lit< tt),
      g (target_at + 3) (lit< tt),
      g value_at (lit< tt),
      g (value_at + 1) (lit< tt),
      g (value_at + 2) (lit< tt),
      g (value_at + 3) (lit< tt),
    )

pub decode-agree : (s t : List ℕ) → Agree (span_of s) s t → decode_of s ≡ decode_of t
decode-agree s t h = decode-both s t (λ i l m. h i l)

-- and nothing past a place is read, whatever stands in it
pub decode-place : (s t : List ℕ) → Agree place_length s t → decode_of s ≡ decode_of t
decode-place s t h = decode-both s t (λ i l m. h i m)

-- as where a record is taken by itself
pub decode-own : (s : List ℕ) → decode_of (take (span_of s) s) ≡ decode_of s
decode-own s = sym (decode-agree s (take (span_of s) s) (λ i l. sym (get_or-take (span_of s) s i 0 l)))
