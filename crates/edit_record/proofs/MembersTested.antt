-- The tests of a list's members, one by one. Assumes nothing.
use mathlib.Core.Path.{◌≡◌, refl, ap₂}
use mathlib.Core.Bool.{Bool, true, false, not, ◌&&◌, ◌||◌}
use mathlib.Core.List.{List}
use Prim.Native.Nat.{ℕ, zero, suc, ◌+◌, ◌-◌, ◌/◌, ◌%◌, ◌≤◌, ◌<◌}
use native.Mathlib.Omega.{arith}
use native.Mathlib.Numerals.{add-one}
use native.Mathlib.Decide.{dec_lt}
use lib.ListN.{get_or}
use lib.Dec.{eqb, leb, ltb}
use borrow.Author.Tests.{le-ltb, lt-ltb, ne_eqb}
use Rattle.math_lists.specs.NumbersBelow.{some}
use Rattle.math_lists.proofs.Booleans.{clash, same_test}
use Rattle.math_lists.proofs.NumbersBelow.{some_at, some-on}
use Rattle.edit_record.specs.Layout.{most_members}
use Rattle.edit_record.specs.declared.Edit.{Edit}
use Rattle.edit_record.specs.Answer1.{name_in, list_unfit}

-- the zero byte of member i is none
abbrev pub has_wrong_byte : List ℕ → ℕ → Bool
has_wrong_byte m i = not (eqb (get_or m i 0 / 256 % 256) 0)

-- a member below count follows member i, and its name is no larger
abbrev pub is_out_of_order : ℕ → List ℕ → ℕ → Bool
is_out_of_order count m i = ltb (i + 1) count && leb (name_in (get_or m (i + 1) 0)) (name_in (get_or m i 0))

-- behind the last member no more is to be tested
pub none-behind :
    (count i : ℕ) (m : List ℕ) → i ≤ most_members → count ≤ i + 1
    → some i (is_out_of_order count m) ≡ some most_members (is_out_of_order count m)
none-behind count i m l k =
    same_test (some i f) (some most_members f)
    (λ h. let (j, a, on) = some_at i f h in some-on most_members f j (omega arith) on)
    (λ h. let (j, a, on) = some_at most_members f h in elim (dec_lt j i) [
      | yes b ↦ some-on i f j b on
      | no b ↦ clash on (rw (le-ltb (j + 1) count (omega arith)))
    ])
  where
    f : ℕ → Bool
    f = is_out_of_order count m

-- behind it no zero byte is wrong
none-wrong-behind :
    (count : ℕ) (m : List ℕ) → count ≤ most_members → ((i : ℕ) → count ≤ i → get_or m i 0 ≡ 0) →
    some count (has_wrong_byte m) ≡ some most_members (has_wrong_byte m)
none-wrong-behind count m l past =
    same_test (some count f) (some most_members f)
    (λ h. let (j, a, on) = some_at count f h in some-on most_members f j (omega arith) on)
    (λ h. let (j, a, on) = some_at most_members f h in elim (dec_lt j count) [
      | yes b ↦ some-on count f j b on
      | no b ↦ clash on (rw (past j (omega arith)))
    ])
  where
    f : ℕ → Bool
    f = has_wrong_byte m

-- ---- both tests in one pass

-- one of the first i members has a wrong zero byte, or its name is no larger than that of the one before it
abbrev pub is_wrong_among : ℕ → List ℕ → ℕ → Bool
is_wrong_among count m i = some i (has_wrong_byte m) || some (i - 1) (is_out_of_order count m)

-- one member more, where `last` is the name of the one before it
pub wrong-more :
    (count i : ℕ) (m : List ℕ) (last : ℕ) → i < count → (0 < i → last ≡ name_in (get_or m (i - 1) 0)) →
    ((is_wrong_among count m i || has_wrong_byte m i) || not (eqb i 0) && leb (name_in (get_or m i 0)) last)
    ≡ is_wrong_among count m (suc i)
unfolding some
wrong-more count zero m last l e = refl
wrong-more count (suc i) m last l e =
    let next : suc (suc i) - 1 ≡ suc i = omega arith in
    let before : suc i - 1 ≡ i = omega arith in
    let on = lt-ltb (i + 1) count (omega arith) in
    let behind = ne_eqb (suc i) 0 (λ z. omega arith) in
    rw (next, e (omega arith), before, on, behind, add-one)
    (turned (some i (has_wrong_byte m) || has_wrong_byte m i)
    (some i (is_out_of_order count m)) (has_wrong_byte m (suc i)) (leb (name_in (get_or m (suc i) 0)) (name_in (get_or m i 0))))
  where
    turned : (a b z o : Bool) → (((a || b) || z) || o) ≡ ((a || z) || (b || o))
    turned true b z o = refl
    turned false true true o = refl
    turned false true false o = refl
    turned false false z o = refl

-- of all of them the definition says the same
pub wrong-all :
    (count : ℕ) (e : Edit) → count ≤ most_members → e.count ≡ count →
    ((i : ℕ) → count ≤ i → get_or e.members i 0 ≡ 0) → is_wrong_among count e.members count ≡ list_unfit e
unfolding list_unfit
wrong-all count e l its past =
    rw (its, le-ltb most_members count l)
    (ap₂ (λ (p q : Bool). p || q) (none-wrong-behind count e.members l past)
    (none-behind count (count - 1) e.members (omega arith) (omega arith)))
