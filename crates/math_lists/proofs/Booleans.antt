-- Tests put together and taken apart. What a test of two numbers says is in the kit, `borrow.Author.Tests`.
-- Assumes nothing.
use mathlib.Core.Path.{◌≡◌, refl, sym, ◌∙◌}
use mathlib.Core.Bool.{Bool, true, false, not, ◌&&◌, ◌||◌, and_comm, or_assoc, or_comm, beq}
use mathlib.Core.Logic.{◌⊎◌, inl, inr}
use Prim.Native.Nat.{ℕ}
use native.Mathlib.Omega.{arith}
use lib.Dec.{eqb}
use borrow.Author.Tests.{eqb-true, eq-eqb}

-- ---- one test

pub clash : {A : Type 0} {b : Bool} → b ≡ true → b ≡ false → A
clash {A} p q = let z : ◌≡◌ {A = ℕ} 0 1 = cc in absurd (omega arith)

pub decide : (b : Bool) → (b ≡ true) ⊎ (b ≡ false)
decide true = inl refl
decide false = inr refl

pub off : (b : Bool) → (b ≡ true → ⊥) → b ≡ false
off true h = absurd (h refl)
off false h = refl

-- two tests that hold together are one
pub same_test : (a b : Bool) → (a ≡ true → b ≡ true) → (b ≡ true → a ≡ true) → a ≡ b
same_test true b f g = sym (f refl)
same_test false true f g = g refl
same_test false false f g = refl

-- ---- both, either, neither

pub both : (a b : Bool) → (a && b) ≡ true → (a ≡ true) × (b ≡ true)
both true b h = (refl, h)
both false b h = clash h refl

pub and-on : (a b : Bool) → a ≡ true → b ≡ true → (a && b) ≡ true
and-on a b p q = rw (p, q)

pub either : (a b : Bool) → (a || b) ≡ true → (a ≡ true) ⊎ (b ≡ true)
either true b h = inl refl
either false b h = inr h

pub or_left : (a b : Bool) → a ≡ true → (a || b) ≡ true
or_left a b h = rw h

pub or_right : (a b : Bool) → b ≡ true → (a || b) ≡ true
or_right true b h = refl
or_right false b h = h

pub neither : (a b : Bool) → (a || b) ≡ false → (a ≡ false) × (b ≡ false)
neither true b h = clash refl h
neither false b h = (refl, h)

pub then-off : (a b : Bool) → a ≡ true → (a && b) ≡ false → b ≡ false
then-off true b e h = h
then-off false b e h = clash e refl

pub off-where : (a b : Bool) → (a ≡ true → b ≡ false) → (a && b) ≡ false
off-where true b h = h refl
off-where false b h = refl

pub or_off : (a b : Bool) → a ≡ false → b ≡ false → (a || b) ≡ false
or_off a b p q = rw (p, q)

pub and-true : (b : Bool) → (b && true) ≡ b
and-true true = refl
and-true false = refl

pub or-false : (b : Bool) → (b || false) ≡ b
or-false true = refl
or-false false = refl

pub or-true : (b : Bool) → (b || true) ≡ true
or-true true = refl
or-true false = refl

pub not-not : (b : Bool) → b ≡ not (not b)
not-not true = refl
not-not false = refl

-- the first two of three tests change places
pub or_swap : (a b c : Bool) → (a || (b || c)) ≡ (b || (a || c))
or_swap a b c = sym (or_assoc a b c) ∙ rw (or_comm a b) (or_assoc b a c)

-- the last two of three tests change places
pub and-turn : (a b c : Bool) → (a && b && c) ≡ (a && c && b)
and-turn true b c = and_comm b c
and-turn false b c = refl

-- ---- two tests that agree

pub beq-on : (a b : Bool) → a ≡ b → beq a b ≡ true
beq-on true b e = rw (← e)
beq-on false b e = rw (← e)

pub beq-eq : (a b : Bool) → beq a b ≡ true → a ≡ b
beq-eq true true h = refl
beq-eq true false h = sym h
beq-eq false true h = h
beq-eq false false h = refl

-- ---- equal numbers

pub eqb-self : (n : ℕ) → eqb n n ≡ true
eqb-self n = eq-eqb n n refl

pub eqb_comm : (m n : ℕ) → eqb m n ≡ eqb n m
eqb_comm m n =
    same_test (eqb m n) (eqb n m) (λ h. eq-eqb n m (sym (eqb-true m n h))) (λ h. eq-eqb m n (sym (eqb-true n m h)))
