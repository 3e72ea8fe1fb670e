-- Sets as tests, and what it is to be conflict-free and maximal. `c i j` says that i and j conflict. E is the type of
-- the elements: places in the order of arrival, or edits themselves. Assumes nothing of c.
use Rattle.std.specs.Prelude.{◌≡◌, Bool, true, false, not, ◌&&◌, ◌||◌, ℕ, eqb}

infix 40 ◌∈◌
infix 40 ◌⊆◌
abbrev pub ◌∈◌ : {E : Type 0} → E → (E → Bool) → Type 0
◌∈◌ i P = P i ≡ true

abbrev pub ◌⊆◌ : {E : Type 0} → (E → Bool) → (E → Bool) → Type 0
◌⊆◌ {E} P Q = (i : E) → i ∈ P → i ∈ Q

-- P with x; P without the members of Q
unfoldable pub with : (ℕ → Bool) → ℕ → ℕ → Bool
with P x i = P i || eqb i x

unfoldable pub without : (ℕ → Bool) → (ℕ → Bool) → ℕ → Bool
without P Q i = P i && not (Q i)

module _ {E : Type 0} (c : E → E → Bool) where
  -- i conflicts with no member of P
  abbrev pub Fits : (E → Bool) → E → Type 0
  Fits P i = (j : E) → j ∈ P → c i j ≡ false

  -- P is a set of members of S that has no conflict inside
  pub record Free (S P : E → Bool) : Type 0 where
    pub within : P ⊆ S
    pub free : (i : E) → i ∈ P → Fits P i

  -- and it holds every member of S that conflicts with none of it
  pub record Maximal (S P : E → Bool) : Type 0 where
    pub is_free : Free S P
    pub full : (i : E) → i ∈ S → Fits P i → i ∈ P

-- The same in document 01's words: no conflict inside, and it can't be enlarged by another element.
pub record InWords (c : ℕ → ℕ → Bool) (S P : ℕ → Bool) : Type 0 where
  pub no_conflict_inside : Free c S P
  pub cant_be_enlarged : (i : ℕ) → i ∈ S → P i ≡ false → Free c S (with P i) → ⊥
