-- The members of a number gone through one after another: what is found of the rows of those that are gone, and which
-- are kept. Assumes nothing.
use mathlib.Core.Path.{◌≡◌, refl, sym, ap, ◌∙◌}
use mathlib.Core.Logic.{inl, inr}
use mathlib.Core.Bool.{Bool, true, false, not, ◌&&◌, ◌||◌}
use Prim.Native.Nat.{ℕ, ◌^◌, ◌<◌}
use native.Mathlib.Decide.{ℕ_discrete}
use lib.Bits.{bit_or}
use lib.Dec.{eqb}
use borrow.Author.Tests.{ne_eqb, eqb-true, not-true}
use Rattle.math_lists.specs.NumbersBelow.{some}
use Rattle.math_lists.proofs.Booleans.{clash, off, same_test, both, and-on, either, or_left, or_right}
use Rattle.math_lists.proofs.Booleans.{and-true, eqb-self}
use Rattle.math_lists.proofs.NumbersBelow.{some-on, some_at, some_same}
use Rattle.math_maximal.specs.Groups.{bit}
use Rattle.math_maximal.proofs.Bits.{bit-none, bit-or, bit-power}
use Rattle.math_maximal.proofs.OneMemberLess.{fewer, bit-fewer}
use Rattle.group_step.specs.GroupRows.{most_sets}

-- ---- what is found of them

-- j is a member of m that is not left
abbrev pub gone : ℕ → ℕ → ℕ → Bool
gone m left j = bit m j && not (bit left j)

-- of one that is gone, h holds
abbrev pub some_gone : ℕ → ℕ → (ℕ → Bool) → Bool
some_gone m left h = some most_sets (λ j. gone m left j && h j)

pub none-gone : (m : ℕ) (h : ℕ → Bool) → some_gone m m h ≡ false
none-gone m h =
    off (some_gone m m h) (λ t.
    let (j, l, p) = some_at most_sets (λ j. gone m m j && h j) t in
    let (g, _) = both (gone m m j) (h j) p in
    let (a, b) = both (bit m j) (not (bit m j)) g in
    clash a (not-true (bit m j) b))

pub all-gone : (m left : ℕ) (h : ℕ → Bool) → left ≡ 0 → some_gone m left h ≡ some most_sets (λ j. bit m j && h j)
all-gone m left h z =
    some_same most_sets (λ j. gone m left j && h j) (λ j. bit m j && h j)
    (λ j l. rw (z, bit-none j) (ap (λ (t : Bool). t && h j) (and-true (bit m j))))

-- one more is gone
module _ (m left i : ℕ) (few : i < most_sets) (here : bit left i ≡ true) (its : bit m i ≡ true) where
  gone-more : (j : ℕ) → gone m (fewer left i) j ≡ (gone m left j || eqb j i)
  gone-more j = elim (ℕ_discrete j i) [
    | yes e ↦ rw (e, bit-fewer left i i, here, its, eqb-self i)
    | no d ↦ rw (bit-fewer left i j, ne_eqb j i d) (kept (bit m j) (bit left j))
  ]
    where
      kept : (a b : Bool) → (a && not (b && true)) ≡ (a && not b || false)
      kept true true = refl
      kept true false = refl
      kept false b = refl

  pub some_more : (h : ℕ → Bool) → (some_gone m left h || h i) ≡ some_gone m (fewer left i) h
  some_more h =
      same_test (some_gone m left h || h i) (some_gone m (fewer left i) h)
      (λ t. elim (either (some_gone m left h) (h i) t) [
        | inl a ↦
            (let (j, l, p) = some_at most_sets (λ j. gone m left j && h j) a in
            let (g, q) = both (gone m left j) (h j) p in
            some-on most_sets (λ j. gone m (fewer left i) j && h j) j l
            (and-on (gone m (fewer left i) j) (h j) (gone-more j ∙ or_left (gone m left j) (eqb j i) g) q))
        | inr q ↦
            some-on most_sets (λ j. gone m (fewer left i) j && h j) i few
            (and-on (gone m (fewer left i) i) (h i) (gone-more i ∙ or_right (gone m left i) (eqb i i) (eqb-self i)) q)
      ])
      (λ t. let (j, l, p) = some_at most_sets (λ j. gone m (fewer left i) j && h j) t in
      let (g, q) = both (gone m (fewer left i) j) (h j) p in
      elim (either (gone m left j) (eqb j i) (sym (gone-more j) ∙ g)) [
        | inl a ↦
            or_left (some_gone m left h) (h i)
            (some-on most_sets (λ j. gone m left j && h j) j l (and-on (gone m left j) (h j) a q))
        | inr e ↦ or_right (some_gone m left h) (h i) (ap h (sym (eqb-true j i e)) ∙ q)
      ])

-- ---- which are kept

-- of the members of v that are gone, those of which h holds
abbrev pub is_kept : ℕ → ℕ → (ℕ → Bool) → ℕ → Bool
is_kept v left h j = gone v left j && h j

pub kept-first : (v : ℕ) (h : ℕ → Bool) (j : ℕ) → bit 0 j ≡ is_kept v v h j
kept-first v h j = bit-none j ∙ split (bit v j)
  where
    split : (a : Bool) → false ≡ (a && not a && h j)
    split true = refl
    split false = refl

pub kept-last : (v left : ℕ) (h : ℕ → Bool) (j : ℕ) → left ≡ 0 → is_kept v left h j ≡ (bit v j && h j)
kept-last v left h j z = rw (z, bit-none j) (ap (λ (t : Bool). t && h j) (and-true (bit v j)))

-- one more is gone: of it h holds, and it is kept
module _ (kept v left i : ℕ) (h : ℕ → Bool) (inv : (j : ℕ) → bit kept j ≡ is_kept v left h j) where
  pub one_kept :
      bit v i ≡ true → bit left i ≡ true → h i ≡ true → (j : ℕ) →
      bit (bit_or kept (2 ^ i)) j ≡ is_kept v (fewer left i) h j
  one_kept its here on j =
      bit-or kept (2 ^ i) j
      ∙ rw (inv j, bit-power i j, bit-fewer left i j)
      (elim (ℕ_discrete j i) [
        | yes e ↦ rw (e, eqb-self i, on, its, here)
        | no d ↦ rw (ne_eqb j i d) (others (bit v j) (bit left j) (h j))
      ])
    where
      others : (a b c : Bool) → ((a && not b) && c || false) ≡ ((a && not (b && not false)) && c)
      others true true c = refl
      others true false true = refl
      others true false false = refl
      others false b c = refl

  -- or it does not, and it is not
  pub one-passed : h i ≡ false → (j : ℕ) → bit kept j ≡ is_kept v (fewer left i) h j
  one-passed never j =
      inv j
      ∙ rw (bit-fewer left i j)
      (elim (ℕ_discrete j i) [
        | yes e ↦ rw (e, never) (own (gone v left i) (bit v i && not (bit left i && not (eqb i i))))
        | no d ↦ rw (ne_eqb j i d) (others (bit v j) (bit left j) (h j))
      ])
    where
      own : (a b : Bool) → (a && false) ≡ (b && false)
      own true true = refl
      own true false = refl
      own false true = refl
      own false false = refl

      others : (a b c : Bool) → ((a && not b) && c) ≡ ((a && not (b && not false)) && c)
      others a true c = refl
      others a false c = refl
