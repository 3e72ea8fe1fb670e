-- Sets by their names: what a name tells, and which of some Sets have one, by the sum of their numbers. Assumes
-- nothing.
use mathlib.Core.Path.{◌≡◌, refl, sym, ap, subst, ◌∙◌}
use mathlib.Core.Logic.{◌⊎◌, inl, inr}
use mathlib.Core.Bool.{Bool, true, false, cond}
use mathlib.Core.List.{List}
use Prim.Native.Nat.{ℕ, zero, suc, ◌+◌, ◌-◌, ◌*◌, ◌^◌, ◌≤◌, ◌<◌}
use native.Mathlib.Omega.{arith}
use native.Mathlib.Numerals.{add-one}
use lib.Dec.{eqb}
use lib.ListN.{length, get_or, drop}
use lib.Pow.{pow_pos, pow-lt}
use borrow.Author.Tests.{eq-eqb, ne_eqb, eqb-true}
use Rattle.math_lists.specs.NumbersBelow.{sum, mask}
use Rattle.math_lists.proofs.Booleans.{same_test, both, and-on}
use Rattle.math_maximal.specs.Groups.{bit}
use Rattle.math_maximal.proofs.Bits.{bit-none, bit-power}
use Rattle.math_maximal.proofs.Masks.{mask-bit}
use Rattle.edit_record.specs.declared.Edit.{Edit}
use Rattle.edit_record.specs.Layout.{two_bytes, most_members, count_at, members_at}
use Rattle.edit_record.specs.RecordBytes.{two, four, limits, decode_of}
use Rattle.edit_record.proofs.FoursInBytes.{four-drop, fours-length, fours-at, fours-past}
use Rattle.edit_causal.specs.Causal.{same_edit, comes_before}
use Rattle.edit_causal.specs.Conflict.{do_conflict}
use Rattle.edit_causal.proofs.CausalLaws.{conflict-symmetric}
use Rattle.edit_history.proofs.EditsInPlaces.{sets-length, set-place}
use Rattle.group_true.proofs.ProperSets.{seen-agrees}
use Rattle.group_context.proofs.MaskFromBits.{is-mask}
use Rattle.group_sight.specs.SightForms.{sets_in, NameOf, NamesOf, NamesIn}
use Rattle.group_sight.specs.SightForms.{found, sum_of_name, marks_of_name}

pub name-is :
    (e : Edit) (s q : ℕ) → s ≡ e.site.0 → q ≡ e.seq.0 → s < 256 → q < two_bytes → NameOf (s * two_bytes + q) e
name-is e s q es eq ls lq = record {
  whole = rw (es, eq);
  site = omega (arith, es);
  seq = omega (arith, eq);
}

-- the names of the Sets in the first places
pub names-there :
    (rs ps : List ℕ) (k : ℕ) → k ≤ length ps → (ns : List ℕ) → NamesIn rs ps k ns → NamesOf ns (sets_in rs ps k)
names-there rs ps k fits ns named i l =
    let m : i < k = omega (arith, sets-length rs ps k fits) in
    subst (NameOf (get_or ns i 0)) (sym (set-place rs ps k fits i m)) (named i m)

-- two Sets of one name are one edit
pub same_name :
    (x y : ℕ) (a b : Edit) → NameOf x a → NameOf y b → eqb x y ≡ same_edit a.site a.seq b.site b.seq
same_name x y a b n m =
    same_test (eqb x y) (same_edit a.site a.seq b.site b.seq)
    (λ h. let e = eqb-true x y h in
    and-on (eqb a.site.0 b.site.0) (eqb a.seq.0 b.seq.0)
    (eq-eqb a.site.0 b.site.0 (omega (arith, e, n.site, m.site)))
    (eq-eqb a.seq.0 b.seq.0 (omega (arith, e, n.seq, m.seq))))
    (λ h. let (s, q) = both (eqb a.site.0 b.site.0) (eqb a.seq.0 b.seq.0) h in
    let es = eqb-true a.site.0 b.site.0 s in
    let eq = eqb-true a.seq.0 b.seq.0 q in
    eq-eqb x y (omega (arith, n.whole, m.whole, es, eq)))

-- a Set conflicts with none that its author had seen
pub seen-never-conflicts : (a b : Edit) → comes_before a b ≡ true → do_conflict a b ≡ false
seen-never-conflicts a b h = conflict-symmetric a b ∙ seen-agrees b a h

-- ---- those that pass, by the sum of their numbers

module _ (f : ℕ → Bool) where
  abbrev numbers : ℕ → ℕ
  numbers n = sum n (λ i. cond (f i) (found + i) 0)

  at_least : (n : ℕ) → (numbers n ≡ 0) ⊎ (found ≤ numbers n)
  unfolding sum
  at_least zero = inl refl
  at_least (suc n) = go (f n) (at_least n)
    where
      go : (b : Bool) → (numbers n ≡ 0) ⊎ (found ≤ numbers n) →
          (numbers n + cond b (found + n) 0 ≡ 0) ⊎ (found ≤ numbers n + cond b (found + n) 0)
      go true h = inr (omega arith)
      go false (inl h) = inl (omega arith)
      go false (inr h) = inr (omega arith)

  pub none_found : (n : ℕ) → numbers n ≡ 0 → mask n f ≡ 0
  unfolding sum mask
  none_found zero h = refl
  none_found (suc n) h = go (f n) h (none_found n)
    where
      go : (b : Bool) → numbers n + cond b (found + n) 0 ≡ 0 → (numbers n ≡ 0 → mask n f ≡ 0) →
          mask n f + cond b (2 ^ n) 0 ≡ 0
      go true k before = absurd (omega arith)
      go false k before = let none = before (omega arith) in omega (arith, none)

  -- where there is one, this is its number
  pub one_found :
      (n : ℕ) → (numbers n ≡ 0 → ⊥) → numbers n < 2 * found →
      (mask n f ≡ 2 ^ (numbers n - found)) × (found ≤ numbers n) × (numbers n - found < n)
  unfolding sum mask
  one_found zero some few = absurd (some refl)
  one_found (suc n) some few = go (f n) (at_least n) some few (one_found n)
    where
      go : (b : Bool) → (numbers n ≡ 0) ⊎ (found ≤ numbers n) → (numbers n + cond b (found + n) 0 ≡ 0 → ⊥) →
          numbers n + cond b (found + n) 0 < 2 * found →
          ((numbers n ≡ 0 → ⊥) → numbers n < 2 * found →
          (mask n f ≡ 2 ^ (numbers n - found)) × (found ≤ numbers n) × (numbers n - found < n)) →
          (mask n f + cond b (2 ^ n) 0 ≡ 2 ^ (numbers n + cond b (found + n) 0 - found))
          × (found ≤ numbers n + cond b (found + n) 0)
          × (numbers n + cond b (found + n) 0 - found < suc n)
      go true (inl h) s l before =
          let none = none_found n h in
          let here : numbers n + (found + n) - found ≡ n = omega arith in
          (omega (arith, none, ap (λ (k : ℕ). 2 ^ k) here), omega arith, omega arith)
      go true (inr h) s l before = absurd (omega arith)
      go false h s l before =
          let (own, up, low) = before (λ z. s (omega (arith, z))) (omega arith) in
          let same : numbers n + 0 - found ≡ numbers n - found = omega arith in
          (omega (arith, own, ap (λ (k : ℕ). 2 ^ k) same), omega (arith, up), omega (arith, low))

-- ---- one name more

module _ (ns : List ℕ) (x i : ℕ) where
  pub sum-found : get_or ns i 0 ≡ x → sum_of_name ns i x + (found + i) ≡ sum_of_name ns (i + 1) x
  unfolding sum_of_name sum
  sum-found h = rw (add-one i, eq-eqb (get_or ns i 0) x h)

  pub sum-skipped : (get_or ns i 0 ≡ x → ⊥) → sum_of_name ns i x ≡ sum_of_name ns (i + 1) x
  unfolding sum_of_name sum
  sum-skipped h = rw (add-one i, ne_eqb (get_or ns i 0) x h) (omega arith)

-- the first k of m names, by the sum over all of them
module _ (ns : List ℕ) (k m x : ℕ) (few : k ≤ m) where
  abbrev hit : ℕ → Bool
  hit i = eqb (get_or ns i 0) x

  those : (g : ℕ) → mask m hit ≡ g → (j : ℕ) → j < k → bit g j ≡ hit j
  those g e j l = ap (λ (y : ℕ). bit y j) (sym e) ∙ mask-bit m hit j (omega arith)

  pub none-marked-by-sum : sum_of_name ns m x ≡ 0 → 0 ≡ marks_of_name ns k x
  unfolding sum_of_name
  none-marked-by-sum h = is-mask k 0 hit (pow_pos k) (those 0 (none_found hit m h))

  pub one-marked-by-sum :
      (sum_of_name ns m x ≡ 0 → ⊥) → sum_of_name ns m x < 2 * found →
      (found ≤ sum_of_name ns m x)
      × (sum_of_name ns m x - found < m)
      × (sum_of_name ns m x - found < k → 2 ^ (sum_of_name ns m x - found) ≡ marks_of_name ns k x)
      × (k ≤ sum_of_name ns m x - found → 0 ≡ marks_of_name ns k x)
  unfolding sum_of_name
  one-marked-by-sum some one =
      let (own, up, low) = one_found hit m some one in
      let p = sum_of_name ns m x - found in (
        up,
        low,
        λ l. is-mask k (2 ^ p) hit (pow-lt l) (those (2 ^ p) own),
        λ l. is-mask k 0 hit (pow_pos k) (λ j q. bit-none j
            ∙ sym (sym (those (2 ^ p) own j q) ∙ bit-power p j ∙ ne_eqb j p (λ z. omega arith))),
      )

-- ---- the members of a limited Set, where they stand

module _ (s : List ℕ) (i : ℕ) (limited : limits s ≡ true) where
  pub member-there :
      i < most_members → i < two s count_at → four s (members_at + 4 * i) ≡ get_or (decode_of s).members i 0
  member-there l m =
      rw limited
      (sym (fours-at most_members (two s count_at) (drop members_at s) i l m ∙ four-drop members_at s (4 * i)))

  pub member-past : two s count_at ≤ i → 0 ≡ get_or (decode_of s).members i 0
  member-past l = rw limited (sym (fours-past most_members (two s count_at) (drop members_at s) i l))

pub count-there : (s : List ℕ) → limits s ≡ true → four s count_at ≡ (decode_of s).count
count-there s limited = rw limited

pub members-length : (s : List ℕ) → length (decode_of s).members ≡ most_members
members-length s = fours-length most_members (cond (limits s) (two s count_at) 0) (drop members_at s)
