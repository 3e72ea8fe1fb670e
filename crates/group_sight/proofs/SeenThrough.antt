-- Which of the Sets ms the author of e had seen, gone through from some number of them down: with one that he had seen,
-- all that its author had seen is known. Then what conflicts with e of the others. Assumes nothing.
use mathlib.Core.Path.{◌≡◌, refl, sym, ◌∙◌}
use mathlib.Core.Logic.{inl, inr}
use mathlib.Core.Bool.{Bool, true, false, not, ◌&&◌, ◌||◌}
use mathlib.Core.List.{List, [], ◌∷◌, ◌++◌}
use Prim.Native.Nat.{ℕ, suc, ◌+◌, ◌-◌, ◌%◌, ◌^◌, ◌≤◌, ◌<◌}
use native.Mathlib.Omega.{arith}
use lib.Bits.{bit_and, bit_or, or_lt, and_le_l}
use lib.Dec.{eqb}
use lib.ListN.{length, get_or, get_or-append}
use lib.Pow.{pow_pos, pow-lt}
use lib.Seq.{get_or-append_seam}
use Rattle.math_lists.proofs.Booleans.{clash, decide, either, and-on}
use Rattle.math_lists.proofs.NumbersBelow.{mask_below}
use borrow.Author.Tests.{eqb-true}
use Rattle.math_maximal.specs.Groups.{bit}
use Rattle.math_maximal.proofs.Bits.{bit-none, bit-and, bit-or, bit-minus, bit-power}
use Rattle.math_maximal.proofs.Masks.{mask_at, mask-bit}
use Rattle.math_contexts.specs.Box.{Lawful}
use Rattle.math_contexts.specs.BoxByArrival.{rel}
use Rattle.edit_record.specs.declared.Edit.{Edit}
use Rattle.edit_record.specs.RecordBytes.{no_edit}
use Rattle.edit_causal.specs.Conflict.{do_conflict, box_on}
use Rattle.edit_causal.specs.ConflictForms.{plain_marks, saw}
use Rattle.group_context.proofs.MaskFromBits.{is-mask}
use Rattle.group_sight.specs.SightForms.{most_recent, seen_marks, SeesTell, SeenBefore}
use Rattle.group_sight.proofs.NamesOfSets.{seen-never-conflicts}

-- without some of its members a number is less
pub fewer-left :
    (left known i : ℕ) → bit left i ≡ true → bit known i ≡ true → left - bit_and left known < left
fewer-left left known i p q =
    let common : bit_and left known ≡ 0 → ⊥
    = λ z. clash (bit-and left known i ∙ and-on (bit left i) (bit known i) p q) (rw z (bit-none i)) in
    omega (arith, and_le_l left known)

-- what is known of the i-th of some Sets
module _ (ms : List Edit) (i : ℕ) where
  pub nothing-before : SeenBefore ms i 0
  nothing-before = record { small = pow_pos i; each = λ j h. clash h (bit-none j) }

  pub all-before :
      (sees : List ℕ) → SeesTell ms sees → i < length ms → length ms ≤ i + most_recent →
      SeenBefore ms i (get_or sees (i % most_recent) 0)
  all-before sees tell l recent =
      let f : ℕ → Bool = λ j. saw (get_or ms i no_edit) (get_or ms j no_edit) in
      rw (tell i l recent) (record { small = mask_below i f; each = mask_at i f })

module _ (ms : List Edit) (e : Edit) where
  abbrev its : ℕ → Bool
  its j = saw e (get_or ms j no_edit)

  -- of those that are not left it is known whether he had seen them, and `seen` has those that he had
  abbrev pub Known : ℕ → ℕ → Type 0
  Known left seen =
      (seen < 2 ^ length ms) × ((j : ℕ) → j < length ms → bit seen j ≡ (not (bit left j) && its j))

  pub none-known : (all : ℕ) → ((j : ℕ) → j < length ms → bit all j ≡ true) → Known all 0
  none-known all h = (pow_pos (length ms), λ j l. bit-none j ∙ rw (h j l))

  pub all_known : (seen left : ℕ) → left ≡ 0 → Known left seen → seen ≡ seen_marks e ms
  unfolding seen_marks
  all_known seen left z (small, h) =
      is-mask (length ms) seen (λ j. saw e (get_or ms j no_edit)) small (λ j l. h j l ∙ rw (z, bit-none j))

  pub one-unseen :
      (left seen i : ℕ) → its i ≡ false → Known left seen → Known (left - bit_and left (2 ^ i)) seen
  one-unseen left seen i never (small, h) = (
    small,
    λ j l. h j l ∙ rw (bit-minus left (2 ^ i) j, bit-power i j) (elim (decide (eqb j i)) [
      | inl y ↦ rw (eqb-true j i y, never) (none (bit left i) (eqb i i))
      | inr y ↦ rw y (same (bit left j) (its j))
    ]),
  )
    where
      none : (a b : Bool) → (not a && false) ≡ (not (a && not b) && false)
      none true true = refl
      none true false = refl
      none false b = refl

      same : (a b : Bool) → (not a && b) ≡ (not (a && not false) && b)
      same true b = refl
      same false b = refl

  module _ (law : Lawful (box_on (ms ++ (e ∷ []))) (suc (length ms))) where
    -- who has seen the i-th has seen what its author had seen
    through :
        (i j : ℕ) → i < length ms → its i ≡ true → j < i → saw (get_or ms i no_edit) (get_or ms j no_edit) ≡ true →
        its j ≡ true
    unfolding rel
    through i j l s m t =
        let ns = ms ++ (e ∷ []) in
        let k = length ms in
        let new : get_or ns k no_edit ≡ e = get_or-append_seam ms e [] no_edit in
        let old : (i : ℕ) → i < k → get_or ns i no_edit ≡ get_or ms i no_edit
        = λ i o. get_or-append ms (e ∷ []) no_edit i o in
        let low : j < k = omega arith in
        let first : saw (get_or ns k no_edit) (get_or ns i no_edit) ≡ true = rw (new, old i l) s in
        let next : saw (get_or ns i no_edit) (get_or ns j no_edit) ≡ true = rw (old i l, old j low) t in
        rw (new, old j low) at (law.transitive k i j (omega arith) l m first next)

    pub one_seen :
        (left seen i row : ℕ) → i < length ms → its i ≡ true → SeenBefore ms i row → Known left seen →
        Known (left - bit_and left (bit_or (2 ^ i) row)) (bit_or seen (bit_or (2 ^ i) row))
    one_seen left seen i row l s before (narrow, h) =
        let known = bit_or (2 ^ i) row in
        let own : row < 2 ^ length ms = omega (arith, before.small, pow-lt {i = i} {j = length ms} l) in (
          or_lt (length ms) seen known narrow (or_lt (length ms) (2 ^ i) row (pow-lt l) own),
          λ j m. bit-or seen known j ∙ rw (h j m, bit-minus left known j) (elim (decide (bit known j)) [
            | inl y ↦ rw (y, seen-too j y) (known_on (bit left j))
            | inr y ↦ rw y (known-off (bit left j) (its j))
          ]),
        )
      where
        seen-too : (j : ℕ) → bit (bit_or (2 ^ i) row) j ≡ true → its j ≡ true
        seen-too j y = elim (either (bit (2 ^ i) j) (bit row j) (sym (bit-or (2 ^ i) row j) ∙ y)) [
          | inl a ↦ rw (eqb-true j i (sym (bit-power i j) ∙ a)) s
          | inr a ↦ (let (m, t) = before.each j a in through i j l s m t)
        ]

        known_on : (a : Bool) → (not a && true || true) ≡ (not (a && not true) && true)
        known_on true = refl
        known_on false = refl

        known-off : (a b : Bool) → (not a && b || false) ≡ (not (a && not false) && b)
        known-off true b = refl
        known-off false true = refl
        known-off false false = refl

  -- ---- those that were not seen

  pub plain-of-others :
      (all seen plain : ℕ) → all < 2 ^ length ms → ((j : ℕ) → j < length ms → bit all j ≡ true) →
      seen ≡ seen_marks e ms → plain ≤ all - bit_and all seen →
      (foe : ℕ → Bool) → ((j : ℕ) → j < length ms → bit plain j ≡ (bit (all - bit_and all seen) j && foe j)) →
      ((j : ℕ) → j < length ms → saw e (get_or ms j no_edit) ≡ false → foe j ≡ do_conflict (get_or ms j no_edit) e) →
      plain ≡ plain_marks e ms
  unfolding plain_marks seen_marks
  plain-of-others all seen plain small h its-seen part foe bits foes =
      is-mask (length ms) plain (λ j. do_conflict (get_or ms j no_edit) e) (omega arith)
      (λ j l. bits j l
      ∙ rw (bit-minus all seen j, h j l, its-seen, mask-bit (length ms) its j l)
      (split (its j) (foe j) (do_conflict (get_or ms j no_edit) e) (seen-never-conflicts (get_or ms j no_edit) e) (foes j l)))
    where
      split : (s f t : Bool) → (s ≡ true → t ≡ false) → (s ≡ false → f ≡ t) → ((true && not s) && f) ≡ t
      split true f t h k = sym (h refl)
      split false f t h k = k refl
