-- Which of the first Sets are in dispute, one Set more after another: those that it conflicts with, and itself if there
-- is one. Assumes nothing.
use mathlib.Core.Path.{◌≡◌, refl, sym, ap, ap₂, ◌∙◌}
use mathlib.Core.Bool.{Bool, true, false, ◌||◌, or_assoc, or-false}
use mathlib.Core.List.{List}
use mathlib.Core.Logic.{inl, inr}
use Prim.Native.Nat.{ℕ, ◌+◌, ◌^◌, ◌≤◌, ◌<◌}
use native.Mathlib.Numerals.{add-one}
use native.Mathlib.Omega.{arith}
use native.Mathlib.Decide.{dec_lt, ℕ_discrete}
use lib.Bits.{bit_or}
use lib.Dec.{eqb}
use lib.ListN.{length, get_or}
use borrow.Author.Tests.{eq-eqb, ne_eqb}
use Rattle.math_lists.specs.NumbersBelow.{mask, sum}
use Rattle.math_lists.specs.SortedLists.{any}
use Rattle.math_lists.proofs.Booleans.{clash, decide, off, or_off, or_right}
use Rattle.math_lists.proofs.ByPlaces.{any-place-on, any-place-at}
use Rattle.math_maximal.specs.Groups.{bit}
use Rattle.math_maximal.proofs.Bits.{bit-none, bit_high, bit-or, bit-power}
use Rattle.math_maximal.proofs.Masks.{mask-bit}
use Rattle.edit_record.specs.declared.Edit.{Edit}
use Rattle.edit_record.specs.RecordBytes.{no_edit}
use Rattle.edit_causal.specs.Conflict.{do_conflict}
use Rattle.edit_causal.specs.ConflictForms.{plain_marks}
use Rattle.edit_causal.proofs.CausalLaws.{conflict-symmetric, conflict-irreflexive}
use Rattle.edit_history.specs.EditsHeld.{record_at}
use Rattle.edit_history.proofs.EditsInPlaces.{sets-length, set-place}
use Rattle.group_true.specs.Disputed.{is_disputed}
use Rattle.group_sight.specs.SightForms.{sets_in}
use Rattle.group_sight.proofs.OneMoreTaken.{any-more}
use Rattle.table_index.proofs.MarksInPlaces.{marks-below}
use Rattle.table_sets.specs.KeyForms.{set_at, DisputedBy}
use Rattle.table_sets.proofs.MarksByKey.{mask-skips}

-- of the first i Sets those in dispute among them are the members of r, and no other number is one
pub record MarkedTo (rs ps : List ℕ) (i r : ℕ) : Type 0 where
  pub marked : DisputedBy rs ps i r
  pub high : (j : ℕ) → i ≤ j → bit r j ≡ false

pub marked-none : (rs ps : List ℕ) → MarkedTo rs ps 0 0
marked-none rs ps = record { marked = λ j l. absurd (omega arith); high = λ j l. bit-none j }

pub marked-low : (rs ps : List ℕ) (i r : ℕ) → MarkedTo rs ps i r → (j : ℕ) → bit r j ≡ true → j < i
marked-low rs ps i r h j b = elim (dec_lt j i) [
  | yes l ↦ l
  | no d ↦ clash b (h.high j (omega (arith, d)))
]

module _ (rs ps : List ℕ) (i m r : ℕ) (fits : i < length ps) (h : MarkedTo rs ps i r)
    (its : m ≡ plain_marks (set_at rs ps i) (sets_in rs ps i)) where
  abbrev e : Edit
  e = set_at rs ps i

  abbrev ms : List Edit
  ms = sets_in rs ps i

  -- the marks of the i-th
  mark : (j : ℕ) → j < i → bit m j ≡ do_conflict (set_at rs ps j) e
  unfolding plain_marks
  mark j l =
      ap (λ (x : ℕ). bit x j) its
      ∙ mask-bit (length ms) (λ k. do_conflict (get_or ms k no_edit) e) j
      (omega (arith, sets-length rs ps i (omega arith)))
      ∙ ap (λ (a : Edit). do_conflict a e) (set-place rs ps i (omega arith) j l)

  mark-high : (j : ℕ) → i ≤ j → bit m j ≡ false
  mark-high j l =
      ap (λ (x : ℕ). bit x j) its
      ∙ bit_high i (plain_marks e ms) (marks-below e rs ps i (omega arith)) j l

  -- whether it is in dispute itself
  none-itself : m ≡ 0 → is_disputed ms e ≡ false
  unfolding is_disputed
  none-itself z =
      off (any (do_conflict e) ms) (λ t.
      let (j, l, c) = any-place-at (do_conflict e) no_edit ms t in
      let low : j < i = omega (arith, sets-length rs ps i (omega arith)) in
      let here : do_conflict (set_at rs ps j) e ≡ true
      = conflict-symmetric (set_at rs ps j) e
      ∙ ap (do_conflict e) (sym (set-place rs ps i (omega arith) j low)) ∙ c in
      clash (mark j low ∙ here) (ap (λ (x : ℕ). bit x j) z ∙ bit-none j))

  some-itself : (m ≡ 0 → ⊥) → is_disputed ms e ≡ true
  unfolding is_disputed plain_marks mask sum
  some-itself some = elim (decide (any (do_conflict e) ms)) [
    | inl t ↦ t
    | inr t ↦
        (let none : (k : ℕ) → 0 ≤ k → k < length ms → do_conflict (get_or ms k no_edit) e ≡ false
        = λ k a l. off (do_conflict (get_or ms k no_edit) e) (λ c.
        clash (any-place-on (do_conflict e) no_edit ms k l (conflict-symmetric e (get_or ms k no_edit) ∙ c)) t) in
        absurd (some (its ∙ mask-skips (λ k. do_conflict (get_or ms k no_edit) e) 0 (length ms) (omega arith) none)))
  ]

  -- with it
  more : (x : Edit) → is_disputed (sets_in rs ps (i + 1)) x ≡ (is_disputed ms x || do_conflict x e)
  unfolding is_disputed
  more x = rw add-one (any-more (record_at rs) 0 ps i fits (do_conflict x))

  more-before : (j : ℕ) → j < i → is_disputed (sets_in rs ps (i + 1)) (set_at rs ps j) ≡ (bit r j || bit m j)
  more-before j l = more (set_at rs ps j) ∙ ap₂ (λ (a b : Bool). a || b) (sym (h.marked j l)) (sym (mark j l))

  more-itself : is_disputed (sets_in rs ps (i + 1)) e ≡ is_disputed ms e
  more-itself =
      more e ∙ ap (λ (b : Bool). is_disputed ms e || b) (conflict-irreflexive e) ∙ or-false (is_disputed ms e)

  pub marked-same : m ≡ 0 → MarkedTo rs ps (i + 1) r
  marked-same z = record {
    marked =
        λ j l. elim (ℕ_discrete j i) [
          | yes q ↦ rw q (h.high i (omega arith) ∙ sym (more-itself ∙ none-itself z))
          | no d ↦
              (let low : j < i = omega (arith, d) in
              sym (more-before j low ∙ ap (λ (b : Bool). bit r j || b) (ap (λ (x : ℕ). bit x j) z ∙ bit-none j)
              ∙ or-false (bit r j)))
        ];
    high = λ j l. h.high j (omega arith);
  }

  bits : (j : ℕ) → bit (bit_or r (bit_or m (2 ^ i))) j ≡ ((bit r j || bit m j) || eqb j i)
  bits j =
      bit-or r (bit_or m (2 ^ i)) j
      ∙ ap (λ (b : Bool). bit r j || b) (bit-or m (2 ^ i) j ∙ ap (λ (b : Bool). bit m j || b) (bit-power i j))
      ∙ sym (or_assoc (bit r j) (bit m j) (eqb j i))

  pub marked_more : (m ≡ 0 → ⊥) → MarkedTo rs ps (i + 1) (bit_or r (bit_or m (2 ^ i)))
  marked_more some = record {
    marked =
        λ j l. elim (ℕ_discrete j i) [
          | yes q ↦
              rw q
              (bits i ∙ or_right (bit r i || bit m i) (eqb i i) (eq-eqb i i refl)
              ∙ sym (more-itself ∙ some-itself some))
          | no d ↦
              (let low : j < i = omega (arith, d) in
              bits j ∙ ap (λ (b : Bool). (bit r j || bit m j) || b) (ne_eqb j i d) ∙ or-false (bit r j || bit m j)
              ∙ sym (more-before j low))
        ];
    high =
        λ j l. bits j
        ∙ or_off (bit r j || bit m j) (eqb j i)
        (or_off (bit r j) (bit m j) (h.high j (omega arith)) (mark-high j (omega arith)))
        (ne_eqb j i (λ q. omega arith));
  }
