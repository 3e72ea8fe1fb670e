-- The value shown is that of a member that no other member of its key ranks after; so, in true tables, it is the value
-- of every member of its key that no other one of that key comes after. Assumes nothing.
use mathlib.Core.Path.{◌≡◌, refl, ap, ◌∙◌}
use mathlib.Core.Logic.{inl, inr}
use mathlib.Core.Bool.{Bool, true, false, cond}
use mathlib.Core.List.{List, [], ◌∷◌}
use Prim.Native.Nat.{ℕ, zero, suc, ◌<◌}
use native.Mathlib.Numerals.{add-one}
use native.Mathlib.Omega.{arith}
use borrow.Author.Tests.{eqb-true, eqb-false}
use lib.Dec.{eqb}
use lib.ListN.{length, get_or}
use Rattle.math_lists.specs.SortedLists.{elem}
use Rattle.math_lists.proofs.Booleans.{clash}
use Rattle.math_lists.proofs.LastBelow.{last}
use Rattle.edit_record.specs.declared.Edit.{Edit}
use Rattle.edit_causal.specs.TotalOrder.{ranks_before}
use Rattle.edit_causal.specs.ShownValue.{shown_value}
use Rattle.math_maximal.specs.Groups.{bit}
use Rattle.edit_history.specs.EditsHeld.{sets_on}
use Rattle.table_drawing.specs.Tables.{Tables, held_by}
use Rattle.table_soundness.proofs.SoundFacts.{Sound}
use Rattle.edit_record.specs.RecordBytes.{no_edit}
use Rattle.group_true.specs.TrueGroups.{true_groups}
use Rattle.table_arrival.proofs.VersionValues.{Member, Undone, Last, one_value, last-undone}
use Rattle.list_version.specs.Values.{stands_before, later, last_with}
use Rattle.list_version.proofs.RanksStrict.{not_itself_lem, not_after, stands-true, stands-false}
use Rattle.list_version.proofs.LastMember.{last_below, last_none, last-member, last-other, last-all}

-- ---- the last of the members

module _ (ms : List Edit) (g k : ℕ) where
  abbrev at : ℕ → Edit
  at i = get_or ms i no_edit

  -- the i-th Set is a member and has the key
  abbrev Holds : ℕ → Type 0
  Holds i = (bit g i ≡ true) × ((at i).key ≡ k)

  -- what is known of the last of the first i Sets
  record Top (i : ℕ) (e : Edit) : Type 0 where
    place : ℕ
    low : place < i
    holds : Holds place
    same : at place ≡ e
    top : (j : ℕ) → j < i → Holds j → ranks_before e (at j) ≡ false

  abbrev Found : ℕ → List Edit → Type 0
  Found i [] = (j : ℕ) → j < i → Holds j → ⊥
  Found i (e ∷ es) = Top i e

  -- the next Set does not hold the key, or is no member
  passed-by : (i : ℕ) (l : List Edit) → (Holds i → ⊥) → Found i l → Found (suc i) l
  passed-by i [] out f = λ j l h. elim (last l) [ inl m ↦ f j m h | inr q ↦ out (rw q at h) ]
  passed-by i (e ∷ es) out f =
      record {
        place = f.place;
        low = omega (arith, f.low);
        holds = f.holds;
        same = f.same;
        top = λ j l h. elim (last l) [ inl m ↦ f.top j m h | inr q ↦ absurd (out (rw q at h)) ];
      }

  taken_in : (i : ℕ) (l : List Edit) → Holds i → Found i l → Found (suc i) (later l (at i))
  unfolding later
  taken_in i [] h f =
      record {
        place = i;
        low = omega arith;
        holds = h;
        same = refl;
        top = λ j l w. elim (last l) [ inl m ↦ absurd (f j m w) | inr q ↦ rw q (not_itself_lem (at i)) ];
      }
  taken_in i (e ∷ es) h f = go (stands_before e (at i)) refl
    where
      go : (b : Bool) → stands_before e (at i) ≡ b → Found (suc i) (cond b (at i ∷ []) (e ∷ []))
      go true s =
          record {
            place = i;
            low = omega arith;
            holds = h;
            same = refl;
            top = λ j l w. elim (last l) [
              | inl m ↦ not_after (at i) e (at j) (f.top j m w) (stands-true e (at i) s)
              | inr q ↦ rw q (not_itself_lem (at i))
            ];
          }
      go false s =
          record {
            place = f.place;
            low = omega (arith, f.low);
            holds = f.holds;
            same = f.same;
            top = λ j l w. elim (last l) [ inl m ↦ f.top j m w | inr q ↦ rw q (stands-false e (at i) s) ];
          }

  found_below : (i : ℕ) → Found i (last_below ms g k i)
  found_below zero = rw (last_none ms g k) (λ j l h. omega arith)
  found_below (suc i) = go (bit g i) refl (eqb (at i).key k) refl (found_below i)
    where
      go : (b : Bool) → bit g i ≡ b → (q : Bool) → eqb (at i).key k ≡ q → Found i (last_below ms g k i) →
          Found (suc i) (last_below ms g k (suc i))
      go true b true q f =
          rw (← add-one i, last-member ms g k i (at i) refl b, q, add-one)
          (taken_in i (last_below ms g k i) (b, eqb-true (at i).key k q) f)
      go true b false q f =
          rw (← add-one i, last-member ms g k i (at i) refl b, q, add-one)
          (passed-by i (last_below ms g k i) (λ h. eqb-false (at i).key k q h.1) f)
      go false b q p f =
          rw (← add-one i, last-other ms g k i b, add-one)
          (passed-by i (last_below ms g k i) (λ h. clash h.0 b) f)

  found : Found (length ms) (last_with ms g k)
  found = rw (← last-all ms g k (length ms) refl) (found_below (length ms))

-- ---- in true tables

module _ (t : Tables) (s : Sound t) (c : Edit) (g : ℕ) (e : elem g (true_groups (held_by t) c) ≡ true) where
  abbrev ms : List Edit
  ms = sets_on c.site c.seq (held_by t)

  -- no value is shown for a key that no member has
  pub none-shown : (k : ℕ) → last_with ms g k ≡ [] → (j : ℕ) → Member t s c g e k j → ⊥
  none-shown k none j mj = (rw none at (found ms g k)) j mj.low (mj.held, mj.key)

  -- the value shown is that of each member of the key that no other one comes after
  pub shown-value :
      (k : ℕ) (x : Edit) (xs : List Edit) → last_with ms g k ≡ x ∷ xs → (j : ℕ) → Member t s c g e k j →
      Undone t s c g e k j → shown_value k (get_or ms j no_edit).value ≡ shown_value k x.value
  shown-value k x xs some j mj uj =
      let f : Top ms g k (length ms) x = rw some at (found ms g k) in
      let i = f.place in
      let mi : Member t s c g e k i = record { low = f.low; held = f.holds.0; key = f.holds.1 } in
      let top : Last t s c g e k i = λ j mj. rw f.same (f.top j mj.low (mj.held, mj.key)) in
      one_value t s c g e k j i mj mi uj (last-undone t s c g e k i mi top)
      ∙ ap (λ (a : Edit). shown_value k a.value) f.same
