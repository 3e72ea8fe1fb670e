-- The counts of the sites where each edit is in turn: every entry is at most its site's count, and every edit that is
-- counted is there. Assumes nothing.
use mathlib.Core.Path.{◌≡◌, sym, ap, ◌∙◌}
use mathlib.Core.Logic.{inl, inr}
use mathlib.Core.List.Memᴰ
use mathlib.Core.List.{List, [], ◌∷◌, ◌++◌}
use Prim.Native.Nat.{ℕ, ◌+◌, ◌≤◌, ◌<◌}
use native.Mathlib.Omega.{arith}
use native.Mathlib.Decide.{ℕ_discrete}
use lib.ListN.{get_or}
use borrow.Author.Tests.{ne_eqb}
use Rattle.math_lists.specs.SortedLists.{filter}
use Rattle.math_lists.proofs.Booleans.{eqb-self}
use Rattle.edit_record.specs.declared.Edit.{Edit}
use Rattle.edit_record.specs.Layout.{most_sites}
use Rattle.edit_history.specs.EditsHeld.{count_from}
use Rattle.edit_history.proofs.RecordsPassed.{InTurn}
use Rattle.table_arrival.proofs.UntouchedSound.{count-snoc}
use Rattle.math_lists.specs.Rearranged.{Mem}
use Rattle.math_lists.proofs.ListMembers.{mem-middle}

pub record CountedInTurn (xs : List Edit) : Type 0 where
  pub entries : (a : Edit) → Mem a xs → (s : ℕ) → s < most_sites → get_or a.vector s 0 ≤ count_from s xs
  pub present :
      (s q : ℕ) → 0 < q → q ≤ count_from s xs → (a : Edit) × Mem a xs × (a.site.0 ≡ s) × (a.seq.0 ≡ q)

pub counted_none : CountedInTurn []
unfolding count_from filter
counted_none = record { entries = λ a m. absurd (Memᴰ.not-nil m); present = λ s q a b. absurd (omega arith) }

-- ---- one edit more, which is in turn

module _ (n : ℕ) (xs : List Edit) (e : Edit) (t : InTurn n xs e) (c : CountedInTurn xs) where
  count-own : count_from e.site.0 (xs ++ (e ∷ [])) ≡ count_from e.site.0 xs + 1
  count-own = count-snoc e.site.0 xs e ∙ rw (eqb-self e.site.0)

  count-other : (s : ℕ) → (s ≡ e.site.0 → ⊥) → count_from s (xs ++ (e ∷ [])) ≡ count_from s xs + 0
  count-other s d = count-snoc s xs e ∙ rw (ne_eqb e.site.0 s (λ h. d (sym h)))

  count-grown : (s : ℕ) → count_from s xs ≤ count_from s (xs ++ (e ∷ []))
  count-grown s =
      elim (ℕ_discrete s e.site.0)
      [ yes q ↦ rw q (omega (arith, count-own)) | no d ↦ omega (arith, count-other s d) ]

  pub counted-more : CountedInTurn (xs ++ (e ∷ []))
  counted-more = record {
    entries = λ a m s l. elim (Memᴰ.append_cases xs m) [
      | inl k ↦ omega (arith, c.entries a k s l, count-grown s)
      | inr k ↦ rw (Memᴰ.eq_of_singleton k) (own s l)
    ];
    present = λ s q p l. there s q p l (ℕ_discrete s e.site.0) (ℕ_discrete q e.seq.0);
  }
    where
      own : (s : ℕ) → s < most_sites → get_or e.vector s 0 ≤ count_from s (xs ++ (e ∷ []))
      own s l =
          elim (ℕ_discrete s e.site.0) [
            | yes q ↦ rw q (omega (arith, count-own, t.next, t.formed.own))
            | no d ↦ omega (arith, t.others s l d, count-grown s)
          ]

      old : (s q : ℕ) → 0 < q → q ≤ count_from s xs →
          (a : Edit) × Mem a (xs ++ (e ∷ [])) × (a.site.0 ≡ s) × (a.seq.0 ≡ q)
      old s q p l = let (a, m, y, z) = c.present s q p l in (a, Memᴰ.append_left (e ∷ []) m, y, z)

      there : (s q : ℕ) → 0 < q → q ≤ count_from s (xs ++ (e ∷ [])) → Dec (s ≡ e.site.0) → Dec (q ≡ e.seq.0) →
          (a : Edit) × Mem a (xs ++ (e ∷ [])) × (a.site.0 ≡ s) × (a.seq.0 ≡ q)
      there s q p l (yes y) (yes z) = (e, mem-middle xs [] e, sym y, sym z)
      there s q p l (yes y) (no d) =
          let more : count_from s (xs ++ (e ∷ [])) ≡ count_from s xs + 1 = rw y count-own in
          let same : count_from s xs ≡ count_from e.site.0 xs = ap (λ (i : ℕ). count_from i xs) y in
          old s q p (omega (arith, t.next))
      there s q p l (no d) w = old s q p (omega (arith, count-other s d))
