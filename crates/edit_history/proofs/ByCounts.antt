-- Counts in a list serve for the edits that they count: 2 and 3 are decided by them, and one edit more is one count
-- more. Assumes, for 2 and 3, that the edit's site has an entry.
use mathlib.Core.Path.{◌≡◌, refl, ap, sym}
use mathlib.Core.Bool.{not, ◌&&◌}
use mathlib.Core.List.{List, [], ◌∷◌, ◌++◌}
use Prim.Native.Nat.{ℕ, ◌+◌, ◌≤◌, ◌<◌}
use native.Mathlib.Omega.{arith}
use native.Mathlib.Decide.{dec_lt, ℕ_discrete}
use lib.Dec.{eqb, leb, ltb}
use lib.ListN.{length, get_or, set, replicate, get_or-replicate, get_or-eq_default}
use lib.Seq.{get_or-set_same, get_or-set_other}
use borrow.Author.Tests.{eq-eqb, ne_eqb}
use Rattle.math_lists.specs.SortedLists.{filter}
use Rattle.math_lists.proofs.NumbersBelow.{some_same}
use Rattle.math_lists.proofs.GrownAtEnd.{filter-few}
use Rattle.edit_record.specs.declared.Edit.{Edit}
use Rattle.edit_record.specs.Layout.{most_sites}
use Rattle.edit_history.specs.EditsHeld.{count_from}
use Rattle.edit_history.specs.Answers2to5.{is_repeated, is_early}
use Rattle.edit_history.specs.SurveyForms.{bump, Counted, ahead_elsewhere, repeated_against, early_against}
use Rattle.edit_history.proofs.EditsHeld.{count-snoc}

-- ---- 2 and 3

module _
    (counts : List ℕ)
    (es : List Edit)
    (counted : Counted counts es)
    (e : Edit)
    (low : e.site.0 < most_sites) where
  pub repeated-against : repeated_against counts e ≡ is_repeated es e
  unfolding is_repeated
  repeated-against = ap (leb e.seq.0) (counted e.site.0 low)

  pub early-against : early_against counts e ≡ is_early es e
  unfolding is_early ahead_elsewhere
  early-against =
      rw (
        counted e.site.0 low,
        some_same most_sites (λ s. not (eqb s e.site.0) && ltb (get_or counts s 0) (get_or e.vector s 0))
            (λ s. not (eqb s e.site.0) && ltb (count_from s es) (get_or e.vector s 0))
            (λ s l. rw (counted s l)),
      )

-- ---- the counts of edits, and of one edit more

pub counted_none : Counted (replicate most_sites 0) []
unfolding count_from filter
counted_none s l = get_or-replicate most_sites s 0 0 l

module _ (counts : List ℕ) (es : List Edit) (long : length counts ≡ most_sites) (counted : Counted counts es) where
  -- none is above the number of edits
  pub counted-few : (s : ℕ) → get_or counts s 0 ≤ length es
  unfolding count_from
  counted-few s = go (dec_lt s most_sites)
    where
      go : Dec (s < most_sites) → get_or counts s 0 ≤ length es
      go (yes l) = rw (counted s l) (filter-few (λ a. eqb a.site.0 s) es)
      go (no d) =
          let none : get_or counts s 0 ≡ 0 = get_or-eq_default counts 0 (omega arith) in
          omega arith

  pub counted-more : (e : Edit) → Counted (bump counts e.site) (es ++ (e ∷ []))
  counted-more e s l = go (ℕ_discrete s t)
    where
      t : ℕ
      t = e.site.0

      go : Dec (s ≡ t) → get_or (set counts t (get_or counts t 0 + 1)) s 0 ≡ count_from s (es ++ (e ∷ []))
      go (yes same) =
          rw (same, get_or-set_same counts t (get_or counts t 0 + 1) 0 (omega arith), count-snoc t es e, eq-eqb t t refl)
          (ap (λ (k : ℕ). k + 1) (counted t (rw same at l)))
      go (no d) =
          rw (
            get_or-set_other counts t s (get_or counts t 0 + 1) 0 d,
            count-snoc s es e,
            ne_eqb t s (λ same. d (sym same)),
          )
          (omega (arith, counted s l))
