-- The turns of a loop over the records that puts the places of those that pass a test f at the front of a list.
-- Assumes nothing.
use mathlib.Core.Path.{◌≡◌, refl, ap, ◌∙◌}
use mathlib.Core.Bool.{Bool, true, false, cond}
use mathlib.Core.List.{List, [], ◌∷◌, ◌++◌, map, map-append, append-nil}
use Prim.Native.Nat.{ℕ, ◌+◌, ◌<◌}
use native.Mathlib.Numerals.{add-one}
use native.Mathlib.Omega.{arith}
use lib.ListN.{length, take, set}
use lib.Seq.{take-suc-set}
use Rattle.math_lists.specs.SortedLists.{filter}
use Rattle.math_lists.proofs.GrownAtEnd.{filter-snoc}
use Rattle.edit_record.specs.declared.Edit.{Edit}
use Rattle.edit_history.specs.EditsHeld.{record_at, edits_of}
use Rattle.edit_history.proofs.EditsHeld.{chosen_more, chosen-grow}

module _ (rs : List ℕ) (f : Edit → Bool) where
  pub more-passed :
      (i : ℕ) →
      filter f (edits_of rs (i + 1)) ≡ filter f (edits_of rs i) ++ cond (f (record_at rs i)) (record_at rs i ∷ []) []
  unfolding edits_of
  more-passed i = rw add-one (filter-snoc f (edits_of rs i) (record_at rs i))

  -- the place of one more stands behind those before it
  pub place-more :
      (out : List ℕ) (w i : ℕ) → w < length out → f (record_at rs i) ≡ true →
      map (record_at rs) (take w out) ≡ filter f (edits_of rs i) →
      map (record_at rs) (take (w + 1) (set out w i)) ≡ filter f (edits_of rs (i + 1))
  place-more out w i l h inv =
      rw (more-passed i, h, add-one, take-suc-set out w i l)
      (map-append (record_at rs) (take w out) (i ∷ []) ∙ ap (λ (es : List Edit). es ++ (record_at rs i ∷ [])) inv)

  pub no-place-more :
      (i : ℕ) → f (record_at rs i) ≡ false → filter f (edits_of rs (i + 1)) ≡ filter f (edits_of rs i)
  no-place-more i h = more-passed i ∙ rw h (append-nil (filter f (edits_of rs i)))

  pub one-counted :
      (i : ℕ) → f (record_at rs i) ≡ true →
      length (filter f (edits_of rs (i + 1))) ≡ length (filter f (edits_of rs i)) + 1
  one-counted i h = rw add-one (chosen_more f rs i ∙ rw h)

  -- where one more passes, not all have been counted
  pub some_left :
      (i n : ℕ) → i < n → f (record_at rs i) ≡ true →
      length (filter f (edits_of rs i)) < length (filter f (edits_of rs n))
  some_left i n l h = omega (arith, one-counted i h, chosen-grow f rs (i + 1) n (omega arith))

  pub no-places : [] ≡ filter f (edits_of rs 0)
  unfolding edits_of filter
  no-places = refl
