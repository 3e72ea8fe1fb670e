-- The places of the Sets on a Create: they hold those Sets, one record more adds its place exactly if it is such a Set,
-- and distinct Creates have distinct numbers. Assumes nothing.
use mathlib.Core.Path.{◌≡◌, refl, sym, ap, ◌∙◌}
use mathlib.Core.Bool.{Bool, true, false, cond}
use mathlib.Core.List.{List, [], ◌∷◌, ◌++◌, map, map-append, append-nil}
use Prim.Native.Nat.{ℕ, zero, suc, ◌≤◌, ◌<◌}
use native.Mathlib.Omega.{arith}
use native.Mathlib.Decide.{dec_lt}
use lib.ListN.{length, length-map}
use Rattle.math_lists.specs.NumbersBelow.{keep}
use Rattle.math_lists.specs.SortedLists.{filter}
use Rattle.math_lists.proofs.NumbersBelow.{keep-grow}
use Rattle.math_lists.proofs.GrownAtEnd.{filter-snoc}
use Rattle.edit_record.specs.declared.Edit.{Edit}
use Rattle.edit_record.specs.Answer1.{is_create}
use Rattle.edit_history.specs.EditsHeld.{record_at, edits_of, is_set_on, sets_on}
use Rattle.edit_history.proofs.EditsHeld.{create-less}
use Rattle.table_index.specs.IndexForms.{number_at, is_on, places_on}

-- ---- the Sets in the places

module _ (rs : List ℕ) (p : ℕ) where
  pub places-more : (n : ℕ) → places_on rs (suc n) p ≡ places_on rs n p ++ cond (is_on rs p n) (n ∷ []) []
  unfolding places_on keep
  places-more n = refl

  pub places-added : (n : ℕ) → is_on rs p n ≡ true → places_on rs (suc n) p ≡ places_on rs n p ++ (n ∷ [])
  places-added n h = rw (places-more n, h)

  pub places-stay : (n : ℕ) → is_on rs p n ≡ false → places_on rs (suc n) p ≡ places_on rs n p
  places-stay n h = rw (places-more n, h) (append-nil (places_on rs n p))

  pub places-none : (n : ℕ) → ((q : ℕ) → q < n → is_on rs p q ≡ false) → places_on rs n p ≡ []
  unfolding places_on keep
  places-none zero h = refl
  places-none (suc n) h = places-stay n (h n (omega arith)) ∙ places-none n (λ q l. h q (omega arith))

  pub places-grow : (m n : ℕ) → m ≤ n → length (places_on rs m p) ≤ length (places_on rs n p)
  unfolding places_on
  places-grow m n l = keep-grow (is_on rs p) m n l

  pub places-sets :
      (n : ℕ) → map (record_at rs) (places_on rs n p) ≡ sets_on (record_at rs p).site (record_at rs p).seq (edits_of rs n)
  unfolding places_on keep sets_on edits_of filter
  places-sets zero = refl
  places-sets (suc n) =
      map-append (record_at rs) (places_on rs n p) (cond (is_on rs p n) (n ∷ []) [])
      ∙ go (is_on rs p n)
      ∙ ap (λ (es : List Edit). es ++ cond (is_on rs p n) (record_at rs n ∷ []) []) (places-sets n)
      ∙ sym (filter-snoc (is_set_on (record_at rs p).site (record_at rs p).seq) (edits_of rs n) (record_at rs n))
    where
      go : (b : Bool) →
          map (record_at rs) (places_on rs n p) ++ map (record_at rs) (cond b (n ∷ []) [])
          ≡ map (record_at rs) (places_on rs n p) ++ cond b (record_at rs n ∷ []) []
      go true = refl
      go false = refl

  pub places-length :
      (n : ℕ) → length (places_on rs n p) ≡ length (sets_on (record_at rs p).site (record_at rs p).seq (edits_of rs n))
  places-length n = sym (length-map (places_on rs n p) (record_at rs)) ∙ ap length (places-sets n)

-- ---- the numbers of Creates

-- Creates of one number stand in one place
pub one_number :
    (rs : List ℕ) (p q : ℕ) → is_create (record_at rs p) ≡ true → is_create (record_at rs q) ≡ true →
    number_at rs p ≡ number_at rs q → p ≡ q
one_number rs p q cp cq e = go (dec_lt p q) (dec_lt q p)
  where
    go : Dec (p < q) → Dec (q < p) → p ≡ q
    go (yes l) w = absurd (omega (arith, create-less rs p q l cp))
    go (no a) (yes l) = absurd (omega (arith, create-less rs q p l cq))
    go (no a) (no b) = omega arith
