-- The chain followed from a Create: k places have been put down, and from the entry v it goes through the rest. They
-- are those of the Sets on the Create. Assumes nothing.
use mathlib.Core.Path.{◌≡◌, refl, sym, ap, subst, ◌∙◌}
use mathlib.Core.Logic.{◌⊎◌, inl, inr}
use mathlib.Core.Bool.{Bool, true, false, not, ◌&&◌, cond}
use mathlib.Core.List.{List, [], ◌∷◌, ◌++◌, map, map-append}
use Prim.Native.Nat.{ℕ, zero, suc, ◌+◌, ◌-◌, ◌≤◌, ◌<◌}
use native.Mathlib.Omega.{arith}
use native.Mathlib.Numerals.{add-one}
use native.Mathlib.Decide.{ℕ_discrete}
use lib.Dec.{eqb, ltb}
use lib.ListN.{length, get_or, take, drop, set, length-drop, length-map}
use lib.Seq.{take-suc, take-suc-set, drop-cons, take_all}
use borrow.Author.Tests.{eq-eqb, ne_eqb, ltb-true, ltb-false, not-true}
use Rattle.math_lists.specs.NumbersBelow.{keep}
use Rattle.math_lists.specs.SortedLists.{filter}
use Rattle.math_lists.proofs.Booleans.{clash, both}
use Rattle.math_lists.proofs.GrownAtEnd.{filter-snoc}
use Rattle.edit_record.specs.declared.Edit.{Edit}
use Rattle.edit_record.specs.Answer1.{is_create}
use Rattle.edit_history.specs.EditsHeld.{record_at, edits_of, is_set_on, sets_on}
use Rattle.group_step.specs.GroupRows.{most_sets}
use Rattle.group_limited.specs.LimitedForms.{NamedBy}
use Rattle.group_sight.specs.SightForms.{sets_in, NamesIn}
use Rattle.group_named.specs.ChainForms.{Follows, is_on, ByteChained}
use Rattle.group_named.specs.NamedForms.{SetsTold}

-- of any places l that the chain goes through from p: the first k are put down in out, and the chain goes on with v
abbrev pub ByteFollowedTo : List ℕ → ℕ → ℕ → ℕ → List ℕ → Type 0
ByteFollowedTo ch p k v out =
    (l : List ℕ) → Follows ch (get_or ch p 0) l → (take k out ≡ take k l) × Follows ch v (drop k l)

-- whether it is to be followed on: it has not ended, and there is room
pub goes_on : (v k m : ℕ) → (not (eqb v 0) && ltb k m) ≡ true → (v ≡ 0 → ⊥) × (k < m)
goes_on v k m h =
    let (some, room) = both (not (eqb v 0)) (ltb k m) h in
    (λ e. clash (eq-eqb v 0 e) (not-true (eqb v 0) some), ltb-true k m room)

pub stops : (v k m : ℕ) → (not (eqb v 0) && ltb k m) ≡ false → (v ≡ 0) ⊎ (m ≤ k)
stops v k m h = go (ℕ_discrete v 0)
  where
    go : Dec (v ≡ 0) → (v ≡ 0) ⊎ (m ≤ k)
    go (yes e) = inl e
    go (no d) = inr (ltb-false k m (rw (ne_eqb v 0 d) at h))

-- there is one more, which is no 0
some_left : (ch : List ℕ) (k v : ℕ) (l : List ℕ) → (v ≡ 0 → ⊥) → Follows ch v (drop k l) → k < length l
some_left ch k v l some r = go (drop k l) (length-drop k l) r
  where
    go : (m : List ℕ) → length m ≡ length l - k → Follows ch v m → k < length l
    go [] e r = absurd (some r)
    go (y ∷ m) e r = omega arith

pub followed-more :
    (ch : List ℕ) (p k v : ℕ) (out : List ℕ) → k < length out → (v ≡ 0 → ⊥) →
    ByteFollowedTo ch p k v out → ByteFollowedTo ch p (k + 1) (get_or ch v 0) (set out k v)
followed-more ch p k v out fits some h l r =
    let (front, rest) = h l r in
    let more = some_left ch k v l some rest in
    let opened : drop k l ≡ get_or l k 0 ∷ drop (suc k) l = drop-cons l k 0 more in
    let (here, _, next) = subst (Follows ch v) opened rest in
    rw (add-one) (
      take-suc-set out k v fits ∙ rw (front, here) (sym (take-suc l k 0 more)),
      rw here next,
    )

-- at its end, and where there are as many as out may take
pub followed-end :
    (ch : List ℕ) (p k v : ℕ) (out l : List ℕ) → v ≡ 0 → ByteFollowedTo ch p k v out → Follows ch (get_or ch p 0) l →
    take k out ≡ l
followed-end ch p k v out l none h r =
    let (front, rest) = h l r in
    front ∙ take_all k l (go (drop k l) (length-drop k l) rest)
  where
    go : (m : List ℕ) → length m ≡ length l - k → Follows ch v m → length l ≤ k
    go [] e r = omega arith
    go (y ∷ m) e (here, some, _) = absurd (omega (arith, here, none))

pub followed-full :
    (ch : List ℕ) (p k v : ℕ) (out l : List ℕ) → length l ≤ k → ByteFollowedTo ch p k v out →
    Follows ch (get_or ch p 0) l → take k out ≡ l
followed-full ch p k v out l few h r = (h l r).0 ∙ take_all k l few

-- ---- the Sets in these places

module _ (rs : List ℕ) (p : ℕ) where
  abbrev f : Edit → Bool
  f = is_set_on (record_at rs p).site (record_at rs p).seq

  sets-kept :
      (n : ℕ) → map (record_at rs) (keep n (is_on rs p)) ≡ sets_on (record_at rs p).site (record_at rs p).seq
      (edits_of rs n)
  unfolding keep sets_on edits_of filter
  sets-kept zero = refl
  sets-kept (suc n) =
      map-append (record_at rs) (keep n (is_on rs p)) (cond (is_on rs p n) (n ∷ []) [])
      ∙ go (is_on rs p n) (sets-kept n)
      ∙ sym (filter-snoc f (edits_of rs n) (record_at rs n))
    where
      go : (b : Bool) →
          map (record_at rs) (keep n (is_on rs p)) ≡ filter f (edits_of rs n) →
          map (record_at rs) (keep n (is_on rs p)) ++ map (record_at rs) (cond b (n ∷ []) [])
          ≡ filter f (edits_of rs n) ++ cond b (record_at rs n ∷ []) []
      go true e = ap (λ (es : List Edit). es ++ (record_at rs n ∷ [])) e
      go false e = ap (λ (es : List Edit). es ++ []) e

  kept-length :
      (n : ℕ) → length (keep n (is_on rs p))
      ≡ length (sets_on (record_at rs p).site (record_at rs p).seq (edits_of rs n))
  kept-length n = sym (length-map (keep n (is_on rs p)) (record_at rs)) ∙ ap length (sets-kept n)

  -- what was put down from a Create
  pub gathered :
      (n k : ℕ) (ch out : List ℕ) → p < n → is_create (record_at rs p) ≡ true → ByteChained rs n ch →
      length (sets_on (record_at rs p).site (record_at rs p).seq (edits_of rs n)) ≤ most_sets →
      ((l : List ℕ) → Follows ch (get_or ch p 0) l → length l ≤ most_sets → take k out ≡ l) →
      sets_in rs out k ≡ sets_on (record_at rs p).site (record_at rs p).seq (edits_of rs n)
  gathered n k ch out l create chained few h =
      ap (map (record_at rs)) (h (keep n (is_on rs p)) (chained p l create) (omega (arith, kept-length n)))
      ∙ sets-kept n

-- what is put down of Sets of which 16 is given to none
pub told_of :
    (rs ps : List ℕ) (k : ℕ) (ms : List Edit) → sets_in rs ps k ≡ ms → length ms ≡ k → (r : Bool) →
    (ns plains cs sees : List ℕ) → NamesIn rs ps k ns → NamedBy (sets_in rs ps k) r plains cs sees → r ≡ true →
    SetsTold rs ms ps ns plains cs sees
told_of rs ps k ms same size r ns plains cs sees names by h = record {
  sets = rw size same;
  names = rw size names;
  rows = rw same at (by.rows h);
  seen = rw same at (by.seen h);
}
