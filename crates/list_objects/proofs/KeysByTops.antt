-- The key that the code makes of an object, the largest of the rank of its Create and the keys by the to-top edits on
-- it, is the key of the edit that decides its place; so in sound tables the objects, put in order by these keys, stand
-- as the list has them. That a Create ranks before the to-top edits on it is not needed. Assumes, for a list of edits,
-- that of any two one ranks before the other, and that their fields are of the lengths that a record gives them.
use mathlib.Core.Path.{◌≡◌, sym, ◌∙◌}
use mathlib.Core.Bool.{Bool, true, false, cond}
use mathlib.Core.List.Memᴰ
use mathlib.Core.List.{List, [], ◌∷◌}
use Prim.Native.Nat.{ℕ, ◌≤◌, ◌+◌, max}
use native.Mathlib.Omega.{arith}
use borrow.Author.Tests.{ltb-true}
use Rattle.math_lists.specs.NumbersBelow.{keep}
use Rattle.math_lists.specs.SortedLists.{filter, Asc, gather_by}
use Rattle.edit_record.specs.declared.Edit.{Edit}
use Rattle.edit_record.specs.Answer1.{is_create, is_top}
use Rattle.edit_causal.specs.TotalOrder.{ranks_before}
use Rattle.edit_history.specs.EditsHeld.{creates}
use Rattle.table_drawing.specs.Tables.{Tables, held_by}
use Rattle.table_soundness.proofs.SoundFacts.{Sound}
use Rattle.math_lists.specs.Rearranged.{Mem}
use Rattle.math_lists.proofs.ListMembers.{here, chosen_at}
use Rattle.list_version.proofs.RanksStrict.{held-ranked}
use Rattle.list_order.specs.Layers.{is_on, in_order, last_on, deciding}
use Rattle.list_order.specs.LayerForms.{goes_before, rank_of, ranks, key_of}
use Rattle.list_order.proofs.Comparing.{level_before, rest-first, create-not-top}
use Rattle.list_order.proofs.Deciding.{Ranked, AllRanked, counted-sorted, counted-at, named-held}
use Rattle.list_order.proofs.Keys.{Sized, key-order}
use Rattle.list_order.proofs.Held.{numbers, create_at, number-on, creates-are, held-sized, objects-by-keys}
use Rattle.list_objects.specs.Objects.{create_of, objects_of}
use Rattle.list_objects.specs.ObjectForms.{key_on, largest_of, key_among, goes_first}
use Rattle.list_objects.proofs.LargestKey.{largest-gathered}

-- ---- in the total order the last to-top on an object has the largest key

-- what goes before has the smaller key
goes-below : (m n : Edit) → Sized m → Sized n → goes_before m n ≡ true → key_of m ≤ key_of n
goes-below m n p q h = omega (arith, ltb-true (key_of m) (key_of n) (key-order m n p q ∙ h))

rest-key : (e : Edit) → is_top e ≡ false → key_of e ≡ rank_of e
unfolding key_of
rest-key e h = rw h

top_key : (e : Edit) → is_top e ≡ true → key_of e ≡ ranks + rank_of e
unfolding key_of
top_key e h = rw h

module _ (c : Edit) where
  abbrev most : List Edit → ℕ
  most ls = largest_of (key_on c.site c.seq) ls

  largest-is-last :
      (m : Edit) (ls : List Edit) → Asc Ranked ls → ((e : Edit) → Mem e ls → (is_top e ≡ true) × Sized e) →
      ((e : Edit) → Mem e ls → key_of m ≤ key_of e) → max (key_of m) (most ls) ≡ key_of (last_on c m ls)
  unfolding largest_of last_on
  largest-is-last m [] a fit low = omega arith
  largest-is-last m (e ∷ ls) (above, a) fit low =
      go (is_on c e)
      (largest-is-last e ls a (λ f k. fit f (Memᴰ.tail k)) later)
      (largest-is-last m ls a (λ f k. fit f (Memᴰ.tail k)) (λ f k. low f (Memᴰ.tail k)))
    where
      later : (f : Edit) → Mem f ls → key_of e ≤ key_of f
      later f k =
          let (te, se) = fit e here in
          let (tf, sf) = fit f (Memᴰ.tail k) in
          goes-below e f se sf (level_before e f (te ∙ sym tf) (above f k))

      go : (b : Bool) → max (key_of e) (most ls) ≡ key_of (last_on c e ls) →
          max (key_of m) (most ls) ≡ key_of (last_on c m ls) →
          max (key_of m) (max (cond b (ranks + rank_of e) 0) (most ls)) ≡ key_of (last_on c (cond b e m) ls)
      go true x y = omega (arith, top_key e (fit e here).0, low e here, x)
      go false x y = omega (arith, y)

-- ---- the key of what decides

module _ (es : List Edit) (ranked : AllRanked es) (sized : (e : Edit) → Mem e es → Sized e)
    (c : Edit) (create : is_create c ≡ true) (own : Sized c) where
  key-decides : key_among (filter is_top es) c ≡ key_of (deciding es c)
  unfolding key_among deciding in_order largest_of
  key-decides =
      let ls = in_order (filter is_top es) in
      let rest : is_top c ≡ false = create-not-top c create in
      let rank : key_of c ≡ rank_of c = rest-key c rest in
      let at : (e : Edit) → Mem e ls → (is_top e ≡ true) × Sized e
      = λ e m. let (k, h) = counted-at is_top es e m in (h, sized e k) in
      let last = largest-is-last c c ls (counted-sorted is_top es ranked) at
      (λ e m. let (t, s) = at e m in goes-below c e own s (rest-first c e rest t)) in
      omega (arith, rank, last, largest-gathered (key_on c.site c.seq) ranks_before [] (filter is_top es))

-- ---- in sound tables

pub in_order_lem :
    (t : Tables) → Sound t →
    gather_by (goes_first t.records t.counters.records t.objects) [] (keep t.counters.objects (λ o. true))
    ≡ objects_of t
unfolding objects_of creates
in_order_lem t s =
    objects-by-keys t s (λ o. key_among (filter is_top (held_by t)) (create_of t o))
    (λ o l.
    let (held, create) = chosen_at is_create (create_at t o) (held_by t)
    (named-held (held_by t) (create_at t) (numbers t) (creates-are t s) o (number-on t o l)) in
    key-decides (held_by t) (held-ranked t s) (held-sized t s) (create_of t o) create
    (held-sized t s (create_at t o) held))
