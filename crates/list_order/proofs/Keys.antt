-- One number for each object: put in order by their keys, the objects stand as the list has them. Assumes that of any
-- two deciding edits one ranks before the other, and that the entries of a vector are of two bytes and a site of one.
use mathlib.Core.Path.{◌≡◌, refl, sym, ap₂, ◌∙◌}
use mathlib.Core.Bool.{Bool, true, false, ◌&&◌, ◌||◌, cond}
use mathlib.Core.List.Memᴰ
use mathlib.Core.List.{List, []}
use Prim.Native.Nat.{ℕ, ◌+◌, ◌-◌, ◌<◌}
use native.Mathlib.Omega.{arith}
use lib.Dec.{ltb}
use lib.ListN.{get_or}
use borrow.Author.Tests.{ltb-true, lt-ltb, le-ltb}
use Rattle.math_lists.specs.SortedLists.{Asc, gather_by}
use Rattle.math_lists.proofs.Booleans.{same_test}
use Rattle.math_lists.proofs.NumbersBelow.{sum_below}
use Rattle.math_lists.proofs.PutInOrder.{gathered-same}
use Rattle.edit_record.specs.declared.Edit.{Edit}
use Rattle.edit_record.specs.Answer1.{is_top}
use Rattle.edit_record.specs.Layout.{most_sites, two_bytes}
use Rattle.edit_causal.specs.TotalOrder.{vector_sum, ranks_before}
use Rattle.math_lists.specs.Rearranged.{Mem}
use Rattle.list_version.specs.Identifier.{site_numbers}
use Rattle.list_version.proofs.Names.{two-in-one}
use Rattle.list_order.specs.Layers.{standing}
use Rattle.list_order.specs.LayerForms.{goes_before, rank_of, ranks, key_of}
use Rattle.list_order.proofs.Standing.{OneRanks, standing-by-comparing}

-- ---- ranks

-- the fields of e are of the lengths that a record gives them
pub record Sized (e : Edit) : Type 0 where
  pub site : e.site.0 < site_numbers
  pub entries : (i : ℕ) → i < most_sites → get_or e.vector i 0 < two_bytes

rank_below : (e : Edit) → Sized e → rank_of e < ranks
unfolding vector_sum
rank_below e s =
    omega (
      arith,
      s.site,
      sum_below most_sites (two_bytes - 1) (λ i. get_or e.vector i 0) (λ i l. omega (arith, s.entries i l)),
    )

ranks-order : (m n : Edit) → Sized m → Sized n → ranks_before m n ≡ ltb (rank_of m) (rank_of n)
ranks-order m n p q =
    sym (two-in-one site_numbers (vector_sum m.vector) (vector_sum n.vector) m.site.0 n.site.0 p.site
    q.site)

-- ---- keys

keyed : ℕ → Bool → ℕ → ℕ
keyed top t r = cond t (top + r) r

keyed-order :
    (top : ℕ) (t u : Bool) (r s : ℕ) → r < top → s < top →
    ltb (keyed top t r) (keyed top u s) ≡ cond t (u && ltb r s) (u || ltb r s)
unfolding keyed
keyed-order top true true r s l k =
    same_test (ltb (top + r) (top + s)) (ltb r s)
    (λ h. lt-ltb r s (omega (arith, ltb-true (top + r) (top + s) h)))
    (λ h. lt-ltb (top + r) (top + s) (omega (arith, ltb-true r s h)))
keyed-order top true false r s l k = le-ltb (top + r) s (omega arith)
keyed-order top false true r s l k = lt-ltb r (top + s) (omega arith)
keyed-order top false false r s l k = refl

pub key-order : (m n : Edit) → Sized m → Sized n → ltb (key_of m) (key_of n) ≡ goes_before m n
unfolding key_of goes_before keyed
key-order m n p q =
    keyed-order ranks (is_top m) (is_top n) (rank_of m) (rank_of n) (rank_below m p) (rank_below n q)
    ∙ rw (ranks-order m n p q)

-- ---- put in order by them

module _ {A : Type 0} (last : A → Edit) (xs : List A) (ranked : Asc (OneRanks last) xs)
    (sized : (x : A) → Mem x xs → Sized (last x)) where
  -- by any numbers that are the keys
  pub standing-by-numbers :
      (key : A → ℕ) → ((x : A) → Mem x xs → key x ≡ key_of (last x)) →
      gather_by (λ a b. ltb (key a) (key b)) [] xs ≡ standing last xs
  standing-by-numbers key are =
      gathered-same (λ a b. ltb (key a) (key b)) (λ a b. goes_before (last a) (last b)) (λ x. Mem x xs)
      (λ a b m k. ap₂ ltb (are a m) (are b k) ∙ key-order (last a) (last b) (sized a m) (sized b k)) [] xs
      (λ x m. absurd (Memᴰ.not-nil m)) (λ x m. m)
      ∙ standing-by-comparing last xs ranked

  pub standing-by-keys : gather_by (λ a b. ltb (key_of (last a)) (key_of (last b))) [] xs ≡ standing last xs
  standing-by-keys = standing-by-numbers (λ x. key_of (last x)) (λ x m. refl)
