-- Comparing by deciding edits is a strict order, and tells any two apart of which one ranks before the other.
-- Assumes nothing.
use mathlib.Core.Path.{◌≡◌, refl, sym, ◌∙◌}
use mathlib.Core.Logic.{◌⊎◌, inl, inr}
use mathlib.Core.Bool.{Bool, true, false, ◌&&◌, ◌||◌, cond}
use native.Mathlib.Omega.{arith}
use borrow.Author.Tests.{eqb-true}
use Rattle.math_lists.proofs.Booleans.{clash, decide, off}
use Rattle.math_lists.proofs.PutInOrder.{OneWay}
use Rattle.edit_record.specs.declared.Edit.{Edit}
use Rattle.edit_record.specs.Layout.{create_kind, top_kind}
use Rattle.edit_record.specs.Answer1.{is_create, is_top}
use Rattle.edit_causal.specs.TotalOrder.{ranks_before}
use Rattle.list_version.proofs.RanksStrict.{not_itself_lem, ranks-through}
use Rattle.list_order.specs.LayerForms.{goes_before}

-- ---- by whether each is at the top, a and b, and by a test of their ranks, r

goes : Bool → Bool → Bool → Bool
goes a b r = cond a (b && r) (b || r)

goes-level : (a r : Bool) → goes a a r ≡ r
unfolding goes
goes-level true r = refl
goes-level false r = refl

through :
    (a b c r s t : Bool) → (r ≡ true → s ≡ true → t ≡ true) → goes a b r ≡ true → goes b c s ≡ true →
    goes a c t ≡ true
unfolding goes
through true true true r s t f h k = f h k
through true true false r s t f h k = clash k refl
through true false c r s t f h k = clash h refl
through false true true r s t f h k = refl
through false true false r s t f h k = clash k refl
through false false true r s t f h k = refl
through false false false r s t f h k = f h k

one_way :
    (a b r s : Bool) → (r ≡ true) ⊎ (s ≡ true) → (goes a b r ≡ true) ⊎ (goes b a s ≡ true)
unfolding goes
one_way true true r s w = w
one_way true false r s w = inr refl
one_way false true r s w = inl refl
one_way false false r s w = w

-- ---- a strict order

pub not-before-itself : (m : Edit) → goes_before m m ≡ true → ⊥
unfolding goes_before goes
not-before-itself m h = clash h (goes-level (is_top m) (ranks_before m m) ∙ not_itself_lem m)

pub goes_through : (m n o : Edit) → goes_before m n ≡ true → goes_before n o ≡ true → goes_before m o ≡ true
unfolding goes_before goes
goes_through m n o h k =
    through (is_top m) (is_top n) (is_top o) (ranks_before m n) (ranks_before n o) (ranks_before m o)
    (ranks-through m n o) h k

-- ---- between any two

pub one-way-turned : (m n : Edit) → OneWay ranks_before m n → OneWay ranks_before n m
one-way-turned m n (inl h) = inr h
one-way-turned m n (inr h) = inl h

pub one-goes : (m n : Edit) → OneWay ranks_before m n → OneWay goes_before m n
unfolding goes_before goes
one-goes m n w = one_way (is_top m) (is_top n) (ranks_before m n) (ranks_before n m) w

-- ---- by rank, where both are at the top or neither is

pub level_before : (m n : Edit) → is_top m ≡ is_top n → ranks_before m n ≡ true → goes_before m n ≡ true
unfolding goes_before goes
level_before m n e h = rw e (goes-level (is_top n) (ranks_before m n) ∙ h)

-- ---- and else the one that is at the top goes last

pub rest-first : (m n : Edit) → is_top m ≡ false → is_top n ≡ true → goes_before m n ≡ true
unfolding goes_before
rest-first m n p q = rw (p, q)

-- what m decides goes before what a later to-top decides
pub top-last : (m e : Edit) → is_top e ≡ true → (is_top m ≡ true → ranks_before m e ≡ true) → goes_before m e ≡ true
top-last m e t h = elim (decide (is_top m)) [
  | inl p ↦ level_before m e (p ∙ sym t) (h p)
  | inr p ↦ rest-first m e p t
]

-- ---- no Create is at the top

pub create-not-top : (e : Edit) → is_create e ≡ true → is_top e ≡ false
create-not-top e h =
    off (is_top e) (λ k. omega (arith, eqb-true e.kind create_kind h, eqb-true e.kind top_kind k))
