-- Of two Sets on one object, one of which its author had not seen when he made the other, the foes are those that
-- conflict by document 01's rule. Assumes nothing.
use mathlib.Core.Path.{◌≡◌, refl, sym, ap, ◌∙◌}
use mathlib.Core.Bool.{Bool, true, false, not, ◌&&◌}
use Prim.Native.Nat.{ℕ, ◌+◌, ◌*◌, ◌/◌, ◌%◌}
use native.Mathlib.Omega.{arith}
use lib.Dec.{eqb}
use borrow.Author.Tests.{eqb-true, eq-eqb}
use Rattle.math_lists.proofs.Booleans.{same_test, both, and-on}
use Rattle.edit_record.specs.declared.Edit.{Edit}
use Rattle.edit_record.specs.Layout.{two_bytes}
use Rattle.edit_record.specs.Answer1.{is_set}
use Rattle.edit_causal.specs.Causal.{same_edit, has_seen, comes_before}
use Rattle.edit_causal.specs.Conflict.{do_conflict}
use Rattle.edit_causal.specs.ShownValue.{shown_value}
use Rattle.edit_causal.proofs.CausalLaws.{same-symmetric}
use Rattle.group_sight.specs.declared.Side.{Side}
use Rattle.group_sight.specs.SightForms.{NameOf, SideOf, is_foe}
use Rattle.group_sight.proofs.NamesOfSets.{same_name}

-- a target and a key as one number, in its three parts; two are the same if all three are
parts : (x : ℕ) → x ≡ x % 256 + x / 256 % 256 * 256 + x / two_bytes * two_bytes
parts x = omega arith

pub same-aim :
    (x y t q k : ℕ) → x % 256 ≡ t → x / two_bytes ≡ q → x / 256 % 256 ≡ k →
    eqb x y ≡ (eqb t (y % 256) && eqb q (y / two_bytes) && eqb k (y / 256 % 256))
same-aim x y t q k et eq ek =
    same_test (eqb x y) (eqb t (y % 256) && eqb q (y / two_bytes) && eqb k (y / 256 % 256))
    (λ h. let e = eqb-true x y h in
    and-on (eqb t (y % 256) && eqb q (y / two_bytes)) (eqb k (y / 256 % 256))
    (and-on (eqb t (y % 256)) (eqb q (y / two_bytes))
    (eq-eqb t (y % 256) (sym et ∙ ap (λ (n : ℕ). n % 256) e))
    (eq-eqb q (y / two_bytes) (sym eq ∙ ap (λ (n : ℕ). n / two_bytes) e)))
    (eq-eqb k (y / 256 % 256) (sym ek ∙ ap (λ (n : ℕ). n / 256 % 256) e)))
    (λ h. let (p, c) = both (eqb t (y % 256) && eqb q (y / two_bytes)) (eqb k (y / 256 % 256)) h in
    let (a, b) = both (eqb t (y % 256)) (eqb q (y / two_bytes)) p in
    eq-eqb x y
    (parts x
    ∙ rw (
      et ∙ eqb-true t (y % 256) a,
      eq ∙ eqb-true q (y / two_bytes) b,
      ek ∙ eqb-true k (y / 256 % 256) c,
    )
    (sym (parts y))))

-- where one was not seen, they are concurrent if they are two and it had not seen the other
unseen-tells :
    (a b same saw target key other : Bool) →
    (a && b && not same && not saw && (target && key) && other)
    ≡ (a && b && (not same && true && not (not same && saw)) && target && key && other)
unseen-tells true true true saw target key other = refl
unseen-tells true true false true target key other = refl
unseen-tells true true false false target key other = refl
unseen-tells true false same saw target key other = refl
unseen-tells false b same saw target key other = refl

pub foe-conflicts :
    (x : ℕ) (s : Side) (a e : Edit) → NameOf x a → SideOf s e → comes_before a e ≡ false → is_foe x s a ≡ do_conflict a e
foe-conflicts x s a e name side unseen =
    let n = side.name in
    let same = same_edit a.site a.seq e.site e.seq in
    let target = same_edit a.tsite a.tseq e.tsite e.tseq in
    let other = not (eqb (shown_value a.key a.value) (shown_value e.key e.value)) in
    rw (
      same_name x s.name a e name n,
      n.seq,
      n.site,
      side.set,
      side.site,
      side.key,
      side.seq,
      side.shown,
      unseen,
      same-symmetric e.site e.seq a.site a.seq,
    )
    (unseen-tells (is_set a) (is_set e) same (has_seen a.vector e.site e.seq) target (eqb a.key e.key)
    other)
