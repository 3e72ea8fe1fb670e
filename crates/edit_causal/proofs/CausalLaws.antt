-- No edit comes before itself; to be concurrent and to conflict go both ways; no edit conflicts with itself, and those
-- that conflict are concurrent Sets of one object and key. Assumes nothing.
use mathlib.Core.Path.{◌≡◌, ap, ◌∙◌}
use mathlib.Core.Bool.{Bool, true, false, not, ◌&&◌, and_comm, and-false}
use lib.Dec.{eqb}
use Rattle.math_lists.proofs.Booleans.{both, and-turn, eqb-self, eqb_comm}
use Rattle.edit_record.specs.declared.Site.{Site}
use Rattle.edit_record.specs.declared.Seq.{Seq}
use Rattle.edit_record.specs.declared.Edit.{Edit}
use Rattle.edit_record.specs.Answer1.{is_set}
use Rattle.edit_causal.specs.Causal.{same_edit, comes_before, are_concurrent}
use Rattle.edit_causal.specs.Conflict.{do_conflict}
use Rattle.edit_causal.specs.ShownValue.{shown_value}

-- ---- identity

pub same-symmetric : (s : Site) (q : Seq) (t : Site) (p : Seq) → same_edit s q t p ≡ same_edit t p s q
same-symmetric s q t p = rw (eqb_comm s.0 t.0, eqb_comm q.0 p.0)

pub same-reflexive : (s : Site) (q : Seq) → same_edit s q s q ≡ true
same-reflexive s q = rw (eqb-self s.0, eqb-self q.0)

-- ---- before and concurrent

pub before-irreflexive : (a : Edit) → comes_before a a ≡ false
before-irreflexive a = rw (same-reflexive a.site a.seq)

concurrent-symmetric : (a b : Edit) → are_concurrent a b ≡ are_concurrent b a
concurrent-symmetric a b =
    ap (λ (t : Bool). not t && not (comes_before a b) && not (comes_before b a))
    (same-symmetric a.site a.seq b.site b.seq)
    ∙ and-turn (not (same_edit b.site b.seq a.site a.seq)) (not (comes_before a b)) (not (comes_before b a))

-- ---- conflict

pub conflict-symmetric : (a b : Edit) → do_conflict a b ≡ do_conflict b a
conflict-symmetric a b =
    rw (
      and_comm (is_set a) (is_set b),
      concurrent-symmetric a b,
      same-symmetric a.tsite a.tseq b.tsite b.tseq,
      eqb_comm a.key b.key,
      eqb_comm (shown_value a.key a.value) (shown_value b.key b.value),
    )

pub conflict-irreflexive : (a : Edit) → do_conflict a a ≡ false
conflict-irreflexive a = rw (eqb-self (shown_value a.key a.value)) (simp and-false)

-- what a conflict is made of
pub record Conflict (a b : Edit) : Type 0 where
  pub sets : (is_set a && is_set b) ≡ true
  pub concurrent : are_concurrent a b ≡ true
  pub object : same_edit a.tsite a.tseq b.tsite b.tseq ≡ true
  pub key : eqb a.key b.key ≡ true
  pub values : not (eqb (shown_value a.key a.value) (shown_value b.key b.value)) ≡ true

pub conflict-parts : (a b : Edit) → do_conflict a b ≡ true → Conflict a b
conflict-parts a b h =
    let two = is_set a && is_set b in
    let object = same_edit a.tsite a.tseq b.tsite b.tseq in
    let key = eqb a.key b.key in
    let same = eqb (shown_value a.key a.value) (shown_value b.key b.value) in
    let (h3, values) = both (two && are_concurrent a b && object && key) (not same) h in
    let (h2, key-on) = both (two && are_concurrent a b && object) key h3 in
    let (h1, object-on) = both (two && are_concurrent a b) object h2 in
    let (two-on, concurrent-on) = both two (are_concurrent a b) h1 in
    record { sets = two-on; concurrent = concurrent-on; object = object-on; key = key-on; values = values }
