-- In sound tables, and in those whose records pass 1 to 5, the Sets of an object are told whether they conflict: none
-- has seen a later one, no two are one edit, and their keys are keys. Assumes nothing.
use mathlib.Core.Path.{◌≡◌, refl, sym, ap, subst}
use mathlib.Core.Bool.{Bool, true, false, not, ◌&&◌}
use mathlib.Core.List.{List}
use Prim.Native.Nat.{ℕ, ◌≤◌, ◌<◌}
use native.Mathlib.Omega.{arith}
use lib.Dec.{eqb}
use lib.ListN.{length, get_or}
use Rattle.math_lists.specs.SortedLists.{Asc, filter}
use Rattle.math_lists.proofs.Booleans.{both, off}
use Rattle.math_lists.proofs.ListMembers.{chosen_at}
use Rattle.math_lists.proofs.PairsInList.{pairs-at, pairs-chosen, pairs-weaken}
use Rattle.edit_record.specs.declared.Edit.{Edit}
use Rattle.edit_record.specs.declared.Site.{Site}
use Rattle.edit_record.specs.declared.Seq.{Seq}
use Rattle.edit_record.specs.Layout.{most_sites, keys}
use Rattle.edit_record.specs.RecordBytes.{no_edit}
use Rattle.edit_record.specs.Answer1.{is_set}
use Rattle.edit_causal.specs.Causal.{same_edit, has_seen, comes_before}
use Rattle.edit_causal.specs.ShownValue.{shown_value}
use Rattle.edit_causal.proofs.CausalLaws.{same-reflexive}
use Rattle.edit_causal.proofs.Identities.{same_parts}
use Rattle.edit_history.specs.EditsHeld.{record_at, is_set_on, sets_on}
use Rattle.edit_history.specs.Answers2to5.{records_pass}
use Rattle.edit_history.proofs.EditsByPlaces.{edits-pairs}
use Rattle.edit_history.proofs.EditsInPlaces.{sets-length, set-place}
use Rattle.edit_history.proofs.RecordsPassed.{formed-at, one_place}
use Rattle.edit_history.proofs.SeenRanksBefore.{stands-before}
use Rattle.group_sight.specs.SightForms.{sets_in}
use Rattle.table_drawing.specs.Tables.{Tables, held_by}
use Rattle.table_soundness.proofs.SoundFacts.{Sound}
use Rattle.table_sets.specs.KeyForms.{set_at, chain_of, Tells, TellsIn}

-- ---- an edit and a later one

pub record ArrivedLater (a b : Edit) : Type 0 where
  unseen : comes_before b a ≡ false
  other : same_edit a.site a.seq b.site b.seq ≡ false
  key : a.key < keys
  key' : b.key < keys

-- what is left of the test of conflict
shape :
    (h k v : Bool) →
    ((true && true) && ((not false && not (not false && h)) && not false) && true && k && v) ≡ (k && (not h && v))
shape true true true = refl
shape true true false = refl
shape true false true = refl
shape true false false = refl
shape false true true = refl
shape false true false = refl
shape false false true = refl
shape false false false = refl

told-on : (s : Site) (q : Seq) (a b : Edit) → is_set_on s q a ≡ true → is_set_on s q b ≡ true → ArrivedLater a b → Tells a b
told-on s q a b on on' l =
    let (set, aim) = both (is_set a) (same_edit a.tsite a.tseq s q) on in
    let (set', aim') = both (is_set b) (same_edit b.tsite b.tseq s q) on' in
    let (x, y) = same_parts a.tsite a.tseq s q aim in
    let (x', y') = same_parts b.tsite b.tseq s q aim' in
    let one : same_edit a.tsite a.tseq b.tsite b.tseq ≡ true = rw (x, y, x', y') (same-reflexive s q) in
    let own : chain_of a ≡ a.key = omega (arith, l.key) in
    let own' : chain_of b ≡ b.key = omega (arith, l.key') in
    rw (set, set', one, l.unseen, l.other, own, own')
    (shape (has_seen b.vector a.site a.seq) (eqb a.key b.key)
    (not (eqb (shown_value a.key a.value) (shown_value b.key b.value))))

-- where Sets that are told stand in the first k of the places ps
pub tells-in-places :
    (rs ps : List ℕ) (k : ℕ) → k ≤ length ps → Asc Tells (sets_in rs ps k) → TellsIn rs ps k
tells-in-places rs ps k l told i j m b =
    let pair = pairs-at Tells no_edit (sets_in rs ps k) told j i b (omega (arith, sets-length rs ps k l)) in
    subst (λ (x : Edit). Tells x (set_at rs ps i)) (set-place rs ps k l j (omega arith))
    (subst (Tells (get_or (sets_in rs ps k) j no_edit)) (set-place rs ps k l i m) pair)

-- ---- the Sets of an object in tables whose records pass 1 to 5

module _ (t : Tables) (few : t.counters.sites ≤ most_sites)
    (pass : records_pass t.counters.sites t.records t.counters.records ≡ true) where
  abbrev rs : List ℕ
  rs = t.records

  abbrev n : ℕ
  n = t.counters.records

  abbrev sites : ℕ
  sites = t.counters.sites

  later : Asc ArrivedLater (held_by t)
  later =
      edits-pairs rs ArrivedLater n (λ p q l m.
      let a = record_at rs p in
      let b = record_at rs q in
      record {
        unseen =
            off (comes_before b a) (λ h.
            absurd (omega (arith, stands-before sites few rs n pass q p m (omega arith) h)));
        other =
            off (same_edit a.site a.seq b.site b.seq) (λ h.
            let (e, f) = same_parts a.site a.seq b.site b.seq h in
            absurd
            (omega (
              arith,
              one_place sites rs n pass p q (omega arith) m (ap (λ (x : Site). x.0) e) (ap (λ (x : Seq). x.0) f),
            )));
        key = (formed-at sites rs n pass p (omega arith)).key;
        key' = (formed-at sites rs n pass q m).key;
      })

  pub passed-told : (c : Site) (q : Seq) → Asc Tells (sets_on c q (held_by t))
  unfolding sets_on
  passed-told c q =
      let f = is_set_on c q in
      pairs-weaken ArrivedLater Tells (filter f (held_by t))
      (λ a b m k. told-on c q a b (chosen_at f a (held_by t) m).1 (chosen_at f b (held_by t) k).1)
      (pairs-chosen ArrivedLater f (held_by t) later)

  pub passed-tells-in :
      (c : Site) (q : Seq) (ps : List ℕ) (k : ℕ) → k ≤ length ps → sets_in rs ps k ≡ sets_on c q (held_by t) →
      TellsIn rs ps k
  passed-tells-in c q ps k l e = tells-in-places rs ps k l (subst (Asc Tells) (sym e) (passed-told c q))

-- ---- in sound tables

module _ (t : Tables) (s : Sound t) where
  pub sets-told : (c : Site) (q : Seq) → Asc Tells (sets_on c q (held_by t))
  sets-told = passed-told t s.few-sites s.pass

  pub tells-in :
      (c : Site) (q : Seq) (ps : List ℕ) (k : ℕ) → k ≤ length ps →
      sets_in t.records ps k ≡ sets_on c q (held_by t) → TellsIn t.records ps k
  tells-in = passed-tells-in t s.few-sites s.pass
