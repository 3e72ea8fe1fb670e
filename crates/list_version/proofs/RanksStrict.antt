-- Ranks in the total order: it is strict, and of two edits of sound tables one ranks before the other, so that
-- `stands_before` is the total order there. Assumes nothing.
use mathlib.Core.Path.{◌≡◌, sym, ap, ◌∙◌}
use mathlib.Core.Logic.{◌⊎◌, inl, inr}
use mathlib.Core.Bool.{Bool, true, false, not, ◌&&◌, ◌||◌}
use mathlib.Core.List.{List, [], ◌∷◌}
use Prim.Native.Nat.{ℕ, ◌≤◌, ◌<◌}
use native.Mathlib.Omega.{arith}
use native.Mathlib.Decide.{dec_lt, ℕ_discrete}
use borrow.Author.Tests.{eq-eqb, ne_eqb, le-leb, not-true}
use lib.Dec.{eqb, ltb}
use lib.ListN.{get_or}
use Rattle.math_lists.specs.SortedLists.{Asc}
use Rattle.math_lists.proofs.PutInOrder.{OneWay}
use Rattle.math_lists.proofs.Booleans.{clash, decide, off, both, and-on, either, or_left, or_off, neither}
use Rattle.edit_record.specs.declared.Edit.{Edit}
use Rattle.edit_record.specs.Layout.{most_sites}
use Rattle.edit_causal.specs.Causal.{same_edit, has_seen}
use Rattle.edit_causal.specs.TotalOrder.{vector_sum, ranks_before}
use Rattle.edit_history.specs.EditsHeld.{record_at}
use Rattle.edit_history.specs.Answers2to5.{records_pass}
use Rattle.edit_history.proofs.RecordsPassed.{formed-at, seq-later}
use Rattle.edit_history.proofs.SeenRanksBefore.{before-ranks}
use Rattle.table_drawing.specs.Tables.{Tables, held_by}
use Rattle.table_soundness.proofs.SoundFacts.{Sound}
use Rattle.list_version.specs.Values.{stands_before}
use Rattle.list_version.specs.VersionOrder.{lex}
use Rattle.list_version.proofs.ListsCompared.{lex-last, before-through, lex-irreflexive, lex-neither}
use Rattle.list_version.proofs.ListsCompared.{not-before-through}
use Rattle.edit_history.proofs.EditsByPlaces.{edits-pairs}

-- ---- a strict order

-- where an edit ranks: by its vector sum, then by its site
abbrev rank : Edit → List ℕ
rank e = vector_sum e.vector ∷ e.site.0 ∷ []

module _ (a b : Edit) where
  ranks-as : ranks_before a b ≡ lex false (rank a) (rank b)
  unfolding lex
  ranks-as =
      let m = vector_sum a.vector in
      let n = vector_sum b.vector in
      ap (λ (t : Bool). ltb m n || eqb m n && t) (lex-last a.site.0 b.site.0)

  as-ranks : (t : Bool) → ranks_before a b ≡ t → lex false (rank a) (rank b) ≡ t
  as-ranks t h = sym ranks-as ∙ h

pub not_itself_lem : (a : Edit) → ranks_before a a ≡ false
not_itself_lem a = ranks-as a a ∙ lex-irreflexive (rank a)

pub ranks-through : (a b c : Edit) → ranks_before a b ≡ true → ranks_before b c ≡ true → ranks_before a c ≡ true
ranks-through a b c h k =
    ranks-as a c ∙ before-through (rank a) (rank b) (rank c) (as-ranks a b true h) (as-ranks b c true k)

not_back : (a b : Edit) → ranks_before a b ≡ true → ranks_before b a ≡ false
not_back a b h = off (ranks_before b a) (λ k. clash (ranks-through a b a h k) (not_itself_lem a))

-- y does not rank after e, nor e after x, so y not after x
pub not_after : (x e y : Edit) → ranks_before e y ≡ false → ranks_before x e ≡ false → ranks_before x y ≡ false
not_after x e y h k =
    ranks-as x y ∙ not-before-through (rank x) (rank e) (rank y) (as-ranks x e false k) (as-ranks e y false h)

-- edits of two sites never tie
one_of_two :
    (a b : Edit) → (a.site.0 ≡ b.site.0 → ⊥) → (ranks_before a b ≡ true) ⊎ (ranks_before b a ≡ true)
one_of_two a b d = elim (decide (ranks_before a b)) [
  | inl h ↦ inl h
  | inr h ↦ elim (decide (ranks_before b a)) [
    | inl k ↦ inr k
    | inr k ↦
        absurd (d (ap (λ (l : List ℕ). get_or l 1 0)
        (lex-neither (rank a) (rank b) (as-ranks a b false h) (as-ranks b a false k))))
  ]
]

-- ---- the last of two

pub stands-true : (a b : Edit) → stands_before a b ≡ true → ranks_before b a ≡ false
stands-true a b h =
    elim (either (ranks_before a b) (not (ranks_before b a) && ltb a.value b.value) h) [
      | inl r ↦ not_back a b r
      | inr q ↦ not-true (ranks_before b a) (both (not (ranks_before b a)) (ltb a.value b.value) q).0
    ]

pub stands-false : (a b : Edit) → stands_before a b ≡ false → ranks_before a b ≡ false
stands-false a b h = (neither (ranks_before a b) (not (ranks_before b a) && ltb a.value b.value) h).0

-- ---- in sound tables

module _ (sites : ℕ) (few : sites ≤ most_sites) (rs : List ℕ) (n : ℕ) (pass : records_pass sites rs n ≡ true) where
  -- an edit has seen the earlier ones of its site
  site-ranks :
      (p q : ℕ) → p < q → q < n → (record_at rs p).site.0 ≡ (record_at rs q).site.0 →
      ranks_before (record_at rs p) (record_at rs q) ≡ true
  site-ranks p q l lq e =
      let a = record_at rs p in
      let b = record_at rs q in
      let less : a.seq.0 < b.seq.0 = seq-later sites rs n pass p q l lq e in
      let own : b.seq.0 ≡ get_or b.vector a.site.0 0
      = (formed-at sites rs n pass q lq).own ∙ ap (λ (s : ℕ). get_or b.vector s 0) (sym e) in
      let differ : not (same_edit a.site a.seq b.site b.seq) ≡ true
      = rw (eq-eqb a.site.0 b.site.0 e, ne_eqb a.seq.0 b.seq.0 (λ q. omega arith)) in
      let seen : has_seen b.vector a.site a.seq ≡ true
      = le-leb a.seq.0 (get_or b.vector a.site.0 0) (omega arith) in
      before-ranks sites few rs n pass p q (omega arith) lq
      (and-on (not (same_edit a.site a.seq b.site b.seq)) _ differ seen)

  pub one-ranks :
      (p q : ℕ) → p < n → q < n → (p ≡ q → ⊥) →
      (ranks_before (record_at rs p) (record_at rs q) ≡ true) ⊎ (ranks_before (record_at rs q) (record_at rs p) ≡ true)
  one-ranks p q lp lq d =
      let a = record_at rs p in
      let b = record_at rs q in
      elim (ℕ_discrete a.site.0 b.site.0) [
        | yes e ↦
            elim (dec_lt p q) [
              | yes l ↦ inl (site-ranks p q l lq e)
              | no l ↦ inr (site-ranks q p (omega arith) lp (sym e))
            ]
        | no e ↦ one_of_two a b e
      ]

  pub stands-by-rank :
      (p q : ℕ) → p < n → q < n → (p ≡ q → ⊥) →
      stands_before (record_at rs p) (record_at rs q) ≡ ranks_before (record_at rs p) (record_at rs q)
  stands-by-rank p q lp lq d =
      let a = record_at rs p in
      let b = record_at rs q in
      elim (one-ranks p q lp lq d) [
        | inl h ↦ or_left (ranks_before a b) (not (ranks_before b a) && ltb a.value b.value) h ∙ sym h
        | inr h ↦
            or_off (ranks_before a b) (not (ranks_before b a) && ltb a.value b.value) (not_back b a h)
            (ap (λ (t : Bool). not t && ltb a.value b.value) h)
            ∙ sym (not_back b a h)
      ]

-- of two edits held one ranks before the other
pub held-ranked : (t : Tables) → Sound t → Asc (OneWay ranks_before) (held_by t)
held-ranked t s =
    let n = t.counters.records in
    edits-pairs t.records (OneWay ranks_before) n (λ p q l m.
    one-ranks t.counters.sites s.few-sites t.records n s.pass p q (omega arith) m (λ e. omega arith))
