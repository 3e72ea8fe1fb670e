-- `table_index::add` meets its contract: a Create gets the next number, a Set stands at the head of its chain, and any
-- other record has its place alone. Assumes nothing.
use mathlib.Core.Path.{◌≡◌, sym, ap, subst, ◌∙◌}
use mathlib.Core.Bool.{Bool, true, false, not, cond, ◌||◌}
use mathlib.Core.List.{List}
use Prim.Native.Nat.{ℕ, suc, ◌+◌, ◌<◌}
use native.Mathlib.Numerals.{add-one}
use native.Mathlib.Omega.{arith}
use lib.Dec.{eqb}
use lib.ListN.{get_or, set}
use borrow.Author.Tests.{eq-eqb, ne_eqb, not-false}
use Rattle.edit_record.specs.Layout.{create_kind, set_kind, limited_kind}
use Rattle.edit_record.specs.Answer1.{is_create, is_set}
use Rattle.edit_history.specs.EditsHeld.{record_at}
use Rattle.edit_history.proofs.FieldsInPlace.{key-in-place}
use Rattle.edit_walk.specs.WalkForms.{places_length, slot_of, place_of, Spaced, count_in}
use Rattle.group_step.specs.GroupRows.{most_objects, most_sets}
use Rattle.table_index.specs.IndexForms.{number_at, is_on}
use Rattle.table_index.proofs.OneRecordMore.{spot-low, starts-kept, number-low, number_more, create-added}
use Rattle.table_index.proofs.OneRecordMore.{place-added, target_at, room, low, key-low, set-added}
use borrow.Author.Rules.{rules}
use Rattle.table_index.proofs.add.Goals as goal
use Rattle.table_index.proofs.add.Goals.{Start}

-- the index has room for the record
room_of : (s : Start) → Spaced (count_in s.args.recs.now (suc s.args.p)) s.args.ix.now.places
room_of s = rw add-one at s.requires.3

-- the record in place p is a Set, by the test of its kind
set_is :
    (rs : List ℕ) (p : ℕ) {k : ℕ} (r : Bool) → r ≡ (eqb k set_kind || eqb k limited_kind) → k ≡ (record_at rs p).kind →
    not r ≡ false →
    is_set (record_at rs p) ≡ true
set_is rs p r is kind on = rw kind at (sym is ∙ not-false r on)

-- what the index has of the Create in place r, the target of a Set
record Aim (s : Start) (r : ℕ) : Type 0 where
  before : r < s.args.p
  create : is_create (record_at s.args.recs.now r) ≡ true
  on : is_on s.args.recs.now r s.args.p ≡ true
  number : get_or s.args.ix.now.numbers r 0 ≡ number_at s.args.recs.now r
  few : number_at s.args.recs.now r < most_objects
  left : get_or s.args.ix.now.counts (number_at s.args.recs.now r) 0 < most_sets

abbrev with-place : Start → List ℕ
with-place s =
    let e = record_at s.args.recs.now s.args.p in
    set s.args.ix.now.places (slot_of s.args.ix.now.places e.site.0 e.seq.0) s.args.p

aim :
    (s : Start) → is_set (record_at s.args.recs.now s.args.p) ≡ true → (r : ℕ) →
    (let e = record_at s.args.recs.now s.args.p in r ≡ place_of (with-place s) e.tsite.0 e.tseq.0) →
    Aim s r
aim s is r there =
    let a = s.args in
    let rs = a.recs.now in
    let (d, h, l) = s.requires.0 in
    let x = s.requires.1 in
    let y = room_of s in
    let (q, m, create, on, at)
    = target_at d rs h a.p l a.ix.now.places a.ix.now.numbers a.ix.now.counts a.ix.now.chains x y is in
    let e : r ≡ q = there ∙ at in
    subst (Aim s) (sym e)
    (record {
      before = m;
      create = create;
      on = on;
      number = x.numbered q m create;
      few = low d rs h a.p l a.ix.now.places a.ix.now.numbers a.ix.now.counts a.ix.now.chains x y q m create
          on;
      left = room d rs h a.p l a.ix.now.places a.ix.now.numbers a.ix.now.counts a.ix.now.chains x y q m
          create on;
    })

pub spot-at-requires : goal.spot-at-requires
spot-at-requires c =
    let s = c in
    let (d, h, l) = s.requires.0 in
    omega (arith, h.few-records, l)

pub offset_bounds-ix-at : goal.offset_bounds-ix-at
offset_bounds-ix-at c =
    let s = c in
    let a = s.args in
    let (d, h, l) = s.requires.0 in
    let x = s.requires.1 in
    let y = room_of (goal.at.offset_bounds-ix-at c).Start in
    let low : c.spot-at.result < places_length
    = rw c.spot-at.ensures
    (spot-low d a.recs.now h a.p l a.ix.now.places a.ix.now.numbers a.ix.now.counts a.ix.now.chains
    x y) in
    search (rules, low)

pub bounds-ix-at : goal.bounds-ix-at
bounds-ix-at c =
    let s = c in
    let a = s.args in
    let (d, h, l) = s.requires.0 in
    let x = s.requires.1 in
    let y = room_of (goal.at.bounds-ix-at c).Start in
    rw c.spot-at.ensures
    (spot-low d a.recs.now h a.p l a.ix.now.places a.ix.now.numbers a.ix.now.counts a.ix.now.chains
    x y)

pub overflow_cast-ix-then-kind-eq-CREATE : goal.overflow_cast-ix-then-kind-eq-CREATE
overflow_cast-ix-then-kind-eq-CREATE c =
    let s = c in
    let a = s.args in
    let (d, h, l) = s.requires.0 in
    search (rules, number-low d a.recs.now h a.p l, s.requires.2)

pub overflow_add-result : goal.overflow_add-result
overflow_add-result c =
    let s = c in
    let a = s.args in
    let (d, h, l) = s.requires.0 in
    search (rules, number-low d a.recs.now h a.p l, s.requires.2)

pub returns-then-kind-eq-CREATE : goal.returns-then-kind-eq-CREATE
returns-then-kind-eq-CREATE c =
    let s = c in
    let a = s.args in
    let rs = a.recs.now in
    let (d, h, l) = s.requires.0 in
    let is : is_create (record_at rs a.p) ≡ true
    = eq-eqb (record_at rs a.p).kind create_kind (sym c.kind_at-kind.ensures ∙ c.if-kind-eq-CREATE.true) in
    let more : number_at rs (suc a.p) ≡ number_at rs a.p + 1
    = number_more d rs h a.p l ∙ ap (λ (b : Bool). number_at rs a.p + cond b 1 0) is in (
      rw (add-one a.p, c.spot-at.ensures, s.requires.2)
          (create-added d rs h a.p l a.ix.now.places a.ix.now.numbers a.ix.now.counts a.ix.now.chains
          s.requires.1 (room_of (goal.at.returns-then-kind-eq-CREATE c).Start) is),
      rw (add-one a.p) (omega (arith, more, s.requires.2)),
      rw c.spot-at.ensures
          (starts-kept d rs h a.p l a.ix.now.places a.ix.now.numbers a.ix.now.counts a.ix.now.chains
          s.requires.1 (room_of (goal.at.returns-then-kind-eq-CREATE c).Start)),
    )

pub returns-then-not-is_set_kind : goal.returns-then-not-is_set_kind
returns-then-not-is_set_kind c =
    let s = c in
    let a = s.args in
    let rs = a.recs.now in
    let (d, h, l) = s.requires.0 in
    let kind = c.kind_at-kind.ensures in
    let none : is_create (record_at rs a.p) ≡ false
    = ne_eqb (record_at rs a.p).kind create_kind (λ y. c.if-kind-eq-CREATE.false (kind ∙ y)) in
    let other : is_set (record_at rs a.p) ≡ false
    = rw kind at (sym c.is_set_kind.ensures ∙ c.if-not-is_set_kind.true) in
    let more : number_at rs (suc a.p) ≡ number_at rs a.p + 0
    = number_more d rs h a.p l ∙ ap (λ (b : Bool). number_at rs a.p + cond b 1 0) none in (
      rw (add-one a.p, c.spot-at.ensures)
          (place-added d rs h a.p l a.ix.now.places a.ix.now.numbers a.ix.now.counts a.ix.now.chains
          s.requires.1 (room_of (goal.at.returns-then-not-is_set_kind c).Start) none other),
      rw (add-one a.p) (omega (arith, more, s.requires.2)),
      rw c.spot-at.ensures
          (starts-kept d rs h a.p l a.ix.now.places a.ix.now.numbers a.ix.now.counts a.ix.now.chains
          s.requires.1 (room_of (goal.at.returns-then-not-is_set_kind c).Start)),
    )

pub bounds-ix-q : goal.bounds-ix-q
bounds-ix-q c =
    let c4 = c in
    let c6 = c4 in
    let c7 = c6 in
    let s = c7 in
    let (d, h, l) = s.requires.0 in
    let f = c.target_place-q in
    let is = set_is s.args.recs.now s.args.p c4.is_set_kind.result c4.is_set_kind.ensures
    c6.kind_at-kind.ensures c.if-not-is_set_kind.false-raw in
    let t = aim (goal.at.bounds-ix-q c).Start is f.result (rw c7.spot-at.ensures at f.ensures) in
    omega (arith, s.requires.1.numbers-long, t, h.few-records, l)

pub overflow_cast-o-2 : goal.overflow_cast-o-2
overflow_cast-o-2 c =
    let c5 = c in
    let c8 = c5 in
    let c10 = c8 in
    let c11 = c10 in
    let s = c11 in
    let a = s.args in
    let rs = a.recs.now in
    let f = c5.target_place-q in
    let is = set_is rs a.p c8.is_set_kind.result c8.is_set_kind.ensures c10.kind_at-kind.ensures
    c5.if-not-is_set_kind.false-raw in
    let t = aim (goal.at.overflow_cast-o-2 c).Start is f.result (rw c11.spot-at.ensures at f.ensures) in
    let low : get_or a.ix.now.numbers f.result 0 < most_objects = rw t.number t.few in
    search (rules, low)

pub add_set-requires : goal.add_set-requires
add_set-requires c =
    let c5 = c in
    let c8 = c5 in
    let c10 = c8 in
    let c11 = c10 in
    let s = c11 in
    let a = s.args in
    let rs = a.recs.now in
    let (d, h, l) = s.requires.0 in
    let x = s.requires.1 in
    let f = c5.target_place-q in
    let is = set_is rs a.p c8.is_set_kind.result c8.is_set_kind.ensures c10.kind_at-kind.ensures
    c5.if-not-is_set_kind.false-raw in
    let t = aim (goal.at.add_set-requires c).Start is f.result (rw c11.spot-at.ensures at f.ensures) in
    let key = key-low d rs h a.p l a.ix.now.places a.ix.now.numbers a.ix.now.counts a.ix.now.chains x
    (room_of (goal.at.add_set-requires c).Start) f.result t.before t.create t.on in (
      omega (arith, h.few-records, l),
      rw t.number t.few,
      rw (c.byte_at-key.ensures, ← key-in-place rs a.p) key,
      omega arith,
      omega arith,
      omega arith,
      rw t.number t.left,
    )

pub returns : goal.returns
returns c =
    let c6 = c in
    let c10 = c6 in
    let c12 = c10 in
    let c15 = c12 in
    let c17 = c15 in
    let c18 = c17 in
    let s = c18 in
    let a = s.args in
    let rs = a.recs.now in
    let (d, h, l) = s.requires.0 in
    let x = s.requires.1 in
    let f = c12.target_place-q in
    let none : is_create (record_at rs a.p) ≡ false
    = ne_eqb (record_at rs a.p).kind create_kind (λ y. c15.if-kind-eq-CREATE.false (c17.kind_at-kind.ensures ∙ y)) in
    let is = set_is rs a.p c15.is_set_kind.result c15.is_set_kind.ensures c17.kind_at-kind.ensures
    c12.if-not-is_set_kind.false-raw in
    let t = aim (goal.at.returns c).Start is f.result (rw c18.spot-at.ensures at f.ensures) in
    let key : c10.byte_at-key.result ≡ (record_at rs a.p).key
    = c10.byte_at-key.ensures ∙ sym (key-in-place rs a.p) in
    let added = c6.add_set.ensures in
    let more : number_at rs (suc a.p) ≡ number_at rs a.p + 0
    = number_more d rs h a.p l ∙ ap (λ (b : Bool). number_at rs a.p + cond b 1 0) none in (
      rw (add-one a.p, added.0, added.1, added.2, t.number, key, c17.kind_at-kind.ensures, c18.spot-at.ensures)
          (set-added d rs h a.p l a.ix.now.places a.ix.now.numbers a.ix.now.counts a.ix.now.chains x
          (room_of (goal.at.returns c).Start) f.result t.before t.create t.on),
      rw (add-one a.p) (omega (arith, more, s.requires.2)),
      rw c18.spot-at.ensures
          (starts-kept d rs h a.p l a.ix.now.places a.ix.now.numbers a.ix.now.counts a.ix.now.chains x
          (room_of (goal.at.returns c).Start)),
    )
