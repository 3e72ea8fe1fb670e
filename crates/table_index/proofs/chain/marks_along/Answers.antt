-- `table_index::chain::marks_along` meets its contract: the Sets from the place m on are marked, and the chain goes on
-- below it. Assumes nothing.
use mathlib.Core.Path.{◌≡◌, sym, ap, ap₂, subst, ◌∙◌}
use mathlib.Core.Bool.{Bool, false, cond}
use mathlib.Core.List.{[], ◌∷◌, map}
use Prim.Native.Nat.{ℕ, suc, ◌+◌, ◌^◌, ◌≤◌, ◌<◌}
use native.Mathlib.Omega.{arith}
use lib.Dec.{eqb}
use lib.ListN.{get_or, length, length-append, length-map}
use lib.Pow.{pow_mono}
use borrow.Author.Tests.{eqb-true}
use borrow.Author.Rules.{rules}
use Rattle.math_lists.proofs.Booleans.{both, off}
use Rattle.edit_record.specs.RecordBytes.{decode_of}
use Rattle.edit_causal.proofs.PlainMarks.{marked-below}
use Rattle.edit_causal.specs.Conflict.{do_conflict}
use Rattle.edit_causal.specs.ShownValue.{shown_value}
use Rattle.edit_history.specs.EditsHeld.{record_at}
use Rattle.edit_history.proofs.EditsHeld.{target-parts}
use Rattle.edit_history.proofs.RecordsPassed.{set_after}
use Rattle.table_index.specs.IndexForms.{number_at, is_on, places_on, head_at, link_at, latest_on, unseen_other, marks_on}
use Rattle.table_index.proofs.ChainsOfSets.{latest-low, Down, marks-down, marks-none}
use Rattle.table_index.proofs.PlacesOfSets.{places-added, places-grow, places-length}
use Rattle.table_index.proofs.ArrivingSet.{in-turn, conflict-unseen}
use Rattle.table_index.proofs.chain.marks_along.Goals as goal
use Rattle.table_index.proofs.chain.marks_along.Goals.{Start}

-- one link of the chain: the Set in place p of it, and what is marked before it
record Link (s : Start) (m p : ℕ) : Type 0 where
  down : Down s.args.recs.now s.args.q (decode_of s.args.rec.now) m p
  low : p < s.args.n
  rank : get_or s.args.numbers.now p 0 ≡ length (places_on s.args.recs.now p s.args.q)
  narrow : length (places_on s.args.recs.now p s.args.q) < 64
  fits : marks_on s.args.recs.now s.args.n s.args.q (decode_of s.args.rec.now) < 2 ^ 64
  next :
      get_or s.args.chains.now (link_at p) 0
      ≡ latest_on s.args.recs.now s.args.q (decode_of s.args.rec.now).key p
  conflict :
      unseen_other (record_at s.args.recs.now p) (decode_of s.args.rec.now)
      (shown_value (decode_of s.args.rec.now).key (decode_of s.args.rec.now).value)
      ≡ do_conflict (record_at s.args.recs.now p) (decode_of s.args.rec.now)

link :
    (s : Start) (m p : ℕ) → m ≤ s.args.n →
    p ≡ latest_on s.args.recs.now s.args.q (decode_of s.args.rec.now).key m → 0 < p → Link s m p
link s m p few is some =
    let a = s.args in
    let rs = a.recs.now in
    let e = decode_of a.rec.now in
    let (d, h, all, arriving) = s.requires.0 in
    let g : Down rs a.q e m p = subst (Down rs a.q e m) (sym is) (marks-down rs a.q e m (rw is at some)) in
    let (on, key) = both (is_on rs a.q p) (eqb (record_at rs p).key e.key) g.keyed in
    let below : p < a.n = omega (arith, g.low) in
    let create = (target-parts e (record_at rs a.q) arriving.target).create in
    let low-q : a.q < a.n = rw all at arriving.place in
    let few-sets : length (places_on rs a.n a.q) ≤ 64
    = omega (
      arith,
      places-length rs a.q a.n,
      rw all at (h.few-sets (record_at rs a.q).site (record_at rs a.q).seq),
    ) in
    let added = ap length (places-added rs a.q p on) ∙ length-append (places_on rs p a.q) (p ∷ []) in
    let marked = marked-below e (map (record_at rs) (places_on rs a.n a.q)) in
    record {
      down = g;
      low = below;
      narrow = omega (arith, added, places-grow rs a.q (suc p) a.n below, few-sets);
      fits = omega (
        arith,
        rw (length-map (places_on rs a.n a.q) (record_at rs)) at marked,
        pow_mono {i = length (places_on rs a.n a.q)} {j = 64} few-sets,
      );
      rank = s.requires.2.ranked a.q p low-q create below on;
      next = s.requires.2.linked a.q p low-q create below on
          ∙ ap (λ (y : ℕ). latest_on rs a.q y p) (eqb-true (record_at rs p).key e.key key);
      conflict = conflict-unseen d rs h a.q e arriving p (omega (arith, all)) s.requires.6 g.keyed;
    }

-- the test of a Set, by the calls of one turn
tested :
    (s : Start) (m p : ℕ) (t : Link s m p) (x : ℕ) (b : Bool) →
    x ≡ shown_value (decode_of s.args.rec.now).key (decode_of s.args.rec.now).value →
    b ≡ unseen_other (record_at s.args.recs.now p) (decode_of s.args.rec.now) x →
    b ≡ do_conflict (record_at s.args.recs.now p) (decode_of s.args.rec.now)
tested s m p t x b shown is =
    is
    ∙ ap (unseen_other (record_at s.args.recs.now p) (decode_of s.args.rec.now)) shown
    ∙ t.conflict

pub loop-p-init : goal.loop-p-init
loop-p-init c =
    let s = c in
    let a = s.args in
    let (d, h, is, arriving) = s.requires.0 in
    let e = decode_of a.rec.now in
    let o : c.byte_at-o.result ≡ number_at a.recs.now a.q
    = c.byte_at-o.ensures ∙ s.requires.4 in (
      a.n,
      omega arith,
      c.byte_at-p.ensures
          ∙ ap₂ (λ (i y : ℕ). get_or a.chains.now (head_at i y) 0) o c.byte_at-key.ensures
          ∙ s.requires.2.latest a.q (rw is at arriving.place)
          (target-parts e (record_at a.recs.now a.q) arriving.target).create e.key
          (in-turn d a.recs.now h a.q e arriving).formed.key,
      omega arith,
    )

pub is_unseen_at-b-requires : goal.is_unseen_at-b-requires
is_unseen_at-b-requires c =
    let l = c.loop-p in
    let s = c in
    let (m, few, is, marks) = l.invariant in
    let (d, h, all, arriving) = s.requires.0 in
    let t = link (goal.at.is_unseen_at-b-requires c).Start m l.p few is (omega arith) in
    (omega (arith, t.low, h.few-records, all), s.requires.1, s.requires.5)

pub marked_with-marks-requires : goal.marked_with-marks-requires
marked_with-marks-requires c =
    let c3 = c in
    let l = c3.loop-p in
    let s = c3 in
    let a = s.args in
    let e = decode_of a.rec.now in
    let (m, few, is, marks) = l.invariant in
    let t = link (goal.at.marked_with-marks-requires c).Start m l.p few is (omega arith) in
    let rank = c.byte_at-k.ensures ∙ t.rank in
    let shown = c3.shown-x.ensures
    ∙ ap₂ shown_value c3.byte_at-key.ensures
    c3.value_of.ensures in
    let b = tested (goal.at.marked_with-marks-requires c).Start m l.p t _ c.is_unseen_at-b.result shown c.is_unseen_at-b.ensures in
    let sum : l.marks + cond c.is_unseen_at-b.result (2 ^ c.byte_at-k.result) 0 < 2 ^ 64
    = subst (λ (v : Bool). l.marks + cond v (2 ^ c.byte_at-k.result) 0 < 2 ^ 64) (sym b)
    (subst
    (λ (k : ℕ). l.marks + cond (do_conflict (record_at a.recs.now l.p) e) (2 ^ k) 0 < 2 ^ 64) (sym rank)
    (omega (arith, marks, t.down.marks, t.fits))) in
    (sum, λ y. omega (arith, rank, t.narrow))

pub overflow_add-p : goal.overflow_add-p
overflow_add-p c =
    let c4 = c in
    let l = c4.loop-p in
    let s = c4 in
    let (m, few, is, marks) = l.invariant in
    let (d, h, all, arriving) = s.requires.0 in
    let t = link (goal.at.overflow_add-p c).Start m l.p few is (omega arith) in
    search (rules, t.low, h.few-records, all)

pub loop-p-smaller : goal.loop-p-smaller
loop-p-smaller c =
    let c5 = c in
    let l = c5.loop-p in
    let s = c5 in
    let (m, few, is, marks) = l.invariant in
    let t = link (goal.at.loop-p-smaller c).Start m l.p few is (omega arith) in
    let back = c.byte_at-p-in-loop-p.ensures ∙ t.next in
    let low = latest-low s.args.recs.now s.args.q (decode_of s.args.rec.now).key l.p (omega arith) in
    omega (arith, back, low)

pub loop-p-preserved : goal.loop-p-preserved
loop-p-preserved c =
    let c5 = c in
    let l = c5.loop-p in
    let s = c5 in
    let a = s.args in
    let e = decode_of a.rec.now in
    let (m, few, is, marks) = l.invariant in
    let t = link (goal.at.loop-p-preserved c).Start m l.p few is (omega arith) in
    let rank = c.byte_at-k.ensures ∙ t.rank in
    let shown = c5.shown-x.ensures
    ∙ ap₂ shown_value c5.byte_at-key.ensures
    c5.value_of.ensures in
    let u = c.is_unseen_at-b in
    let b = tested (goal.at.loop-p-preserved c).Start m l.p t _ u.result shown u.ensures in
    let added : c.marked_with-marks.result
    ≡ l.marks + cond (do_conflict (record_at a.recs.now l.p) e)
    (2 ^ length (places_on a.recs.now l.p a.q)) 0
    = c.marked_with-marks.ensures
    ∙ ap₂ (λ (v : Bool) (k : ℕ). l.marks + cond v (2 ^ k) 0) b rank in
    (l.p, omega (arith, t.low), c.byte_at-p-in-loop-p.ensures ∙ t.next, omega (arith, added, marks, t.down.marks))

pub returns : goal.returns
returns c =
    let l = c.loop-p in
    let s = c in
    let a = s.args in
    let rs = a.recs.now in
    let e = decode_of a.rec.now in
    let (m, few, is, marks) = l.invariant in
    let (d, h, all, arriving) = s.requires.0 in
    let done : l.p ≡ 0 = omega arith in
    let first : is_on rs a.q 0 ≡ false
    = off (is_on rs a.q 0) (λ on. omega (
      arith,
      set_after d.sites rs d.records h.pass a.q 0 arriving.place (omega (arith, arriving.place)) on,
    )) in
    let none = marks-none rs a.q e m first (sym is ∙ done) in
    omega (arith, marks, none)
