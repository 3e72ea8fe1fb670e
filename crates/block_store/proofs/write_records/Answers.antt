-- `block_store::write_records` meets its contract: the first i records stand in front of the output, and the next is
-- copied into the part behind them. Assumes nothing.
use mathlib.Core.Path.{◌≡◌, refl, sym, ap, ◌∙◌}
use mathlib.Core.List.{List, ◌++◌}
use Prim.Native.Nat.{ℕ, ◌+◌, ◌-◌, ◌≤◌, ◌<◌, ◌*◌}
use native.Mathlib.Numerals.{add-one}
use native.Mathlib.Omega.{arith}
use lib.ListN.{length, take, drop}
use borrow.Rule.Slice.PartMut.{mid_of}
use borrow.Author.Rules.{rules}
use Rattle.edit_record.specs.Layout.{place_length}
use Rattle.edit_record.specs.RecordBytes.{span_of}
use Rattle.edit_form.specs.OldForm.{chained}
use Rattle.edit_form.proofs.Stretches.{chained-inside}
use Rattle.edit_history.specs.EditsHeld.{bytes_at}
use Rattle.edit_sum.specs.WordSum.{ListsFit}
use Rattle.block_store.proofs.WritingOutcomes.{held-long, held-is, held_next, place-there, as_long, block-put}
use Rattle.block_store.proofs.write_records.Goals as goal

-- an output of so many bytes has room for record i, which has w, behind those before it
room :
    (rs : List ℕ) (n : ℕ) → n * place_length ≤ length rs → ListsFit rs n → (i : ℕ) → i < n → (w : ℕ) →
    w ≡ span_of (take (length rs - i * place_length) (drop (i * place_length) rs)) →
    (end long : ℕ) → end ≡ length (chained (bytes_at rs) i) → length (chained (bytes_at rs) n) ≤ long →
    end + w ≤ long
room rs n there fit i l w is end long e h =
    omega (arith, chained-inside (bytes_at rs) i n l, held-long rs n there fit i l w is, e, h)

pub loop-i-init : goal.loop-i-init
unfolding chained
loop-i-init c = (refl, omega arith, refl)

pub slice_bounds-copy_in-count : goal.slice_bounds-copy_in-count
slice_bounds-copy_in-count c =
    let a = c.args in
    let l = c.loop-i in
    let fits = room a.records.now a.n c.requires.1 c.requires.2 l.i c.loop-i-test.true c.span_of-bytes.result
    c.span_of-bytes.ensures l.end (length a.out.now) l.invariant.0 c.requires.3 in
    let still = as_long a.out.now (chained (bytes_at a.records.now) l.i) l.end (sym l.invariant.0) l.invariant.1
    l.invariant.2 in
    omega arith

pub slice_bounds-copy_in-start : goal.slice_bounds-copy_in-start
slice_bounds-copy_in-start c =
    let a = c.args in
    let l = c.loop-i in
    let fits = room a.records.now a.n c.requires.1 c.requires.2 l.i c.loop-i-test.true c.span_of-bytes.result
    c.span_of-bytes.ensures l.end (length a.out.now) l.invariant.0 c.requires.3 in
    let still = as_long a.out.now (chained (bytes_at a.records.now) l.i) l.end (sym l.invariant.0) l.invariant.1
    l.invariant.2 in
    omega arith

pub copy_in-requires : goal.copy_in-requires
copy_in-requires c =
    let a = c.args in
    let l = c.loop-i in
    let fits = room a.records.now a.n c.requires.1 c.requires.2 l.i c.loop-i-test.true c.span_of-bytes.result
    c.span_of-bytes.ensures l.end (length a.out.now) l.invariant.0 c.requires.3 in
    let still = as_long a.out.now (chained (bytes_at a.records.now) l.i) l.end (sym l.invariant.0) l.invariant.1
    l.invariant.2 in (
      search (rules, fits, still),
      place-there a.records.now a.n c.requires.1 c.requires.2 l.i c.loop-i-test.true c.span_of-bytes.result
          c.span_of-bytes.ensures,
    )

pub overflow_add-end : goal.overflow_add-end
overflow_add-end c =
    let a = c.args in
    let l = c.loop-i in
    let fits = room a.records.now a.n c.requires.1 c.requires.2 l.i c.loop-i-test.true c.span_of-bytes.result
    c.span_of-bytes.ensures l.end (length a.out.now) l.invariant.0 c.requires.3 in
    search (rules, fits)

pub loop-i-preserved : goal.loop-i-preserved
unfolding chained
loop-i-preserved c =
    let a = c.args in
    let l = c.loop-i in
    let rs = a.records.now in
    let w = c.span_of-bytes.result in
    let is = c.span_of-bytes.ensures in
    let below = c.loop-i-test.true in
    let copied = c.copy_in.ensures
    ∙ ap (λ (b : List ℕ). b ++ drop w (mid_of l.end (length l.out - l.end) l.out))
    (held-is rs a.n c.requires.1 c.requires.2 l.i below w is) in (
      rw (add-one l.i) (held_next rs a.n c.requires.1 c.requires.2 l.i below w is l.end l.invariant.0),
      room rs a.n c.requires.1 c.requires.2 l.i below w is l.end (length a.out.now) l.invariant.0 c.requires.3,
      rw (add-one l.i)
          (block-put a.out.now (chained (bytes_at rs) l.i) (bytes_at rs l.i) l.end w (sym l.invariant.0) l.invariant.2
          copied),
    )

pub shape_of-out : goal.shape_of-out
shape_of-out c =
    let l = c.loop-i in
    as_long c.args.out.now (chained (bytes_at c.args.records.now) l.i) l.end (sym l.invariant.0) l.invariant.1
    l.invariant.2

pub returns : goal.returns
returns c =
    let k : c.loop-i.i ≡ c.args.n = omega arith in
    rw (← k, ← c.loop-i.invariant.0) c.loop-i.invariant.2
