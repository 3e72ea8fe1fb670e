-- `group_sight::seen::seen_of` meets its contract: of the Sets that are not left, those are found that were seen.
-- Assumes nothing.
use mathlib.Core.Path.{◌≡◌, sym, ap, ◌∙◌}
use mathlib.Core.Bool.{true}
use Prim.Native.Nat.{ℕ, ◌^◌, ◌<◌}
use native.Mathlib.Omega.{arith}
use lib.Bits.{bit_or}
use lib.ListN.{length, get_or}
use Rattle.math_lists.proofs.Booleans.{or_left, eqb-self}
use Rattle.math_maximal.specs.Groups.{bit}
use Rattle.math_maximal.proofs.Bits.{bit_below, bit-or, bit-power}
use Rattle.edit_record.specs.RecordBytes.{no_edit}
use Rattle.group_sight.proofs.SeenThrough.{fewer-left, none-known, all_known}
use Rattle.group_sight.proofs.SeenThrough.{one_seen, one-unseen}
use Rattle.group_sight.proofs.seen.seen_of.Goals as goal
use Rattle.group_sight.proofs.seen.seen_of.Goals.{then-is_seen, else-is_seen}

pub loop-left-init : goal.loop-left-init
loop-left-init c =
    let f = c.first-left.ensures in
    (f.0, λ ms e long names its vector tell law. none-known ms e _ (λ j l. f.1 j (omega arith)))

pub highest-i-requires : goal.highest-i-requires
highest-i-requires c = omega (arith, c.loop-left-test.true)

pub only-own-requires : goal.only-own-requires
only-own-requires c = c.highest-i.ensures.2

pub bounds-names-i : goal.bounds-names-i
bounds-names-i c =
    let l = c.loop-left in
    let s = c in
    let low = bit_below s.args.k l.left l.invariant.0 _ c.highest-i.ensures.1 in
    omega (arith, low, s.requires.1)

pub known_by-requires : goal.known_by-requires
known_by-requires c =
    let last = c in
    let s = last in
    (s.requires.2, last.highest-i.ensures.2)

pub loop-left-smaller : goal.loop-left-smaller
loop-left-smaller c =
    let l = c.loop-left in
    let last = c.highest-i in
    let i = last.result in
    let own : bit c.only-own.result i ≡ true
    = ap (λ (x : ℕ). bit x i) c.only-own.ensures ∙ bit-power i i ∙ eqb-self i in
    let known = c.if-is_seen.known in
    let its : bit known i ≡ true =
    elim c.if-is_seen.branch [
      | then-is_seen v ↦ ap (λ (x : ℕ). bit x i) v.known-is ∙ bit-or _ _ i ∙ or_left _ _ own
      | else-is_seen v ↦ ap (λ (x : ℕ). bit x i) v.known-is ∙ own
    ] in
    rw c.without-left.ensures (fewer-left l.left known i last.ensures.1 its)

pub loop-left-preserved : goal.loop-left-preserved
loop-left-preserved c =
    let l = c.loop-left in
    let s = c in
    let a = s.args in
    let last = c.highest-i in
    let i = last.result in
    let own = c.only-own in
    let seen = c.is_seen in
    let low = bit_below a.k l.left l.invariant.0 i last.ensures.1 in (
      rw c.without-left.ensures (omega (arith, l.invariant.0)),
      λ ms e long names its vector tell law.
          let before = l.invariant.1 ms e long names its vector tell law in
          let m : i < length ms = omega (arith, low, long) in
          let told = seen.ensures (get_or ms i no_edit) e (names i m) its vector in
          elim c.if-is_seen.branch [
            | then-is_seen v ↦ let row = v.known_by.result in
                let known : c.if-is_seen.known ≡ bit_or (2 ^ i) row
                = v.known-is ∙ ap (λ (x : ℕ). bit_or x row) own.ensures in
                rw (c.without-left.ensures, v.seen-is, known, own.ensures)
                (one_seen ms e law l.left l.seen i row m (sym told ∙ v.if-is_seen.true)
                (v.known_by.ensures ms long low tell) before)
            | else-is_seen v ↦ rw (c.without-left.ensures, v.seen-is, v.known-is, own.ensures)
                (one-unseen ms e l.left l.seen i (sym told ∙ v.if-is_seen.false) before)
          ],
    )

pub returns : goal.returns
returns c ms e long names its vector tell law =
    let l = c.loop-left in
    all_known ms e l.seen l.left c.loop-left-test.false (l.invariant.1 ms e long names its vector tell law)
