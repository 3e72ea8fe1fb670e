-- `edit_fit::is_list_unfit_in` meets its contract: the test of the kind is the definition's, and a count that
-- is no larger than it may be has no high half. Assumes nothing.
use mathlib.Core.Path.{◌≡◌, sym, ap, ◌∙◌}
use native.Mathlib.Omega.{arith}
use borrow.Author.Tests.{lt-ltb}
use lib.ListN.{drop}
use mathlib.Core.Bool.{Bool, ◌&&◌}
use Prim.Native.Nat.{ℕ}
use Rattle.edit_record.specs.Layout.{count_at, members_at, most_members}
use Rattle.edit_record.specs.RecordBytes.{two, four, first_fours, decode_of}
use Rattle.edit_record.specs.Answer1.{list_unfit}
use Rattle.edit_record.proofs.AgreeingBytes.{limits-on, limits-off}
use Rattle.edit_fit.proofs.is_list_unfit_in.Goals as goal

pub returns-then-byte_at-ne-LIMITED : goal.returns-then-byte_at-ne-LIMITED
returns-then-byte_at-ne-LIMITED c =
    let at = c in
    let s = at.args.rec.now in
    rw (limits-off s at.byte_at.result at.byte_at.ensures c.if-byte_at-ne-LIMITED.true)

pub returns-then-count-gt-MEMBERS : goal.returns-then-count-gt-MEMBERS
unfolding list_unfit
returns-then-count-gt-MEMBERS c =
    let n = c in
    let at = n in
    let s = at.args.rec.now in
    rw (
      limits-on s at.byte_at.result at.byte_at.ensures n.if-byte_at-ne-LIMITED.false,
      lt-ltb most_members (four s count_at) (omega (arith, n.four_at-count.ensures, c.if-count-gt-MEMBERS.true)),
    )

pub returns : goal.returns
returns c =
    let n = c in
    let at = n in
    let s = at.args.rec.now in
    let on = limits-on s at.byte_at.result at.byte_at.ensures n.if-byte_at-ne-LIMITED.false in
    let k = n.four_at-count.result in
    let low : two s count_at ≡ k = omega (arith, n.four_at-count.ensures, c.if-count-gt-MEMBERS.false) in
    c.are_members_wrong.ensures (decode_of s) (rw on (sym n.four_at-count.ensures))
    (rw on (ap (λ (x : ℕ). first_fours most_members x (drop members_at s)) low))
    ∙ ap (λ (t : Bool). t && list_unfit (decode_of s)) (sym on)
