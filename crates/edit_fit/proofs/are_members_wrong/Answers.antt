-- `edit_fit::are_members_wrong` meets its contract: `found` is what both tests say of the first i members,
-- and `last` the name of the one before. Assumes nothing.
use mathlib.Core.Path.{◌≡◌, refl, sym, ◌∙◌}
use mathlib.Core.Bool.{not, ◌&&◌, or_assoc}
use Prim.Native.Nat.{◌+◌, ◌*◌, ◌-◌}
use native.Mathlib.Numerals.{add-one}
use native.Mathlib.Omega.{arith}
use lib.Dec.{eqb, leb}
use lib.ListN.{get_or, drop}
use Rattle.math_lists.specs.NumbersBelow.{some}
use Rattle.edit_record.specs.Layout.{most_members, members_at}
use Rattle.edit_record.specs.Answer1.{name_in}
use Rattle.edit_record.specs.RecordBytes.{first_fours}
use Rattle.edit_record.proofs.FoursInBytes.{four-drop, fours-at, fours-past}
use Rattle.edit_record.proofs.MembersTested.{is_wrong_among, has_wrong_byte, wrong-more, wrong-all}
use Rattle.edit_fit.proofs.are_members_wrong.Goals as goal

pub loop-i-init : goal.loop-i-init
unfolding some
loop-i-init c = (refl, λ h. absurd (omega arith))

pub loop-i-preserved : goal.loop-i-preserved
loop-i-preserved c =
    let l = c.loop-i in
    let a = c.args in
    let s = a.rec.now in
    let m = first_fours most_members a.k (drop members_at s) in
    let low = c.loop-i-test.true in
    let here : c.four_at-m.result ≡ get_or m l.i 0 = c.four_at-m.ensures
    ∙ sym (fours-at most_members a.k (drop members_at s) l.i (omega arith) low
    ∙ four-drop members_at s (4 * l.i)) in
    let next : l.i + 1 - 1 ≡ l.i = omega arith in (
      rw (add-one, l.invariant.0, c.name_in-name.ensures, here)
          (sym (or_assoc (is_wrong_among a.k m l.i) (has_wrong_byte m l.i) (not (eqb l.i 0) && leb (name_in (get_or m l.i 0)) l.last))
          ∙ wrong-more a.k l.i m l.last low l.invariant.1),
      λ h. rw (next, c.name_in-name.ensures, here),
    )

pub returns : goal.returns
returns c e its members =
    let l = c.loop-i in
    let a = c.args in
    let s = drop members_at a.rec.now in
    let k : l.i ≡ a.k = omega arith in
    l.invariant.0
    ∙ rw (k, ← members)
    (wrong-all a.k e (omega arith) its (λ i m. rw members (fours-past most_members a.k s i m)))
