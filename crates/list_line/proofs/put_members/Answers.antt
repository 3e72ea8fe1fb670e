-- `list_line::put_members` meets its contract: the names of the members passed stand behind the first n bytes. Assumes
-- nothing.
use mathlib.Core.Path.{refl, ◌∙◌}
use native.Mathlib.Omega.{arith}
use lib.ListN.{take}
use lib.Seq.{length-take-le}
use Rattle.list_line.proofs.LineTurns.{no_member, member-more}
use Rattle.list_line.proofs.put_members.Goals as goal

pub loop-i-init : goal.loop-i-init
loop-i-init c =
    let a = c.args in
    (omega arith, refl, no_member (take a.d a.disputes.now) a.g (take a.n a.out.now))

pub put_member-w-requires : goal.put_member-w-requires
put_member-w-requires c =
    let l = c.loop-i in
    let p = c.requires in
    let long = length-take-le c.args.d c.args.disputes.now p.0 in (
      omega (arith, long, p.1),
      omega (arith, long, p.2, l.invariant.0, l.invariant.1),
      p.3,
      p.4,
      p.5 l.i (omega arith),
    )

pub loop-i-preserved : goal.loop-i-preserved
loop-i-preserved c =
    let l = c.loop-i in
    let a = c.args in
    let put = c.put_member-w in (
      omega (arith, put.ensures.1, l.invariant.0),
      put.auto.out ∙ l.invariant.1,
      member-more (take a.d a.disputes.now) a.g l.i (take a.n a.out.now) (take l.w l.out) _ (omega arith)
          l.invariant.2 put.ensures.0,
    )
