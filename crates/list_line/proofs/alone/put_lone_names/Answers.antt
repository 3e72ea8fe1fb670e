-- `list_line::alone::put_lone_names` meets its contract: the names of the members passed stand behind the first n
-- bytes. Assumes nothing.
use mathlib.Core.Path.{◌≡◌, refl, ◌∙◌}
use native.Mathlib.Omega.{arith}
use lib.ListN.{take}
use lib.Seq.{take_all, length-take-le}
use Rattle.list_line.proofs.LineTurns.{no_member, member-more}
use Rattle.list_line.proofs.alone.put_lone_names.Goals as goal

pub loop-x-init : goal.loop-x-init
loop-x-init c =
    let a = c.args in
    (omega arith, refl, no_member (take a.d a.disputes.now) a.g (take a.n a.out.now))

pub put_lone_name-w-requires : goal.put_lone_name-w-requires
put_lone_name-w-requires c =
    let l = c.loop-x in
    let a = c.args in
    let p = c.requires in
    let long = length-take-le a.d a.disputes.now p.0 in
    omega (arith, long, p.2, l.invariant.0, l.invariant.1)

pub loop-x-preserved : goal.loop-x-preserved
loop-x-preserved c =
    let l = c.loop-x in
    let a = c.args in
    let put = c.put_lone_name-w in (
      omega (arith, put.ensures.1, l.invariant.0),
      put.auto.out ∙ l.invariant.1,
      member-more (take a.d a.disputes.now) a.g l.x-index (take a.n a.out.now) (take l.w l.out) _ (omega arith)
          l.invariant.2 put.ensures.0,
    )

pub returns : goal.returns
returns c =
    let l = c.loop-x in
    let a = c.args in
    let xs = take a.d a.disputes.now in
    let long = length-take-le a.d a.disputes.now c.requires.0 in
    let whole : take l.x-index xs ≡ xs = take_all l.x-index xs (omega arith) in
    (rw whole at l.invariant.2, omega (arith, l.invariant.0, long))
