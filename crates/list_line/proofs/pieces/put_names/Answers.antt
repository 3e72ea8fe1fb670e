-- `list_line::pieces::put_names` meets its contract: the names passed stand in their places. Assumes nothing.
use mathlib.Core.Path.{◌∙◌}
use native.Mathlib.Omega.{arith}
use lib.ListN.{take}
use lib.Seq.{length-take-le}
use Rattle.list_line.proofs.KeptPieces.{named_more}
use Rattle.list_line.proofs.pieces.put_names.Goals as goal

pub loop-i-init : goal.loop-i-init
loop-i-init c =
    let p = c.requires in
    (p.2, p.3, λ told k. k, λ k l. absurd (omega arith))

pub put_name-requires : goal.put_name-requires
put_name-requires c =
    let l = c.loop-i in
    let p = c.requires in
    (omega (arith, length-take-le c.args.d c.args.disputes.now p.0, p.1), l.invariant.0, l.invariant.1)

pub loop-i-preserved : goal.loop-i-preserved
loop-i-preserved c =
    let l = c.loop-i in
    let a = c.args in
    let more = c.put_name.ensures in
    let long = length-take-le a.d a.disputes.now c.requires.0 in (
      c.put_name.auto.texts ∙ l.invariant.0,
      c.put_name.auto.lens ∙ l.invariant.1,
      λ told k. more.kept told (l.invariant.2 told k),
      named_more (take a.d a.disputes.now) l.i (omega (arith, long, c.requires.1)) more l.invariant.3,
    )

pub returns : goal.returns
returns c told k =
    let l = c.loop-i in
    (l.invariant.2 told k, λ j low. l.invariant.3 j (omega arith))
