-- `group_sight::put_names` meets its contract: after i places, their names are put down. Assumes nothing.
use mathlib.Core.Path.{refl}
use native.Mathlib.Decide.{ℕ_discrete}
use native.Mathlib.Omega.{arith}
use lib.ListN.{length-set}
use lib.Seq.{get_or-set_same, get_or-set_other}
use Rattle.group_sight.proofs.put_names.Goals as goal

pub loop-i-init : goal.loop-i-init
loop-i-init c = (refl, λ j l. absurd (omega arith))

pub loop-i-preserved : goal.loop-i-preserved
loop-i-preserved c =
    let s = c in
    let l = c.loop-i in (
      simp length-set l.invariant.0,
      λ j m. elim (ℕ_discrete j l.i) [
        | yes e ↦ rw (e, get_or-set_same l.names l.i _ 0 (omega (arith, l.invariant.0, s.requires.0)))
            c.name_at.ensures
        | no d ↦ rw (get_or-set_other l.names l.i j _ 0 d) (l.invariant.1 j (omega (arith, d)))
      ],
    )

pub returns : goal.returns
returns c i m = let l = c.loop-i in l.invariant.1 i (omega arith)
