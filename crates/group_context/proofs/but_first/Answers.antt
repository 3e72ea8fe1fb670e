-- `group_context::but_first` meets its contract. Assumes nothing.
use native.Mathlib.Omega.{arith}
use Rattle.group_context.proofs.ButFirst.{but_first}
use Rattle.group_context.proofs.but_first.Goals as goal

pub returns : goal.returns
returns c = but_first c.args.g (λ e. omega (arith, e, c.requires)) c.ranges.g.fits
