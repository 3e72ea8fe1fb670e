-- `group_named::chain::chain_sets` meets its contract: the chain goes through the Sets that stand behind those still to
-- come. Assumes nothing.
use mathlib.Core.Path.{◌≡◌}
use lib.ListN.{length}
use Rattle.edit_walk.specs.WalkForms.{Indexed}
use Rattle.group_named.specs.ChainForms.{TargetsHeld}
use Rattle.group_named.proofs.SetsChained.{ByteLinkedFrom}
use Rattle.group_named.proofs.chain.chain_sets.Given as goal

abbrev pub invariant-loop-q : goal.invariant-loop-q
invariant-loop-q l =
    (length l.chain ≡ length l.initial.chain)
    × (Indexed l.recs l.n l.places → TargetsHeld l.recs l.n → ByteLinkedFrom l.recs l.n l.q l.chain)
