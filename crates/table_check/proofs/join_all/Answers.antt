-- `table_check::join_all` meets its contract: those passed have the members of m, and the rest is as it was. Assumes
-- nothing.
use Rattle.std.proofs.Common.{◌≡◌, ◌∙◌, ℕ, map, take, drop, length, arith}
use Rattle.std.proofs.lemmas.List.{length-take-le, take-append-le, drop_all}
use lib.Bits.{bit_or}
use lib.ListN.{length-append, length-drop}
use lib.Seq.{take_all}
use mathlib.Core.List.{append-nil}
use Rattle.table_check.specs.CheckForms.{joined_with}
use Rattle.group_step.proofs.LoopTurns.{made_more}
use Rattle.table_check.proofs.join_all.Goals as goal

pub loop-g-preserved : goal.loop-g-preserved
loop-g-preserved c =
    let a = c.args in
    let l = c.loop-g in
    made_more (λ (g : ℕ). bit_or g a.m) (take a.n a.gs.now) l.g-items l.g-index l.invariant c.loop-g-test.true

pub returns : goal.returns
unfolding joined_with
returns c =
    let a = c.args in
    let l = c.loop-g in
    let front = take a.n a.gs.now in
    let size = length-take-le a.n a.gs.now c.requires in
    let full : length l.g-items ≡ a.n = omega (arith, size) in
    let made : l.g-items ≡ map (λ (g : ℕ). bit_or g a.m) front
    = l.invariant ∙ rw (take_all l.g-index front (omega arith), drop_all l.g-index front (omega arith)) (append-nil _) in (
      simp (length-append, length-drop) (omega (arith, full, c.requires)),
      take-append-le a.n l.g-items (drop a.n a.gs.now) (omega (arith, full))
          ∙ take_all a.n l.g-items (omega (arith, full))
          ∙ made,
    )
