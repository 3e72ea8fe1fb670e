-- `table_sets::gather_sets` meets its contract: as many places as were put down, the chain is followed so far. Assumes
-- nothing.
use Rattle.std.proofs.Common.{◌≡◌, ◌∙◌, refl, length, drop, arith}
use Rattle.std.proofs.lemmas.List.{length-take-le, take-append-le}
use Rattle.table_sets.proofs.Followed.{followed-more, followed-all}
use Rattle.table_sets.proofs.gather_sets.Goals as goal

pub loop-member-init : goal.loop-member-init
loop-member-init c = λ l r long. (refl, r)

pub loop-member-preserved : goal.loop-member-preserved
loop-member-preserved c =
    let a = c.args in
    let l = c.loop-member in
    let size = length-take-le a.k a.members.now c.requires in
    followed-more a.chain.now a.p a.k l.member-index l.at c.at16-next.result l.member-items (omega (arith, size))
    (omega (arith, size)) c.at16-next.ensures l.invariant

pub returns : goal.returns
returns c = λ ps r long.
    let a = c.args in
    let l = c.loop-member in
    let size = length-take-le a.k a.members.now c.requires in
    let full : length l.member-items ≡ a.k = omega (arith, size) in
    take-append-le a.k l.member-items (drop a.k a.members.now) (omega (arith, full))
    ∙ followed-all a.chain.now a.p a.k l.member-index l.at l.member-items (omega (arith, size)) l.invariant ps r long
