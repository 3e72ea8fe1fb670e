-- `group_named::are_named_last` meets its contract: records that pass 1 to 5 have lawful Sets on each Create, and 16 is
-- given to none of them exactly if to none of those Sets. Assumes nothing.
use mathlib.Core.Path.{sym, ◌∙◌}
use native.Mathlib.Omega.{arith}
use lib.ListN.{get_or-replicate}
use Rattle.edit_history.specs.EditsHeld.{most_records}
use Rattle.group_true.proofs.ProperSets.{in-order-table}
use Rattle.group_named.proofs.BoxesNamed.{named-by-boxes, aimed}
use borrow.Author.Rules.{rules}
use Rattle.group_named.proofs.are_named_last.Goals as goal

pub chain_sets-requires : goal.chain_sets-requires
chain_sets-requires c =
    let s = c in
    (search rules, search rules, λ i l. get_or-replicate most_records i 0 0 (omega (arith, s.requires.0)))

pub returns : goal.returns
returns c sites few pass index =
    let each = c.are_named_each in
    let back = c in
    let far = back in
    let made = far.chain_sets in
    let a = far.args in
    let rs = a.recs.now in
    let chained = made.ensures index (aimed rs sites a.n pass) in
    let (named, told) = each.ensures chained (in-order-table sites few rs a.n pass).lawful in
    (named ∙ sym (named-by-boxes rs sites a.n pass), told)
