-- `table_kept::put_anew` meets its contract. Assumes nothing.
use mathlib.Core.Path.{ap, subst}
use mathlib.Core.List.{List, map}
use Prim.Native.Nat.{◌≤◌}
use native.Mathlib.Omega.{arith}
use Rattle.edit_record.specs.declared.Edit.{Edit}
use Rattle.edit_history.specs.EditsHeld.{record_at}
use Rattle.group_step.specs.GroupRows.{most_sets}
use Rattle.group_sight.proofs.NamesOfSets.{names-there}
use Rattle.table_kept.specs.BoxForms.{TellOf}
use Rattle.table_kept.proofs.put_anew.Goals as goal
use Rattle.table_kept.proofs.put_anew.Goals.{Start}

-- there is room for the places of all Sets
few : (s : Start) → s.args.k ≤ most_sets
few s = rw s.requires.1 s.requires.0.narrow

pub put_chains-requires : goal.put_chains-requires
put_chains-requires c =
    let s = c in
    (s.requires.0, omega arith)

pub put_names-requires : goal.put_names-requires
put_names-requires c =
    let s = c in
    (omega (arith, few (goal.at.put_names-requires c).Start, s.requires.2), omega (arith, few (goal.at.put_names-requires c).Start))

pub put_rows-requires : goal.put_rows-requires
put_rows-requires c =
    let s = c in
    let m = c.put_names in (
      few (goal.at.put_rows-requires c).Start,
      omega (arith, few (goal.at.put_rows-requires c).Start),
      omega (arith, few (goal.at.put_rows-requires c).Start, m.auto.names, s.requires.2),
      s.requires.3,
      m.ensures,
    )

pub returns : goal.returns
returns c =
    let s = c in
    let a = s.args in
    let rs = a.recs.now in
    let m = c.put_names in
    let p = c.put_chains in
    let those = ap (map (record_at rs)) (rw (← s.requires.1) at p.ensures) in
    subst (λ (ms : List Edit). TellOf ms m.new.names c.put_rows.new.rows) those
    (record {
      names = names-there rs p.new.out a.k (omega (arith, few (goal.at.returns c).Start, p.auto.out)) m.new.names m.ensures;
      told = c.put_rows.ensures;
    })
