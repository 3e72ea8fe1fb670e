-- `group_limited::is_nameless` meets its contract. Assumes nothing.
use Rattle.group_limited.proofs.ToldByRows.{next-by-sight, nameless-by-sight}
use Rattle.group_limited.proofs.is_nameless.Goals as goal

pub returns : goal.returns
returns c ms e cs tell sight its law =
    let names = c.names_version-names in
    let a = c.args in
    let next = next-by-sight ms e a.plain.now cs tell a.s sight in
    nameless-by-sight ms e a.plain.now cs tell a.s sight law names.result
    (names.ensures _ _ cs next its law)
