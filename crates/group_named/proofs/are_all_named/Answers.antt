-- `group_named::are_all_named` meets its contract: where one of the records is limited there is a last one. Assumes
-- nothing.
use mathlib.Core.Path.{sym, ◌∙◌}
use native.Mathlib.Omega.{arith}
use Rattle.group_named.proofs.BoxesNamed.{none-limited, some-limited}
use Rattle.group_named.proofs.are_all_named.Goals as goal

pub returns-then-not-is_limited_held : goal.returns-then-not-is_limited_held
returns-then-not-is_limited_held c sites few pass index =
    let h = c.is_limited_held in
    let a = c.args in
    sym (none-limited a.recs.now a.n (sym h.ensures ∙ c.if-not-is_limited_held.true))

pub overflow_sub-n : goal.overflow_sub-n
overflow_sub-n c =
    let a = c.args in
    some-limited a.recs.now a.n (sym c.is_limited_held.ensures ∙ c.if-not-is_limited_held.false)

pub are_named_last_in-requires : goal.are_named_last_in-requires
are_named_last_in-requires c =
    let s = c in
    let a = c.args in
    let more = some-limited a.recs.now a.n (sym c.is_limited_held.ensures ∙ c.if-not-is_limited_held.false) in
    (s.requires.0, omega (arith, more), s.requires.1)

pub returns : goal.returns
returns c sites few pass index =
    (c.are_named_last_in.ensures sites few pass index).0
