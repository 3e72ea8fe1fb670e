-- `table_arrival::asked::one_to_three` meets its contract. Assumes nothing.
use mathlib.Core.Path.{◌≡◌, sym, ◌∙◌}
use mathlib.Core.Bool.{false}
use Prim.Native.Nat.{◌≤◌}
use native.Mathlib.Omega.{arith}
use lib.ListN.{length}
use borrow.Author.Rules.{rules}
use Rattle.edit_record.specs.Layout.{most_sites, record_length}
use Rattle.edit_record.specs.Answer1.{malformed}
use Rattle.edit_record.proofs.RecordSpans.{span-least}
use Rattle.table_arrival.specs.Answers6and7.{first_of}
use Rattle.table_arrival.proofs.SixByCounters.{whole-where-formed}
use Rattle.table_arrival.proofs.asked.one_to_three.Goals as goal

pub returns-then-is_malformed : goal.returns-then-is_malformed
unfolding first_of
returns-then-is_malformed c = (rw (sym c.is_malformed.ensures ∙ c.if-is_malformed.true), search rules)

pub two_or_three-requires : goal.two_or_three-requires
two_or_three-requires c =
    let a = c.args in
    let h : malformed a.c.sites a.rec.now ≡ false
    = sym c.is_malformed.ensures ∙ c.if-is_malformed.false in
    let long : record_length ≤ length a.rec.now
    = omega (arith, whole-where-formed a.c.sites a.rec.now h, span-least a.rec.now) in
    let wide : length a.c.held ≡ most_sites = search rules in
    (long, omega (arith, wide))

pub returns : goal.returns
returns c =
    let h = sym c.is_malformed.ensures ∙ c.if-is_malformed.false in
    (rw h c.two_or_three.ensures, search rules)
