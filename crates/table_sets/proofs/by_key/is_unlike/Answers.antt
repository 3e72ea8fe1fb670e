-- `table_sets::by_key::is_unlike` meets its contract. Assumes nothing.
use mathlib.Core.Path.{sym}
use mathlib.Core.Bool.{not, and-false}
use native.Mathlib.Omega.{arith}
use borrow.Author.Tests.{eq-eqb, ne_eqb}
use Rattle.math_lists.proofs.Booleans.{and-true}
use Rattle.edit_causal.specs.Causal.{has_seen}
use Rattle.edit_causal.specs.ShownValue.{shown_value}
use Rattle.table_sets.proofs.by_key.is_unlike.Goals as goal

pub returns-then-x-y : goal.returns-then-x-y
returns-then-x-y c a b x y f =
    let same = eq-eqb (shown_value a.key a.value) (shown_value b.key b.value)
    (omega (arith, x.value, y.value)) in
    rw same (sym (and-false (not (has_seen b.vector a.site a.seq))))

pub returns : goal.returns
returns c a b x y f =
    let apart = ne_eqb (shown_value a.key a.value) (shown_value b.key b.value)
    (λ e. omega (arith, e, x.value, y.value)) in
    rw (apart, c.own_entry-seen.ensures, f.vector, x.site, x.seq)
    (sym (and-true (not (has_seen b.vector a.site a.seq))))
