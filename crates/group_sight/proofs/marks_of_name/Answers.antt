-- `group_sight::marks_of_name` meets its contract: the sum of their places tells which they are. Assumes
-- nothing.
use mathlib.Core.Path.{sym, ap, ◌∙◌}
use Prim.Native.Nat.{ℕ, ◌+◌, ◌-◌, ◌*◌, ◌/◌, ◌^◌}
use native.Mathlib.Omega.{arith}
use Rattle.group_sight.specs.SightForms.{found}
use Rattle.group_sight.proofs.NamesOfSets.{none-marked-by-sum, one-marked-by-sum}
use Rattle.group_sight.proofs.marks_of_name.Goals as goal

pub overflow_mul-m : goal.overflow_mul-m
overflow_mul-m c = omega (arith, c.requires.0)

pub sum_of_name-t-requires : goal.sum_of_name-t-requires
sum_of_name-t-requires c = (omega (arith, c.requires.0), omega (arith, c.if-names-m.false))

pub returns-then-t-eq0 : goal.returns-then-t-eq0
returns-then-t-eq0 c =
    let a = c.args in
    none-marked-by-sum a.names.now a.k ((a.k + 7) / 8 * 8) a.x (omega arith)
    (sym c.sum_of_name-t.ensures ∙ c.if-t-eq0.true)

pub overflow_sub-p : goal.overflow_sub-p
overflow_sub-p c =
    let s = c in
    let a = s.args in
    let e = c.sum_of_name-t.ensures in
    let told = one-marked-by-sum a.names.now a.k ((a.k + 7) / 8 * 8) a.x (omega arith)
    (λ z. c.if-t-eq0.false (e ∙ z)) (omega (arith, e, c.if-t.true)) in
    omega (arith, e, told.0)

pub returns-then-k-p : goal.returns-then-k-p
returns-then-k-p c =
    let s = c in
    let a = s.args in
    let e = c.sum_of_name-t.ensures in
    let told = one-marked-by-sum a.names.now a.k ((a.k + 7) / 8 * 8) a.x (omega arith)
    (λ z. c.if-t-eq0.false (e ∙ z)) (omega (arith, e, c.if-t.true)) in
    told.3 (omega (arith, e, c.if-k-p.true))

pub only-requires : goal.only-requires
only-requires c =
    let s = c in
    omega (arith, s.requires.0, c.if-k-p.false)

pub returns-then-t : goal.returns-then-t
returns-then-t c =
    let s = c in
    let a = s.args in
    let e = c.sum_of_name-t.ensures in
    let told = one-marked-by-sum a.names.now a.k ((a.k + 7) / 8 * 8) a.x (omega arith)
    (λ z. c.if-t-eq0.false (e ∙ z)) (omega (arith, e, c.if-t.true)) in
    c.only.ensures ∙ ap (λ (t : ℕ). 2 ^ (t - found)) e ∙ told.2 (omega (arith, e, c.if-k-p.false))
