-- `group_context::left_of` meets its contract: a plain Set has no context. Assumes nothing.
use mathlib.Core.Path.{◌≡◌, subst, sym, ap, ◌∙◌}
use mathlib.Core.Bool.{true, false, ◌&&◌}
use Prim.Native.Nat.{ℕ, ◌-◌, ◌≤◌}
use lib.Bits.{bit_and}
use lib.ListN.{get_or}
use Rattle.math_maximal.specs.Groups.{bit}
use Rattle.math_maximal.specs.Step.{compatible}
use Rattle.group_context.specs.RowsOfBox.{NextOf, what_is_left}
use Rattle.group_context.proofs.ListedByRows.{left_is}
use Rattle.group_context.proofs.left_of.Goals as goal

pub returns-then-not-limited : goal.returns-then-not-limited
unfolding what_is_left
returns-then-not-limited c b n few next =
    let a = c.args in
    let plain : b.limited n ≡ false = sym next.limits ∙ c.if-not-limited.true in
    rw plain

pub returns : goal.returns
unfolding what_is_left
returns c b n few next =
    let a = c.args in
    let yes = c.if-not-limited.false in
    let foes = c.foes_of-foes in
    let apart = c.without-apart in
    let left = c.clear_of in
    let part : left.result ≤ a.seen - bit_and a.seen foes.result = rw apart.ensures at left.ensures.0 in
    let held : (j : ℕ) → bit left.result j
    ≡ (bit (a.seen - bit_and a.seen foes.result) j && compatible foes.result (get_or a.ctx.now j 0))
    = λ j. left.ensures.1 j
    ∙ ap (λ (x : ℕ). bit x j && compatible foes.result (get_or a.ctx.now j 0)) apart.ensures in
    let limits : b.limited n ≡ true = sym next.limits ∙ yes in
    rw limits
    (left_is (subst (NextOf b n a.plain.now a.ctx.now a.seen a.named) yes next) few foes.result
    foes.ensures left.result part held)
