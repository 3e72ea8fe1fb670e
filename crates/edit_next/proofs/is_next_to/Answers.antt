-- `edit_next::is_next_to` meets its contract. Assumes nothing.
use borrow.Author.Tests.{eq-eqb, ne_eqb}
use Rattle.edit_walk.specs.WalkForms.{is_next}
use Rattle.edit_next.proofs.is_next_to.Goals as goal

pub returns-then-is-was : goal.returns-then-is-was
unfolding is_next
returns-then-is-was c =
    rw (← c.own_entry-is.ensures, ← c.own_entry-was.ensures, ne_eqb _ _ c.if-is-was.true)

pub returns : goal.returns
unfolding is_next
returns c =
    rw (
      ← c.own_entry-is.ensures,
      ← c.own_entry-was.ensures,
      eq-eqb _ _ c.if-is-was.false,
      c.is_same_but.ensures,
    )
