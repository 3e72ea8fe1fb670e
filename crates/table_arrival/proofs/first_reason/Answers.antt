-- `table_arrival::first_reason` meets its contract. Assumes nothing.
use Rattle.table_arrival.specs.Answers6and7.{first_of}
use Rattle.table_arrival.proofs.first_reason.Goals as goal

pub returns-then-one : goal.returns-then-one
unfolding first_of
returns-then-one c = rw c.if-one.true

pub returns-then-two : goal.returns-then-two
unfolding first_of
returns-then-two c = rw (c.if-one.false, c.if-two.true)

pub returns-then-three : goal.returns-then-three
unfolding first_of
returns-then-three c = rw (c.if-one.false, c.if-two.false, c.if-three.true)

pub returns-then-four : goal.returns-then-four
unfolding first_of
returns-then-four c =
    rw (c.if-one.false, c.if-two.false, c.if-three.false, c.if-four.true)

pub returns-then-five : goal.returns-then-five
unfolding first_of
returns-then-five c =
    rw (
      c.if-one.false,
      c.if-two.false,
      c.if-three.false,
      c.if-four.false,
      c.if-five.true,
    )

pub returns-then-sixteen : goal.returns-then-sixteen
unfolding first_of
returns-then-sixteen c =
    let s5 = c in
    rw (
      s5.if-one.false,
      c.if-two.false,
      c.if-three.false,
      c.if-four.false,
      c.if-five.false,
      c.if-sixteen.true,
    )

pub returns-then-six : goal.returns-then-six
unfolding first_of
returns-then-six c =
    let s5 = c in
    rw (
      s5.if-one.false,
      s5.if-two.false,
      c.if-three.false,
      c.if-four.false,
      c.if-five.false,
      c.if-sixteen.false,
      c.if-six.true,
    )

pub returns : goal.returns
unfolding first_of
returns c =
    let s5 = c in
    rw (
      s5.if-one.false,
      s5.if-two.false,
      c.if-three.false,
      c.if-four.false,
      c.if-five.false,
      c.if-sixteen.false,
      c.if-six.false,
    )
