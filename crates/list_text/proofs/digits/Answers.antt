-- `list_text::digits` meets its contract: a number between two powers of ten has as many digits as the larger has
-- zeros. Assumes nothing.
use native.Mathlib.Omega.{arith}
use Rattle.list_text.proofs.OneDecimal.{length-one, digits-fit, digits-many}
use Rattle.list_text.proofs.digits.Goals as goal

pub returns-then-m-lt10 : goal.returns-then-m-lt10
returns-then-m-lt10 c =
    let m = c.args.m in
    omega (arith, length-one m (omega arith))

pub returns-then-m-lt100 : goal.returns-then-m-lt100
returns-then-m-lt100 c =
    let m = c.args.m in
    omega (arith, digits-fit 2 m (omega arith) (omega arith), digits-many 1 m (omega arith))

pub returns-then-m-lt1000 : goal.returns-then-m-lt1000
returns-then-m-lt1000 c =
    let m = c.args.m in
    omega (arith, digits-fit 3 m (omega arith) (omega arith), digits-many 2 m (omega arith))

pub returns-then-m-lt10000 : goal.returns-then-m-lt10000
returns-then-m-lt10000 c =
    let m = c.args.m in
    omega (arith, digits-fit 4 m (omega arith) (omega arith), digits-many 3 m (omega arith))

pub returns-then-m-lt100000 : goal.returns-then-m-lt100000
returns-then-m-lt100000 c =
    let m = c.args.m in
    omega (arith, digits-fit 5 m (omega arith) (omega arith), digits-many 4 m (omega arith))

pub returns-then-m-lt1000000 : goal.returns-then-m-lt1000000
returns-then-m-lt1000000 c =
    let m = c.args.m in
    omega (arith, digits-fit 6 m (omega arith) (omega arith), digits-many 5 m (omega arith))

pub returns-then-m-lt10000000 : goal.returns-then-m-lt10000000
returns-then-m-lt10000000 c =
    let m = c.args.m in
    omega (arith, digits-fit 7 m (omega arith) (omega arith), digits-many 6 m (omega arith))

pub returns-then-m-lt100000000 : goal.returns-then-m-lt100000000
returns-then-m-lt100000000 c =
    let m = c.args.m in
    omega (arith, digits-fit 8 m (omega arith) (omega arith), digits-many 7 m (omega arith))

pub returns-then-m-lt1000000000 : goal.returns-then-m-lt1000000000
returns-then-m-lt1000000000 c =
    let m = c.args.m in
    omega (arith, digits-fit 9 m (omega arith) (omega arith), digits-many 8 m (omega arith))

pub returns : goal.returns
returns c =
    let m = c.args.m in
    omega (arith, digits-fit 10 m (omega arith) (omega arith), digits-many 9 m (omega arith))
