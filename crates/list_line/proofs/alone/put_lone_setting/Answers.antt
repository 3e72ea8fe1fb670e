-- `list_line::alone::put_lone_setting` meets its contract: a setting, or nothing. Assumes nothing.
use mathlib.Core.Path.{sym}
use mathlib.Core.List.{append-nil}
use native.Mathlib.Omega.{arith}
use borrow.Author.Tests.{eq-eqb}
use Rattle.list_line.proofs.alone.put_lone_setting.Goals as goal

pub returns-then-s-eq0 : goal.returns-then-s-eq0
returns-then-s-eq0 c =
    let s = c in
    (rw (eq-eqb s.args.s 0 c.if-s-eq0.true) (sym (append-nil _)), omega arith)
