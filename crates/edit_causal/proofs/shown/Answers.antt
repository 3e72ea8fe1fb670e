-- `edit_causal::shown` meets its contract. Assumes nothing.
use borrow.Author.Tests.{lt-ltb, le-ltb}
use native.Mathlib.Omega.{arith}
use Rattle.edit_causal.specs.ShownValue.{square_keys}
use Rattle.edit_causal.proofs.shown.Goals as goal

pub returns-then-key-lt-SQUARE_KEYS : goal.returns-then-key-lt-SQUARE_KEYS
returns-then-key-lt-SQUARE_KEYS c = let a = c.args in rw (lt-ltb a.key square_keys (omega arith))

pub returns : goal.returns
returns c = let a = c.args in rw (le-ltb a.key square_keys (omega arith))
