-- `group_context::meeting_rows` meets its contract: those found are those passed whose number has a member of m.
-- Assumes nothing.
use mathlib.Core.Path.{◌≡◌}
use Rattle.group_context.specs.RowForms.{meeting}
use Rattle.group_context.proofs.meeting_rows.Given as goal

abbrev pub invariant-loop-j : goal.invariant-loop-j
invariant-loop-j l = l.found ≡ meeting l.rows l.j l.m
