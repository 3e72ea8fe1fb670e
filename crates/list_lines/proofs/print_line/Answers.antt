-- `list_lines::print_line` meets its contract: each of its three ends is that outcome. Assumes nothing.
use mathlib.Core.Path.{sym, ◌∙◌}
use Rattle.list_lines.specs.LineByNumber.{line_of}
use Rattle.list_lines.proofs.print_line.Goals as goal

pub returns-then-not-is_sound_with : goal.returns-then-not-is_sound_with
unfolding line_of
returns-then-not-is_sound_with c = rw (sym c.is_sound_with.ensures.0 ∙ c.if-not-is_sound_with.true)

pub returns-in_default : goal.returns-in_default
unfolding line_of
returns-in_default c =
    rw (sym c.is_sound_with.ensures.0 ∙ c.if-not-is_sound_with.false, c.in_default.ensures)

pub returns : goal.returns
unfolding line_of
returns c =
    let at = c.in-Some.ensures in
    c.put_at.ensures
    ∙ sym
    (rw (sym c.is_sound_with.ensures.0 ∙ c.if-not-is_sound_with.false, at.within, at.line))
