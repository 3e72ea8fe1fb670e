-- `list_line::alone::put_lone_name` meets its contract: a name, or nothing. Assumes nothing.
use mathlib.Core.Path.{◌≡◌, sym, ◌∙◌}
use mathlib.Core.Bool.{true, false}
use mathlib.Core.List.{append-nil}
use native.Mathlib.Omega.{arith}
use Rattle.list_version.specs.VersionForms.{is_in}
use Rattle.list_line.proofs.alone.put_lone_name.Goals as goal

pub returns-then-not-has : goal.returns-then-not-has
returns-then-not-has c =
    let s = c in
    let out : is_in s.args.g s.args.x ≡ false
    = sym c.has.ensures ∙ c.if-not-has.true in
    (rw out (sym (append-nil _)), omega arith)

pub returns : goal.returns
returns c =
    let a = c.args in
    let in-it : is_in a.g a.x ≡ true
    = sym c.has.ensures
    ∙ c.if-not-has.false in
    let put = c.form_name in
    (put.ensures.0 ∙ rw in-it, put.ensures.1)
