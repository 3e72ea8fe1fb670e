-- `list_line::put_member` meets its contract: the name that stands in its place, or nothing. Assumes nothing.
use mathlib.Core.Path.{◌≡◌, sym, ◌∙◌}
use mathlib.Core.Bool.{true, false}
use mathlib.Core.List.{append-nil}
use native.Mathlib.Omega.{arith}
use Rattle.list_version.specs.VersionForms.{is_in}
use Rattle.list_line.proofs.put_member.Goals as goal

pub returns-then-not-has : goal.returns-then-not-has
returns-then-not-has c =
    let s = c in
    let out : is_in s.args.g s.args.x ≡ false
    = sym c.has.ensures ∙ c.if-not-has.true in
    (rw out (sym (append-nil _)), omega arith)

pub returns : goal.returns
returns c =
    let member = c in
    let s = member in
    let in-it : is_in s.args.g s.args.x ≡ true
    = sym member.has.ensures ∙ member.if-not-has.false in
    let named = s.requires.4 in
    let put = c.put_piece in
    (put.ensures.0 ∙ rw (named.name, in-it), omega (arith, put.ensures.1, named.few))
