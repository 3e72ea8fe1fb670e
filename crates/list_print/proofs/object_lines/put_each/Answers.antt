-- `list_print::object_lines::put_each` meets its contract: each turn puts one line behind those before it. Assumes
-- nothing.
use mathlib.Core.Path.{refl, ◌∙◌}
use native.Mathlib.Omega.{arith}
use Rattle.list_line.specs.Line.{line_length}
use Rattle.list_line.specs.LineForms.{line_in}
use Rattle.list_print.proofs.BytesBehind.{no-piece, piece-behind}
use Rattle.list_print.proofs.object_lines.put_each.Goals as goal

pub loop-v-init : goal.loop-v-init
loop-v-init c =
    let a = c.args in
    let g = a.g.now in
    (refl, refl, c.put_names.ensures, no-piece (line_in g) line_length a.out.now g.versions a.n)

pub loop-v-preserved : goal.loop-v-preserved
loop-v-preserved c =
    let l = c.loop-v in
    let a = c.args in
    let g = a.g.now in
    let p = c.put_version-w in (
      p.auto.out ∙ l.invariant.0,
      p.auto.line ∙ l.invariant.1,
      p.ensures.1,
      piece-behind (line_in g) line_length a.out.now g.versions a.n l.v
          (omega (arith, c.loop-v-test.true, g.few_groups, g.versions_long)) l.invariant.3 p.ensures.0,
    )
