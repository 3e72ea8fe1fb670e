-- `list_print::object_lines::put_versions` meets its contract: one line alone, or each behind those before it. Assumes
-- nothing.
use mathlib.Core.Path.{sym, subst}
use mathlib.Core.List.{map}
use Prim.Native.Nat.{ℕ, ◌*◌}
use native.Mathlib.Omega.{arith}
use lib.ListN.{take}
use Rattle.list_line.specs.Line.{line_length}
use Rattle.list_line.specs.LineForms.{line_in}
use Rattle.list_print.specs.Printing.{joined}
use Rattle.list_print.specs.PrintForms.{Behind}
use Rattle.list_print.proofs.BytesBehind.{no-piece, piece-behind}
use Rattle.list_print.proofs.object_lines.put_versions.Goals as goal

pub returns-then-g-eq1 : goal.returns-then-g-eq1
returns-then-g-eq1 c =
    let put = c.put_alone in
    let a = c.args in
    let g = a.g.now in
    let text = line_in g in
    let one = piece-behind text line_length a.out.now g.versions a.n 0 (omega (arith, g.versions_long))
    (no-piece text line_length a.out.now g.versions a.n) put.ensures in
    subst (λ (m : ℕ). Behind a.out.now a.n (joined (map text (take m g.versions))) (m * line_length) put.new.out put.result)
    (sym c.if-g-eq1.true) one
