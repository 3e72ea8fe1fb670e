-- `table_kept::forget` meets its contract. Assumes nothing.
use mathlib.Core.Path.{◌∙◌}
use native.Mathlib.Omega.{arith}
use lib.ListN.{length-set}
use lib.Seq.{get_or-set_same}
use Rattle.table_kept.specs.BoxForms.{told_at}
use Rattle.table_kept.proofs.KeptAlong.{none_kept}
use Rattle.table_kept.proofs.forget.Goals as goal

pub returns : goal.returns
returns c es rows long =
    let ns = c.args.names.now in
    none_kept es _ rows (length-set ns told_at 0 ∙ c.requires) long (get_or-set_same ns told_at 0 0 (omega (arith, c.requires)))
