-- `edit_record::padded` meets its contract: behind the bytes that are copied stand zeros. Assumes nothing.
use mathlib.Core.Path.{ap, ◌∙◌}
use mathlib.Core.List.{List, ◌++◌}
use Prim.Native.Nat.{ℕ}
use lib.ListN.{length, get_or, drop, replicate}
use Rattle.edit_record.specs.Layout.{record_length}
use Rattle.edit_record.proofs.PaddedBytes.{zeros-behind}
use Rattle.edit_record.proofs.padded.Goals as goal

pub returns : goal.returns
returns c =
    let s = c.args.rec.now in
    λ i. ap (λ (t : List ℕ). get_or (t ++ drop (length s) (replicate record_length 0)) i 0) c.copy_from_slice.ensures.after
    ∙ zeros-behind s record_length i
