-- `list_line::pieces::Pieces::none` meets its contract: no place has a length. Assumes nothing.
use Prim.Native.Nat.{ℕ, ◌*◌}
use lib.ListN.{replicate, length-replicate}
use Rattle.list_line.specs.LineForms.{piece_length, pieces}
use Rattle.list_line.proofs.KeptPieces.{none_kept}
use Rattle.list_line.proofs.pieces.Pieces.none.Goals as goal

pub invariant_of-result : goal.invariant_of-result
invariant_of-result c =
    let long = pieces * piece_length in
    record { kept = none_kept (replicate long 0) (length-replicate {A = ℕ} long 0) }
