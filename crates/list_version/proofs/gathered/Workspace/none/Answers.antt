-- `list_version::gathered::Workspace::none` meets its contract: of no Set nothing is noted. Assumes nothing.
use mathlib.Core.Path.{refl}
use native.Mathlib.Omega.{arith}
use lib.ListN.{replicate}
use Rattle.edit_record.specs.Layout.{keys}
use Rattle.list_version.proofs.StampsByKey.{keyed-none}
use Rattle.list_version.proofs.gathered.Workspace.none.Goals as goal

pub invariant_of-result : goal.invariant_of-result
invariant_of-result c =
    record {
      few_disputed = omega arith;
      few_sets = omega arith;
      noted = (keyed-none _ _ (replicate keys 0) refl).keyed;
      few_groups = omega arith;
      stamps_long = refl;
      versions_long = refl;
    }
