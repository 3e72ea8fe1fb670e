-- The edits in the first t of some places of a table: how many they are, and which is which. Assumes nothing.
use mathlib.Core.Path.{◌≡◌, ap, ◌∙◌}
use mathlib.Core.List.{List, map}
use Prim.Native.Nat.{ℕ, ◌≤◌, ◌<◌}
use native.Mathlib.Omega.{arith}
use lib.ListN.{length, get_or, take, length-map}
use lib.Seq.{length-take-le, get_or-take}
use Rattle.math_lists.proofs.ByPlaces.{map-place}
use Rattle.edit_record.specs.RecordBytes.{no_edit}
use Rattle.edit_history.specs.EditsHeld.{record_at}

module _ (rs ps : List ℕ) (t : ℕ) (fits : t ≤ length ps) where
  pub sets-length : length (map (record_at rs) (take t ps)) ≡ t
  sets-length = length-map (take t ps) (record_at rs) ∙ length-take-le t ps fits

  pub set-place : (i : ℕ) → i < t → get_or (map (record_at rs) (take t ps)) i no_edit ≡ record_at rs (get_or ps i 0)
  set-place i l =
      map-place (record_at rs) (take t ps) i 0 no_edit (omega (arith, length-take-le t ps fits))
      ∙ ap (record_at rs) (get_or-take t ps i 0 l)
