-- All lines joined, and the outcomes of printing them. Assumes nothing.
use mathlib.Core.Path.{◌≡◌, refl, ◌∙◌}
use mathlib.Core.Bool.{true, false}
use mathlib.Core.List.{List, [], ◌∷◌, ◌++◌, map, flat_map}
use Prim.Native.Nat.{ℕ, ◌+◌, ◌-◌, ◌≤◌}
use native.Mathlib.Omega.{arith}
use lib.Dec.{leb}
use lib.ListN.{length, take}
use borrow.Author.Tests.{le-leb}
use borrow.Rule.Slice.PartMut.{mid_of, put_mid, mid_len}
use Rattle.table_drawing.specs.Tables.{Tables}
use Rattle.table_soundness.specs.Sound.{sound}
use Rattle.table_output.specs.Output.{writing}
use Rattle.table_output.proofs.OutputOutcomes.{not-put, put_whole}
use Rattle.list_objects.specs.Objects.{objects_of}
use Rattle.list_lines.specs.List.{lines_for, version_total, lines_of}
use Rattle.list_print.specs.Printing.{joined, list_of, list_length, listing_of}
use Rattle.list_lines.specs.LinesForms.{head_of}
use Rattle.list_print.specs.PrintForms.{all_lines, Behind}
use Rattle.list_print.proofs.BytesBehind.{joined-append}

-- ---- all lines joined

joined-each : (f : ℕ → List (List ℕ)) (os : List ℕ) → joined (flat_map f os) ≡ joined (map (λ o. joined (f o)) os)
unfolding joined flat_map
joined-each f [] = refl
joined-each f (o ∷ os) = joined-append (f o) (flat_map f os) ∙ rw (joined-each f os)

-- `order` has the objects in their order at its front
pub sorted-lines :
    (t : Tables) (order : List ℕ) → take t.counters.objects order ≡ objects_of t →
    (i : ℕ) → i ≡ t.counters.objects → joined (map (λ o. joined (lines_for t o)) (take i order)) ≡ all_lines t
unfolding all_lines
sorted-lines t order e i h = rw (h, e)

pub list-split : (t : Tables) → list_of t ≡ head_of t.counters t.objects ++ all_lines t
unfolding list_of lines_of version_total joined all_lines
list-split t = rw (joined-each (lines_for t) (objects_of t))

-- ---- the outcomes of printing all lines

module _ (t : Tables) (ok : sound t ≡ true) (out : List ℕ) (start : ℕ) where
  pub list-no-room :
      leb (start + length (list_of t)) (length out) ≡ false → writing 11 0 out ≡ listing_of t out start
  unfolding listing_of
  list-no-room full = rw ok (not-put out (list_of t) start (length (list_of t)) refl full)

  -- the part of the output from the start on comes back with all lines in front
  pub list_put :
      {o : List ℕ} {r : ℕ} → start + length (list_of t) ≤ length out →
      Behind (mid_of start (length out - start) out) 0 (list_of t) list_length o r →
      writing 0 r (put_mid start (length out - start) out o) ≡ listing_of t out start
  unfolding listing_of
  list_put fits b =
      let long = mid_len start (length out) out (omega (arith, fits)) in
      let n = 0 + length (list_of t) in
      rw (ok, b.end)
      (put_whole out (list_of t) start n (omega arith) (le-leb (start + n) (length out) (omega (arith, fits)))
      (b.put (omega (arith, long))))
