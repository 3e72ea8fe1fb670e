-- The three outcomes of opening tables t for n sites. Assumes nothing.
use mathlib.Core.Path.{◌≡◌}
use mathlib.Core.Bool.{true, false}
use mathlib.Core.List.{List}
use Prim.Native.Nat.{ℕ}
use lib.Dec.{eqb}
use lib.ListN.{length, replicate}
use borrow.Author.Tests.{eqb-true}
use Rattle.math_lists.proofs.Booleans.{both}
use Rattle.edit_record.specs.Layout.{most_sites}
use Rattle.table_drawing.specs.Tables.{Tables, tables_of, empty_drawing, records_length, objects_length, groups_length}
use Rattle.table_drawing.specs.Tables.{lengths_right, sites_right}
use Rattle.table_drawing.specs.AnswerNumbers.{outcome_of}
use Rattle.table_drawing.specs.Opening.{opening_of}

module _ (t : Tables) (n : ℕ) where
  pub refused-lengths :
      lengths_right t.records t.objects t.groups ≡ false → outcome_of 8 t ≡ opening_of t n
  unfolding opening_of
  refused-lengths h = rw h

  pub refused-sites :
      lengths_right t.records t.objects t.groups ≡ true →
      sites_right n ≡ false →
      outcome_of 9 t ≡ opening_of t n
  unfolding opening_of
  refused-sites h k = rw (h, k)

  pub opened :
      lengths_right t.records t.objects t.groups ≡ true →
      sites_right n ≡ true →
      {rs os gs : List ℕ} →
      rs ≡ replicate (length t.records) 0 →
      os ≡ replicate (length t.objects) 0 →
      gs ≡ replicate (length t.groups) 0 →
      outcome_of 0
      (tables_of (record { sites = n; records = 0; objects = 0; held = replicate most_sites 0; sum = 0 }) rs os gs)
      ≡ opening_of t n
  unfolding opening_of empty_drawing
  opened h k p q r =
      let (u, c) = both _ (eqb (length t.groups) groups_length) h in
      let (a, b) = both _ (eqb (length t.objects) objects_length) u in
      let x = eqb-true (length t.records) records_length a in
      let y = eqb-true (length t.objects) objects_length b in
      let z = eqb-true (length t.groups) groups_length c in
      rw (h, k, p, q, r, x, y, z)
