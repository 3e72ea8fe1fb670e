-- The lines of an object from what the code gathers of it, and the objects in their order. Assumes nothing.
use mathlib.Core.Path.{◌≡◌, refl, sym, ap, ◌∙◌, fun_ext}
use mathlib.Core.Bool.{Bool, true, false}
use mathlib.Core.List.{List, [], ◌∷◌, map}
use Prim.Native.Nat.{ℕ, zero, suc, ◌<◌}
use native.Mathlib.Numerals.{add-one}
use native.Mathlib.Omega.{arith}
use native.Mathlib.Decide.{dec_lt}
use borrow.Author.Tests.{le-leb, lt-leb}
use lib.Dec.{leb}
use lib.ListN.{length, get_or, take, length-append, length-map}
use lib.Seq.{get_or-take, length-take-le}
use Rattle.math_lists.specs.NumbersBelow.{keep}
use Rattle.math_lists.specs.SortedLists.{any}
use Rattle.math_lists.proofs.Booleans.{clash}
use Rattle.math_lists.proofs.NumbersBelow.{keep_at}
use Rattle.math_lists.proofs.Elements.{any-off}
use Rattle.math_lists.proofs.ByPlaces.{any-place-on}
use Rattle.math_lists.proofs.PutInOrder.{any-gathered, gathered-length}
use Rattle.table_drawing.specs.Tables.{Tables}
use Rattle.table_soundness.proofs.SoundFacts.{Sound}
use Rattle.table_arrival.specs.Answers6and7.{row_of}
use Rattle.list_version.specs.VersionOrder.{versions_of}
use Rattle.list_line.specs.Line.{version_line, object_lines}
use Rattle.math_lists.proofs.ByPlaces.{map-place}
use Rattle.list_line.specs.LineForms.{line_in}
use Rattle.list_line.proofs.LineByStamps.{line-by}
use Rattle.list_version.specs.declared.gathered.Workspace.{Workspace}
use Rattle.list_objects.specs.Objects.{create_of, sets_for, objects_of}
use Rattle.list_objects.specs.ObjectForms.{goes_first, GatheredIn}
use Rattle.list_objects.proofs.GatheredIs.{names-differ}
use Rattle.list_objects.proofs.KeysByTops.{in_order_lem}
use Rattle.list_lines.specs.List.{lines_for}

-- ---- what is gathered of an object

module _ (t : Tables) (s : Sound t) (o : ℕ) (low : o < t.counters.objects) (g : Workspace) (f : GatheredIn t o g) where
  line-is : (v : ℕ) → line_in g v ≡ version_line (create_of t o) (sets_for t o) v
  line-is v =
      let stamps = take g.sets g.stamps in
      let long : length stamps ≡ length (sets_for t o)
      = length-take-le g.sets g.stamps (omega (arith, g.few_sets, g.stamps_long)) ∙ f.sets in
      rw (f.site, f.seq, f.disputes)
      (line-by (sets_for t o) stamps f.stamps v (create_of t o) (names-differ t s o low)
      (omega (arith, f.sets, g.few_sets)) long)

  pub gathered-lines : map (line_in g) (take g.count g.versions) ≡ lines_for t o
  unfolding lines_for object_lines
  gathered-lines =
      ap (map (line_in g)) f.versions
      ∙ ap (λ (h : ℕ → List ℕ). map h (versions_of (sets_for t o) (row_of t o))) (fun_ext line-is)

  pub gathered-count : length (lines_for t o) ≡ g.count
  gathered-count =
      ap length (sym gathered-lines)
      ∙ length-map (take g.count g.versions) (line_in g)
      ∙ length-take-le g.count g.versions (omega (arith, g.few_groups, g.versions_long))

  pub gathered-line :
      (v : ℕ) → v < length (lines_for t o) → line_in g (get_or g.versions v 0) ≡ get_or (lines_for t o) v []
  gathered-line v l =
      let low : v < g.count = omega (arith, gathered-count) in
      let front = take g.count g.versions in
      let long = length-take-le g.count g.versions (omega (arith, g.few_groups, g.versions_long)) in
      sym (ap (λ (ls : List (List ℕ)). get_or ls v []) (sym gathered-lines)
      ∙ map-place (line_in g) front v 0 [] (omega (arith, long))
      ∙ ap (line_in g) (get_or-take g.count g.versions v 0 low))

-- ---- the objects in their order are the numbers below their count, each once

count-all : (n : ℕ) → length (keep n (λ o. true)) ≡ n
unfolding keep
count-all zero = refl
count-all (suc n) = length-append (keep n (λ o. true)) (n ∷ []) ∙ rw (count-all n) (add-one n)

none_above : (n : ℕ) → any (leb n) (keep n (λ o. true)) ≡ false
none_above n = any-off (leb n) (keep n (λ o. true)) (λ x m. lt-leb n x (keep_at n (λ o. true) x m).0)

module _ (t : Tables) (s : Sound t) where
  abbrev n : ℕ
  n = t.counters.objects

  abbrev first : ℕ → ℕ → Bool
  first = goes_first t.records t.counters.records t.objects

  objects-length : length (objects_of t) ≡ n
  objects-length =
      ap length (sym (in_order_lem t s))
      ∙ gathered-length first [] (keep n (λ o. true))
      ∙ omega (arith, count-all n)

  object-low : (i : ℕ) → i < n → get_or (objects_of t) i 0 < n
  unfolding any
  object-low i l = go (dec_lt (get_or (objects_of t) i 0) n)
    where
      none : any (leb n) (objects_of t) ≡ false
      none =
          ap (any (leb n)) (sym (in_order_lem t s))
          ∙ any-gathered first (leb n) [] (keep n (λ o. true))
          ∙ none_above n

      go : Dec (get_or (objects_of t) i 0 < n) → get_or (objects_of t) i 0 < n
      go (yes h) = h
      go (no h) =
          clash
          (any-place-on (leb n) 0 (objects_of t) i (omega (arith, objects-length))
          (le-leb n (get_or (objects_of t) i 0) (omega arith)))
          none

  -- `order` has them at its front
  module _ (order : List ℕ) (e : take n order ≡ objects_of t) where
    pub sorted-low : (i : ℕ) → i < n → get_or order i 0 < n
    sorted-low i l = rw (← get_or-take n order i 0 l, e) (object-low i l)
