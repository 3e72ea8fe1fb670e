-- Where a line stands among the lines of all objects: the k-th of them is found by passing objects whose lines end
-- before it. Assumes nothing.
use mathlib.Core.Path.{◌≡◌, refl, sym, ap, ◌∙◌}
use mathlib.Core.Bool.{true, false}
use mathlib.Core.List.{List, [], ◌++◌, flat_map}
use Prim.Native.Nat.{ℕ, suc, ◌+◌, ◌-◌, ◌*◌, ◌≤◌, ◌<◌}
use native.Mathlib.Omega.{arith}
use borrow.Author.Tests.{lt-ltb, le-ltb, ltb-true}
use lib.Dec.{ltb}
use lib.ListN.{length, get_or, take, drop, length-append, length-drop, length-map, get_or-append}
use lib.Seq.{slice, get_or-append-add, length-take-le}
use Rattle.math_lists.proofs.Booleans.{same_test}
use Rattle.group_step.specs.GroupRows.{most_groups, row}
use Rattle.group_step.proofs.LoopRuns.{next, none_left}
use Rattle.table_drawing.specs.Tables.{Tables, groups_at}
use Rattle.table_soundness.proofs.SoundFacts.{Sound}
use Rattle.table_arrival.specs.Answers6and7.{row_of}
use Rattle.list_version.specs.VersionOrder.{versions_of}
use Rattle.list_line.specs.Line.{version_line, object_lines, line_length}
use Rattle.list_version.proofs.VersionsSorted.{versions-length}
use Rattle.list_lines.specs.declared.LinePlace.{LinePlace}
use Rattle.list_objects.specs.Objects.{create_of, sets_for, objects_of}
use Rattle.list_lines.specs.List.{lines_for, version_total, lines_of}
use Rattle.list_lines.specs.LinesForms.{head_of, LeftOf, FoundAt, PutAs}
use Rattle.list_lines.proofs.LinesGathered.{sorted-low}

-- ---- in a list of lists

module _ {A : Type 0} (xs ys : List A) (k : ℕ) (d : A) where
  passed-place : length xs ≤ k → get_or (xs ++ ys) k d ≡ get_or ys (k - length xs) d
  passed-place h =
      let e : k ≡ length xs + (k - length xs) = omega arith in
      ap (λ (i : ℕ). get_or (xs ++ ys) i d) e ∙ get_or-append-add xs ys (k - length xs) d

  passed-test : length xs ≤ k → ltb k (length (xs ++ ys)) ≡ ltb (k - length xs) (length ys)
  passed-test h =
      same_test (ltb k (length (xs ++ ys))) (ltb (k - length xs) (length ys))
      (λ p. lt-ltb (k - length xs) (length ys) (omega (arith, length-append xs ys, ltb-true k (length (xs ++ ys)) p)))
      (λ p. lt-ltb k (length (xs ++ ys)) (omega (arith, length-append xs ys, ltb-true (k - length xs) (length ys) p)))

-- ---- the objects passed

module _ (lines : ℕ → List (List ℕ)) (os : List ℕ) (n k : ℕ) (fits : n ≤ length os) where
  pub all_left : LeftOf lines (take n os) k (slice 0 n os) k
  all_left = record { test = refl; line = refl }

  module _ (i left : ℕ) (low : i < n) (f : LeftOf lines (take n os) k (slice i n os) left) where
    abbrev o : ℕ
    o = get_or os i 0

    one-passed :
        (count : ℕ) → count ≡ length (lines o) → count ≤ left →
        LeftOf lines (take n os) k (slice (i + 1) n os) (left - count)
    unfolding flat_map
    one-passed count e h =
        let rest = flat_map lines (slice (i + 1) n os) in
        let more = next os i n low fits in
        record {
          test = f.test ∙ rw (more, e) (passed-test (lines o) rest left [] (omega arith));
          line = f.line ∙ rw (more, e) (passed-place (lines o) rest left [] (omega arith));
        }

    found_here :
        left < length (lines o) →
        (true ≡ ltb k (length (flat_map lines (take n os))))
        × (get_or (flat_map lines (take n os)) k [] ≡ get_or (lines o) left [])
    unfolding flat_map
    found_here h =
        let rest = flat_map lines (slice (i + 1) n os) in
        let more = next os i n low fits in
        let low : left < length (lines o ++ rest) = omega (arith, length-append (lines o) rest) in (
          sym (f.test ∙ rw more (lt-ltb left (length (lines o ++ rest)) low)),
          f.line ∙ rw more (get_or-append (lines o) rest [] left h),
        )

  none_found :
      (i left : ℕ) → i ≤ n → n ≤ i → LeftOf lines (take n os) k (slice i n os) left →
      false ≡ ltb k (length (flat_map lines (take n os)))
  unfolding flat_map
  none_found i left h l f = sym (f.test ∙ rw (none_left os i n h l) (le-ltb left 0 (omega arith)))

-- ---- in sound tables, whose objects stand in `order`

module _ (t : Tables) (s : Sound t) where
  abbrev n : ℕ
  n = t.counters.objects

  row_count : (o : ℕ) → o < n → length (row_of t o) ≡ groups_at t.objects o
  row_count o l =
      let rest : length (drop (o * most_groups) t.groups) ≡ length t.groups - o * most_groups =
      length-drop (o * most_groups) t.groups in
      let long : length (row o t.groups) ≡ most_groups =
      length-take-le most_groups (drop (o * most_groups) t.groups)
      (omega (arith, rest, s.groups-long, s.few-objects)) in
      length-take-le (groups_at t.objects o) (row o t.groups) (omega (arith, long, (s.object o l).row.few))

  -- an object has a line for each of its groups
  lines-count : (o : ℕ) → o < n → length (lines_for t o) ≡ groups_at t.objects o
  unfolding lines_for object_lines
  lines-count o l =
      length-map (versions_of (sets_for t o) (row_of t o)) (version_line (create_of t o) (sets_for t o))
      ∙ versions-length (sets_for t o) (row_of t o) ∙ row_count o l

  module _ (order : List ℕ) (k : ℕ) (fits : n ≤ length order) (e : take n order ≡ objects_of t) where
    abbrev Left : ℕ → ℕ → Type 0
    Left i left = LeftOf (lines_for t) (take n order) k (slice i n order) left

    module _ (i left o count : ℕ) (low : i < n) (f : Left i left) (at : o ≡ get_or order i 0)
        (many : count ≡ groups_at t.objects o) where
      o-low : o < n
      o-low = rw at (sorted-low t s order e i low)

      o-count : count ≡ length (lines_for t (get_or order i 0))
      o-count = many ∙ sym (lines-count o o-low) ∙ ap (λ (x : ℕ). length (lines_for t x)) at

      pub passed_over : count ≤ left → Left (i + 1) (left - count)
      passed_over h = one-passed (lines_for t) order n k fits i left low f count o-count h

      pub found_at : left < count → FoundAt t k (record { object = o; version = left })
      found_at h =
          let (test, line) = found_here (lines_for t) order n k fits i left low f (omega (arith, o-count)) in
          record {
            within = sym (test ∙ ap (λ (os : List ℕ). ltb k (length (flat_map (lines_for t) os))) e);
            object = o-low;
            version = omega (arith, lines-count o o-low);
            line =
                sym (ap (λ (os : List ℕ). get_or (flat_map (lines_for t) os) k []) e)
                ∙ line ∙ ap (λ (x : ℕ). get_or (lines_for t x) left []) (sym at);
          }

    pub not_found :
        (i left : ℕ) → i ≤ n → n ≤ i → Left i left →
        ltb k (length (flat_map (lines_for t) (objects_of t))) ≡ false
    not_found i left h l f =
        sym (none_found (lines_for t) order n k fits i left h l f
        ∙ ap (λ (os : List ℕ). ltb k (length (flat_map (lines_for t) os))) e)

-- ---- the lines by their numbers, line 0 in front

module _ (t : Tables) (k : ℕ) (out : List ℕ) where
  pub numbered-head :
      (bytes : ℕ) → k ≡ 0 → take bytes out ≡ head_of t.counters t.objects → bytes ≤ line_length →
      PutAs (lines_of t) k bytes out
  unfolding lines_of version_total
  numbered-head bytes z e few =
      record {
        within = lt-ltb k (length (lines_of t)) (omega arith);
        few = few;
        line = e ∙ rw z;
      }

  module _ (j : ℕ) (next_one : k ≡ suc j) where
    abbrev rest : List (List ℕ)
    rest = flat_map (lines_for t) (objects_of t)

    test-behind : ltb k (length (lines_of t)) ≡ ltb j (length rest)
    unfolding lines_of
    test-behind =
        same_test (ltb k (length (lines_of t))) (ltb j (length rest))
        (λ p. lt-ltb j (length rest) (omega (arith, ltb-true k (length (lines_of t)) p)))
        (λ p. lt-ltb k (length (lines_of t)) (omega (arith, ltb-true j (length rest) p)))

    line-behind : get_or (lines_of t) k [] ≡ get_or rest j []
    unfolding lines_of
    line-behind = rw next_one

    pub not-numbered : ltb j (length rest) ≡ false → ltb k (length (lines_of t)) ≡ false
    not-numbered h = test-behind ∙ h

    pub numbered :
        (f : LinePlace) → FoundAt t j f → (bytes : ℕ) →
        take bytes out ≡ get_or (lines_for t f.object) f.version [] →
        bytes ≤ line_length → PutAs (lines_of t) k bytes out
    numbered f at bytes e few =
        record {
          within = test-behind ∙ at.within;
          few = few;
          line = e ∙ sym at.line ∙ sym line-behind;
        }
