-- What the Sets of an object are to an edit e, found as the records are walked over. Assumes nothing.
use mathlib.Core.Path.{◌≡◌, refl, sym, subst}
use mathlib.Core.Bool.{true, false, ◌||◌, cond}
use mathlib.Core.List.{List, [], ◌∷◌, ◌++◌}
use Prim.Native.Nat.{ℕ, ◌+◌, ◌^◌, ◌≤◌, ◌<◌}
use native.Mathlib.Omega.{arith}
use lib.ListN.{length, length-append}
use Rattle.math_lists.specs.SortedLists.{any}
use Rattle.math_lists.proofs.GrownAtEnd.{any_snoc}
use Rattle.edit_record.specs.declared.Site.{Site}
use Rattle.edit_record.specs.declared.Seq.{Seq}
use Rattle.edit_record.specs.declared.Edit.{Edit}
use Rattle.edit_record.specs.Answer1.{is_limited}
use Rattle.edit_causal.specs.Conflict.{do_conflict}
use Rattle.edit_causal.proofs.PlainMarks.{none-marked, one-more-marked, marked-below}
use Rattle.edit_history.specs.EditsHeld.{record_at, edits_of, is_set_on, sets_on}
use Rattle.edit_object.proofs.PlacesPassed.{more-passed, no-place-more, some_left, no-places}
use Rattle.group_step.specs.GroupRows.{most_sets}
use Rattle.table_arrival.specs.declared.Mates.{Mates}
use Rattle.table_arrival.specs.ArrivalForms.{MatesOf}

-- the mates with one more, a
abbrev pub with_mate : Mates → Edit → Edit → Mates
with_mate m e a =
    record {
      sets = m.sets + 1;
      plain = m.plain + cond (do_conflict a e) (2 ^ m.sets) 0;
      limited = m.limited || is_limited a;
    }

module _ (e : Edit) where
  no-mates : MatesOf [] e (record { sets = 0; plain = 0; limited = false })
  unfolding any
  no-mates = record { sets = refl; plain = sym (none-marked e); limited = refl }

  mates-more : (ms : List Edit) (m : Mates) (a : Edit) → MatesOf ms e m → MatesOf (ms ++ (a ∷ [])) e (with_mate m e a)
  mates-more ms m a h =
      record {
        sets = omega (arith, h.sets, length-append ms (a ∷ []));
        plain = rw (h.plain, h.sets) (sym (one-more-marked e ms a));
        limited = rw h.limited (sym (any_snoc is_limited ms a));
      }

  pub mates-below : (ms : List Edit) (m : Mates) → MatesOf ms e m → m.plain < 2 ^ m.sets
  mates-below ms m h = rw (h.plain, h.sets) (marked-below e ms)

  -- ---- as the first i records are walked over

  module _ (rs : List ℕ) (s : Site) (q : Seq) where
    pub mates-none : MatesOf (sets_on s q (edits_of rs 0)) e (record { sets = 0; plain = 0; limited = false })
    unfolding sets_on
    mates-none =
        subst (λ (ms : List Edit). MatesOf ms e (record { sets = 0; plain = 0; limited = false }))
        (no-places rs (is_set_on s q)) no-mates

    module _ (i : ℕ) (m : Mates) (h : MatesOf (sets_on s q (edits_of rs i)) e m) where
      pub mate-found :
          is_set_on s q (record_at rs i) ≡ true →
          MatesOf (sets_on s q (edits_of rs (i + 1))) e (with_mate m e (record_at rs i))
      unfolding sets_on
      mate-found is =
          rw (more-passed rs (is_set_on s q) i, is) (mates-more (sets_on s q (edits_of rs i)) m (record_at rs i) h)

      pub no-mate-found :
          is_set_on s q (record_at rs i) ≡ false → MatesOf (sets_on s q (edits_of rs (i + 1))) e m
      unfolding sets_on
      no-mate-found other =
          subst (λ (ms : List Edit). MatesOf ms e m) (sym (no-place-more rs (is_set_on s q) i other)) h

      -- where one more is found, fewer than all were counted
      pub mates-few :
          (n : ℕ) → i < n → is_set_on s q (record_at rs i) ≡ true → length (sets_on s q (edits_of rs n)) ≤ most_sets →
          m.sets < most_sets
      unfolding sets_on
      mates-few n l is few = omega (arith, h.sets, some_left rs (is_set_on s q) i n l is, few)
