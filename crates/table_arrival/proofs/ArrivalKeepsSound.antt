-- An empty drawing is sound, and an arrival leaves sound tables sound, whatever it is answered. Assumes nothing.
use mathlib.Core.Path.{◌≡◌, refl, ap, ◌∙◌}
use mathlib.Core.Bool.{Bool, true, false, cond}
use mathlib.Core.List.{List}
use Prim.Native.Nat.{ℕ, ◌+◌, ◌≤◌}
use native.Mathlib.Omega.{arith}
use lib.ListN.{length, get_or, length-set, length-replicate}
use lib.Dec.{eqb}
use borrow.Author.Tests.{eqb-true}
use Rattle.math_lists.specs.NumbersBelow.{all, sum}
use Rattle.math_lists.specs.SortedLists.{filter}
use Rattle.edit_record.specs.Layout.{most_sites}
use Rattle.edit_record.specs.RecordBytes.{decode_of}
use Rattle.edit_history.specs.EditsHeld.{edits_of, count_from, creates}
use Rattle.edit_history.specs.Answers2to5.{records_pass}
use Rattle.edit_history.specs.Answer16.{records_named}
use Rattle.edit_sum.specs.WordSum.{sum_held}
use Rattle.table_drawing.specs.declared.Counters.{Counters}
use Rattle.table_drawing.specs.Tables.{Tables, empty_drawing, records_length, objects_length, groups_length}
use Rattle.table_drawing.specs.AnswerNumbers.{outcome_of}
use Rattle.table_soundness.specs.Sound.{sound}
use Rattle.table_soundness.proofs.SoundFacts.{Sound, sound-at, sound-on}
use Rattle.table_arrival.specs.Answers6and7.{answer_to}
use Rattle.table_arrival.specs.Arrival.{taken, acceptance_of, arrival_of}
use Rattle.table_arrival.proofs.Admitted.{accepted, taken-by-kind, taken-one-more}
use Rattle.table_arrival.proofs.CreateKeepsSound.{create-keeps-sound}
use Rattle.table_arrival.proofs.SetKeepsSound.{set-keeps-sound}
use Rattle.table_arrival.proofs.LayerKeepsSound.{layer-keeps-sound}
use Rattle.math_lists.proofs.ByPlaces.{zero-anywhere}

-- sound tables with a count for each site, as the code's arrays have
pub record KeptSound (t : Tables) : Type 0 where
  pub is_sound : Sound t
  pub wide : length t.counters.held ≡ most_sites

-- ---- the empty drawing

pub empty-kept : (n : ℕ) → 1 ≤ n → n ≤ most_sites → KeptSound (empty_drawing n)
unfolding empty_drawing edits_of count_from creates filter records_pass records_named all sum_held sum
empty-kept n some few =
    record {
      is_sound =
          record {
            records-long = length-replicate {A = ℕ} records_length 0;
            objects-long = length-replicate {A = ℕ} objects_length 0;
            groups-long = length-replicate {A = ℕ} groups_length 0;
            some-sites = some;
            few-sites = few;
            few-records = omega arith;
            few-objects = omega arith;
            held = λ s l. zero-anywhere most_sites s;
            sum = refl;
            objects = refl;
            pass = refl;
            object = λ o l. absurd (omega arith);
            records-zero = λ i l k. zero-anywhere records_length i;
            objects-zero = λ i l k. zero-anywhere objects_length i;
            groups-zero = λ i l k. zero-anywhere groups_length i;
            rests = λ p l. absurd (omega arith);
            named = refl;
          };
      wide = refl;
    }

-- ---- an arrival

module _ (t : Tables) (b : List ℕ) (k : KeptSound t) where
  taken-kept : answer_to t b ≡ 0 → KeptSound (taken t b)
  taken-kept h =
      let a = accepted t b h in
      let own = (decode_of b).site.0 in
      let held = t.counters.held in
      record {
        is_sound =
            taken-by-kind t b a.admitted Sound (create-keeps-sound t b k.is_sound k.wide a.admitted)
            (λ c. set-keeps-sound t b k.is_sound a c k.wide)
            (layer-keeps-sound t b k.is_sound k.wide a.admitted);
        wide =
            ap (λ (c : Counters). length c.held) (taken-one-more t b).1
            ∙ length-set held own (get_or held own 0 + 1)
            ∙ k.wide;
      }

  pub acceptance-keeps : KeptSound (acceptance_of t b).after
  unfolding acceptance_of
  acceptance-keeps = go (eqb (answer_to t b) 0) refl
    where
      go : (x : Bool) → eqb (answer_to t b) 0 ≡ x →
          KeptSound (cond x (outcome_of 0 (taken t b)) (outcome_of (answer_to t b) t)).after
      go true h = taken-kept (eqb-true (answer_to t b) 0 h)
      go false h = k

-- whatever the tables, an arrival leaves them sound or unsound as they were
pub arrival-keeps-sound :
    (t : Tables) (b : List ℕ) → length t.counters.held ≡ most_sites → sound (arrival_of t b).after ≡ sound t
unfolding arrival_of
arrival-keeps-sound t b wide = go (sound t) refl
  where
    go : (x : Bool) → sound t ≡ x → sound (cond x (acceptance_of t b) (outcome_of 8 t)).after ≡ x
    go true h =
        sound-on (acceptance_of t b).after
        (acceptance-keeps t b (record { is_sound = sound-at t h; wide = wide })).is_sound
    go false h = h
