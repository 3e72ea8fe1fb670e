-- An accepted layer edit leaves sound tables sound: one record more, and every object as it was. Assumes nothing.
use mathlib.Core.Path.{◌≡◌}
use mathlib.Core.Bool.{true}
use mathlib.Core.List.{List}
use Prim.Native.Nat.{ℕ, ◌+◌, ◌<◌}
use native.Mathlib.Omega.{arith}
use lib.ListN.{length}
use Rattle.edit_record.specs.declared.Edit.{Edit}
use Rattle.edit_record.specs.Layout.{most_sites}
use Rattle.edit_record.specs.RecordBytes.{decode_of}
use Rattle.edit_record.specs.Answer1.{is_layer}
use Rattle.edit_record.proofs.WellFormed.{layer-aimed, aimed-not-create, layer-not-set}
use Rattle.table_drawing.specs.Tables.{Tables, place_at, sets_at}
use Rattle.table_soundness.proofs.SoundFacts.{Sound}
use Rattle.table_soundness.proofs.EachObject.{Object}
use Rattle.table_arrival.specs.Arrival.{put_record, with_layer}
use Rattle.table_arrival.proofs.Admitted.{Admitted}
use Rattle.table_arrival.proofs.UntouchedSound.{entry_kept, sound-after}

module _ (t : Tables) (b : List ℕ) (s : Sound t) (wide : length t.counters.held ≡ most_sites)
    (a : Admitted t b) (k : is_layer (decode_of b) ≡ true) where
  abbrev e : Edit
  e = decode_of b

  abbrev n : ℕ
  n = t.counters.records

  every-object :
      (o : ℕ) → o < t.counters.objects → Object (put_record t.records n b) (n + 1) t.objects t.groups o
  every-object o l =
      let x = s.object o l in
      record {
        entry =
            entry_kept t b s wide a o (place_at t.objects o) (sets_at t.objects o) x.entry
            (rw (layer-not-set e k));
        row = x.row;
      }

  pub layer-keeps-sound : Sound (with_layer t b)
  unfolding with_layer
  layer-keeps-sound =
      sound-after t b s wide a 0 t.objects t.groups (rw (aimed-not-create e (layer-aimed e k)))
      (omega (arith, s.few-objects)) s.objects-long s.groups-long
      (λ o l. every-object o (omega arith))
      (λ i l j. s.objects-zero i (omega arith) j)
      (λ i l j. s.groups-zero i (omega arith) j)
