-- The index goes along with the tables: what an accepted record leaves holds what the index needs to take it in.
-- Assumes nothing.
use mathlib.Core.Path.{◌≡◌, sym, ap, subst, ◌∙◌}
use mathlib.Core.Bool.{true}
use mathlib.Core.List.{List, [], ◌∷◌, ◌++◌}
use Prim.Native.Nat.{ℕ, suc, ◌+◌, ◌<◌}
use native.Mathlib.Omega.{arith}
use native.Mathlib.Numerals.{add-one}
use lib.ListN.{length}
use Rattle.edit_record.specs.Layout.{most_sites}
use Rattle.edit_record.specs.declared.Edit.{Edit}
use Rattle.edit_record.specs.RecordBytes.{decode_of}
use Rattle.edit_history.specs.EditsHeld.{record_at, edits_of, count_from}
use Rattle.edit_walk.specs.WalkForms.{Spaced, count_in}
use Rattle.table_drawing.specs.Tables.{Tables}
use Rattle.table_drawing.specs.AnswerNumbers.{Outcome, outcome_of}
use Rattle.table_soundness.specs.Sound.{sound}
use Rattle.table_soundness.proofs.SoundFacts.{sound-at, sound-on}
use Rattle.table_index.specs.IndexForms.{number_at, IndexOf, Holds}
use Rattle.table_index.proofs.SameEdits.{number_same, index_same}
use Rattle.table_arrival.specs.Arrival.{put_record, taken, acceptance_of}
use Rattle.table_arrival.specs.Answers6and7.{answer_to}
use Rattle.table_arrival.proofs.RecordsOneMore.{Room, put-before, put-edits}
use Rattle.table_arrival.proofs.UntouchedSound.{room}
use Rattle.table_arrival.proofs.Admitted.{accepted, was-taken, taken-records}
use Rattle.table_arrival.proofs.ArrivalKeepsSound.{acceptance-keeps}
use Rattle.table_arrival.proofs.CodeInHand.{holds}

module _
    (t : Tables)
    (s : sound t ≡ true)
    (wide : length t.counters.held ≡ most_sites)
    (b : List ℕ)
    (t' : Tables)
    (a : outcome_of 0 t' ≡ acceptance_of t b) where
  -- ---- the record is taken

  answered : answer_to t b ≡ 0
  answered = (was-taken t t' b a).0

  is-taken : t' ≡ taken t b
  is-taken = (was-taken t t' b a).1

  -- one record more
  pub grown : t'.records ≡ put_record t.records t.counters.records b
  grown = ap (λ (u : Tables). u.records) is-taken ∙ (taken-records t b).0

  pub counted-on : t'.counters.records ≡ t.counters.records + 1
  counted-on = ap (λ (u : Tables). u.counters.records) is-taken ∙ (taken-records t b).1

  pub has_room : Room t.records t.counters.records b
  has_room = room t b (sound-at t s) wide (accepted t b answered).admitted

  -- those before it are as they were
  stay : (p : ℕ) → p < t.counters.records → record_at t.records p ≡ record_at t'.records p
  stay p l =
      sym (ap (λ (rs : List ℕ). record_at rs p) grown ∙ put-before t.records t.counters.records b has_room p l)

  edits-on :
      edits_of t'.records (suc t.counters.records)
      ≡ edits_of t.records t.counters.records ++ (decode_of b ∷ [])
  edits-on =
      ap (λ (rs : List ℕ). edits_of rs (suc t.counters.records)) grown
      ∙ put-edits t.records t.counters.records b has_room

  -- ---- what the index needs

  pub room-on :
      (ps : List ℕ) →
      Spaced (λ p. count_from p (edits_of t.records t.counters.records ++ (decode_of b ∷ []))) ps →
      Spaced (count_in t'.records (t.counters.records + 1)) ps
  room-on ps x = rw add-one (subst (λ (es : List Edit). Spaced (λ p. count_from p es) ps) (sym edits-on) x)

  pub holds_on : Holds t'.counters t'.records
  holds_on =
      let kept = acceptance-keeps t b (record { is_sound = sound-at t s; wide = wide }) in
      let is : sound t' ≡ true
      = ap (λ (o : Outcome). sound o.after) a ∙ sound-on (acceptance_of t b).after kept.is_sound in
      holds t' is

  pub index_on :
      (ps ns cs hs : List ℕ) → IndexOf t.records t.counters.records ps ns cs hs →
      IndexOf t'.records t.counters.records ps ns cs hs
  index_on ps ns cs hs x = index_same t.records t'.records t.counters.records stay ps ns cs hs x

  pub numbered-on : t.counters.objects ≡ number_at t'.records t.counters.records
  numbered-on =
      (sound-at t s).objects
      ∙ number_same t.records t'.records t.counters.records stay t.counters.records (omega arith)
