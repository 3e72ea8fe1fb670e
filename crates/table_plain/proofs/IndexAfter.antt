-- The index after a record that was taken, by what the code puts into it. Assumes nothing.
use mathlib.Core.Path.{◌≡◌, refl, sym, ap, ap₂, subst, ◌∙◌}
use mathlib.Core.Bool.{true, false}
use mathlib.Core.List.{List}
use Prim.Native.Nat.{ℕ, suc, ◌+◌, ◌<◌}
use native.Mathlib.Omega.{arith}
use native.Mathlib.Numerals.{add-one}
use lib.ListN.{length, get_or, set}
use Rattle.math_lists.proofs.Booleans.{clash}
use Rattle.edit_record.specs.declared.Edit.{Edit}
use Rattle.edit_record.specs.RecordBytes.{decode_of}
use Rattle.edit_record.specs.Answer1.{is_create, is_set}
use Rattle.edit_history.specs.EditsHeld.{record_at}
use Rattle.edit_walk.specs.WalkForms.{places_length, slot_of, place_of, Spaced, SameStarts, count_in}
use Rattle.table_drawing.specs.Tables.{Tables, tables_of}
use Rattle.table_drawing.specs.AnswerNumbers.{outcome_of}
use Rattle.table_soundness.proofs.SoundFacts.{sound-at}
use Rattle.table_index.specs.IndexForms.{number_at, IndexOf, Holds, counters_of, linked_in}
use Rattle.table_index.proofs.OneRecordMore.{spot-low, starts-kept, create-added, place-added, set-added, target_at}
use Rattle.table_index.proofs.OneRecordMore.{on-target}
use Rattle.table_arrival.specs.Arrival.{acceptance_of}
use Rattle.table_arrival.proofs.Admitted.{accepted, was-taken}
use Rattle.table_arrival.proofs.CodeOutcomes.{count_room}
use Rattle.table_arrival.proofs.RecordsOneMore.{put-here}
use Rattle.table_plain.specs.TakingForms.{TakesShort, LeavesShort, spot_of, Enters}
use Rattle.table_plain.proofs.IndexGoesAlong.{counted-on, grown, has_room, room-on, holds_on, index_on}
use Rattle.table_plain.proofs.IndexGoesAlong.{numbered-on}

module _
    (sites n m sum : ℕ)
    (held rs os gs ps ns cs hs b : List ℕ)
    (p : TakesShort (tables_of (counters_of sites n m held sum) rs os gs) ps ns cs hs b)
    (u : Tables)
    (ok : outcome_of 0 u ≡ acceptance_of (tables_of (counters_of sites n m held sum) rs os gs) b) where
  abbrev t : Tables
  t = tables_of (counters_of sites n m held sum) rs os gs

  abbrev e : Edit
  e = decode_of b

  abbrev rs' : List ℕ
  rs' = u.records

  after : Holds u.counters rs'
  after = holds_on t p.takes.is_sound p.takes.wide b u ok

  one_more_lem : u.counters.records ≡ n + 1
  one_more_lem = counted-on t p.takes.is_sound p.takes.wide b u ok

  less : n < u.counters.records
  less = omega (arith, one_more_lem)

  before : IndexOf rs' n ps ns cs hs
  before = index_on t p.takes.is_sound p.takes.wide b u ok ps ns cs hs p.takes.index

  here : record_at rs' n ≡ e
  here =
      ap (λ (x : List ℕ). record_at x n) (grown t p.takes.is_sound p.takes.wide b u ok)
      ∙ put-here rs n b (has_room t p.takes.is_sound p.takes.wide b u ok)

  spaced : Spaced (count_in rs' (suc n)) ps
  spaced = rw add-one at (room-on t p.takes.is_sound p.takes.wide b u ok ps p.takes.room)

  pub spot-fits : spot_of ps b < length ps
  spot-fits =
      rw p.takes.index.places-long
      (subst (λ (x : Edit). slot_of ps x.site.0 x.seq.0 < places_length) here
      (spot-low u.counters rs' after n less ps ns cs hs before spaced))

  same-starts : SameStarts ps (set ps (spot_of ps b) n)
  same-starts =
      subst (λ (x : Edit). SameStarts ps (set ps (slot_of ps x.site.0 x.seq.0) n)) here
      (starts-kept u.counters rs' after n less ps ns cs hs before spaced)

  -- the index with the record's place, as the record stands in the table
  own :
      (ns' cs' : List ℕ) (hs' : Edit → List ℕ) →
      IndexOf rs' (suc n) (set ps (slot_of ps (record_at rs' n).site.0 (record_at rs' n).seq.0) n) ns' cs'
      (hs' (record_at rs' n)) →
      IndexOf rs' (suc n) (set ps (spot_of ps b) n) ns' cs' (hs' e)
  own ns' cs' hs' x =
      subst (λ (y : Edit). IndexOf rs' (suc n) (set ps (slot_of ps y.site.0 y.seq.0) n) ns' cs' (hs' y))
      here x

  pub enter-asks : Enters held n ps b
  enter-asks =
      let s = sound-at t p.takes.is_sound in
      let a = (accepted t b (was-taken t u b ok).0).admitted in
      record {
        room = p.few;
        site = omega (arith, a.formed.site, s.few-sites, p.takes.wide);
        count = count_room t b s a;
        spot = spot-fits;
      }

  leaves :
      (ns' cs' hs' : List ℕ) → IndexOf rs' (suc n) (set ps (spot_of ps b) n) ns' cs' hs' →
      LeavesShort t b true u ps ns cs hs (set ps (spot_of ps b) n) ns' cs' hs'
  leaves ns' cs' hs' x =
      record {
        taken = λ y. record {
          outcome = ok;
          index = λ z. rw (one_more_lem, add-one n) x;
          starts = λ z. same-starts;
        };
        tables = λ y. clash refl y;
        index = λ y. clash refl y;
      }

  pub create-leaves :
      is_create e ≡ true → LeavesShort t b true u ps ns cs hs (set ps (spot_of ps b) n) (set ns n m) cs hs
  create-leaves k =
      let is : number_at rs' n ≡ m = sym (numbered-on t p.takes.is_sound p.takes.wide b u ok) in
      leaves (set ns n m) cs hs
      (own (set ns n m) cs (λ y. hs)
      (rw is at
      (create-added u.counters rs' after n less ps ns cs hs before spaced
      (ap (λ (y : Edit). is_create y) here ∙ k))))

  pub layer-leaves :
      is_create e ≡ false → is_set e ≡ false → LeavesShort t b true u ps ns cs hs (set ps (spot_of ps b) n) ns cs hs
  layer-leaves c k =
      leaves ns cs hs
      (own ns cs (λ y. hs)
      (place-added u.counters rs' after n less ps ns cs hs before spaced (ap (λ (y : Edit). is_create y) here ∙ c)
      (ap (λ (y : Edit). is_set y) here ∙ k)))

  -- of a Set whose object is number o
  pub set-leaves :
      (o : ℕ) → o ≡ get_or ns (place_of ps e.tsite.0 e.tseq.0) 0 → is_set e ≡ true →
      LeavesShort t b true u ps ns cs hs (set ps (spot_of ps b) n) (set ns n (get_or cs o 0))
      (set cs o (get_or cs o 0 + 1)) (linked_in hs n o e.kind e.key)
  set-leaves o number k =
      let (q, l, create, on, _)
      = target_at u.counters rs' after n less ps ns cs hs before spaced (ap (λ (y : Edit). is_set y) here ∙ k) in
      let (_, site, seq) = on-target u.counters rs' after n less q n on in
      let at : place_of ps e.tsite.0 e.tseq.0 ≡ q
      = ap₂ (λ (i j : ℕ). place_of ps i j) (ap (λ (y : Edit). y.tsite.0) (sym here) ∙ site)
      (ap (λ (y : Edit). y.tseq.0) (sym here) ∙ seq)
      ∙ before.indexed q l in
      let is : number_at rs' q ≡ o
      = sym (before.numbered q l create) ∙ ap (λ (i : ℕ). get_or ns i 0) (sym at) ∙ sym number in
      let ns' = set ns n (get_or cs o 0) in
      let cs' = set cs o (get_or cs o 0 + 1) in
      leaves ns' cs' (linked_in hs n o e.kind e.key)
      (own ns' cs' (λ y. linked_in hs n o y.kind y.key)
      (rw is at (set-added u.counters rs' after n less ps ns cs hs before spaced q l create on)))
