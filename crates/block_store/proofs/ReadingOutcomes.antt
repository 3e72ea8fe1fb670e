-- What the code that reads a file has in hand is what the definition says: refused, all records taken, or one refused
-- and the drawing emptied. Assumes nothing.
use mathlib.Core.Path.{◌≡◌, sym, ap, subst, ◌∙◌}
use mathlib.Core.Bool.{true, false}
use mathlib.Core.List.{List}
use Prim.Native.Nat.{ℕ, ◌≤◌}
use native.Mathlib.Omega.{arith}
use lib.ListN.{length}
use lib.Dec.{leb}
use borrow.Author.Tests.{eq-eqb, ne_eqb, leb-true}
use Rattle.math_lists.proofs.Booleans.{both}
use Rattle.edit_record.specs.Layout.{most_sites}
use Rattle.edit_form.specs.OldForm.{start_of, stored_in}
use Rattle.edit_history.specs.EditsHeld.{most_records}
use Rattle.table_drawing.specs.Tables.{Tables, empty_drawing, records_length, objects_length, groups_length, lengths_right}
use Rattle.table_drawing.specs.Tables.{sites_right}
use Rattle.table_arrival.proofs.Faithful.{Faithful}
use Rattle.table_given.specs.Replay.{Replayed, replayed, replay_of}
use Rattle.table_given.proofs.ReplayFaithful.{replay-faithful}
use Rattle.block_trailer.specs.Locating.{Found, found, located}
use Rattle.block_store.specs.Reading.{records_read, reading_of}
use Rattle.block_store.proofs.WrittenLocated.{accepted-at}

-- ---- the records

module _ (sites form : ℕ) (rs : List ℕ) (n a i : ℕ) (t : Tables)
    (h : replayed a i t ≡ replay_of sites (stored_in form rs) n) where
  pub all-taken : a ≡ 0 → replayed a i t ≡ records_read sites form rs n
  unfolding records_read
  all-taken z = rw (← h, z)

  pub one-refused : (a ≡ 0 → ⊥) → (e : Tables) → e ≡ empty_drawing sites → replayed a i e ≡ records_read sites form rs n
  unfolding records_read
  one-refused d e q = rw (← h, ne_eqb a 0 d, q)

  -- a replay leaves tables of the stated lengths
  pub lengths-stay : sites_right sites ≡ true → lengths_right t.records t.objects t.groups ≡ true
  lengths-stay right =
      let (some, few) = both (leb 1 sites) (leb sites most_sites) right in
      let f : Faithful t
      = subst Faithful (sym (ap (λ (r : Replayed). r.after) h))
      (replay-faithful sites (leb-true 1 sites some) (leb-true sites most_sites few) (stored_in form rs) n) in
      let s = f.kept.is_sound in
      rw (
        eq-eqb (length t.records) records_length s.records-long,
        eq-eqb (length t.objects) objects_length s.objects-long,
        eq-eqb (length t.groups) groups_length s.groups-long,
      )

-- ---- the file

module _ (t : Tables) (file : List ℕ) where
  pub wrong-lengths : lengths_right t.records t.objects t.groups ≡ false → replayed 8 0 t ≡ reading_of t file
  unfolding reading_of
  wrong-lengths h = rw h

  module _ (right : lengths_right t.records t.objects t.groups ≡ true) (a s f n : ℕ)
      (h : found a s f n ≡ (located file).trailer) where
    pub file-refused : (a ≡ 0 → ⊥) → replayed a 0 t ≡ reading_of t file
    unfolding reading_of
    file-refused d = rw (right, ← h, ne_eqb a 0 d)

    module _ (z : a ≡ 0) (stretch : List ℕ) (q : stretch ≡ (located file).stretch) where
      -- the stretch may be replayed
      pub ready-to-read : (sites_right s ≡ true) × (n ≤ most_records) × (start_of f stretch n ≤ length stretch)
      ready-to-read =
          let x = accepted-at file (sym (ap (λ (g : Found). g.answer) h) ∙ z) in
          let es : s ≡ (located file).trailer.sites = ap (λ (g : Found). g.sites) h in
          let en : n ≡ (located file).trailer.records = ap (λ (g : Found). g.records) h in
          let walked : start_of f stretch n ≡ length stretch
          = rw q (ap (λ (g : Found). start_of g.form (located file).stretch g.records) h ∙ x.walked) in (
            rw es x.right-sites,
            rw en x.few-records,
            omega (arith, walked),
          )

      pub file-read : (r : Replayed) → r ≡ records_read s f stretch n → r ≡ reading_of t file
      unfolding reading_of
      file-read r e = rw (right, ← h, ← q, z) e
