-- Demand 2, round trips: a drawing made from an empty one by accepted edits, written behind any bytes and read back, is
-- the same tables to the last entry; a file that reads with answer 0 gives sound tables which, written, are the same
-- bytes where the block is long, and read again are the same tables whatever its form. Assumes nothing.
use mathlib.Core.Path.{◌≡◌, refl, sym, ap, ap₂, ◌∙◌}
use mathlib.Core.Bool.{Bool, true, false, cond}
use mathlib.Core.List.{List, ◌++◌}
use Prim.Native.Nat.{ℕ, ◌+◌, ◌≤◌}
use native.Mathlib.Omega.{arith}
use lib.ListN.{length, take}
use lib.Seq.{take_all}
use lib.Dec.{eqb}
use borrow.Author.Tests.{eqb-true, eqb-false}
use Rattle.edit_record.proofs.NumbersInBytes.{Bytes}
use Rattle.edit_form.specs.OldForm.{long_form, start_of, stored_in, chained}
use Rattle.edit_form.proofs.Stretches.{chained_same, chained-again}
use Rattle.edit_history.specs.EditsHeld.{bytes_at}
use Rattle.edit_sum.proofs.SumOfRecords.{passing-fit}
use Rattle.table_drawing.specs.Tables.{Tables, empty_drawing, lengths_right, sites_right}
use Rattle.table_soundness.specs.Sound.{sound}
use Rattle.table_given.specs.Replay.{Replayed, replayed, replay_of}
use Rattle.table_given.proofs.ReplayGoes.{Going, going-faithful, going-sound}
use Rattle.table_given.proofs.OwnRecords.{going_of, holds, own-records}
use Rattle.block_trailer.specs.Trailer.{file_limit}
use Rattle.block_trailer.specs.Locating.{Found, Located, located}
use Rattle.block_store.specs.Writing.{record_bytes, block_of}
use Rattle.block_store.specs.Reading.{or_empty, records_read, reading_of}
use Rattle.block_store.proofs.WrittenLocated.{block-located, accepted-at, block-again, replay-held}
use Rattle.block_store.proofs.ReadingOutcomes.{all-taken, file-read}

-- ---- written and read back

pub written-and-read-back :
    (sites : ℕ) (rs : ℕ → List ℕ) → sites_right sites ≡ true → (n : ℕ) (t : Tables) → Going sites rs n t →
    (ahead : List ℕ) → length ahead + length (block_of t) ≤ file_limit →
    (u : Tables) → lengths_right u.records u.objects u.groups ≡ true →
    reading_of u (ahead ++ block_of t) ≡ replayed 0 0 t
written-and-read-back sites rs right n t g ahead room u lengths =
    let file = ahead ++ block_of t in
    let c = t.counters in
    let s = (going-faithful sites rs right n t g).kept.is_sound in
    let h = holds sites rs right n t g in
    let at = block-located t (going-sound sites rs right n t g) ahead room in
    let own : replayed 0 0 t ≡ replay_of c.sites (bytes_at t.records) c.records
    = own-records sites rs right n t g
    ∙ ap₂ (λ (x y : ℕ). replay_of x (bytes_at t.records) y) (sym h.sites-are) (sym h.count) in
    let front : replayed 0 0 t ≡ replay_of c.sites (stored_in long_form (record_bytes t)) c.records
    = own
    ∙ sym (replay-held c.sites t.records c.records (omega (arith, s.records-long, s.few-records))
    (passing-fit c.sites t.records c.records s.pass)) in
    sym (file-read u file lengths 0 c.sites long_form c.records (sym (ap (λ (l : Located). l.trailer) at)) refl
    (record_bytes t) (sym (ap (λ (l : Located). l.stretch) at)) (replayed 0 0 t)
    (all-taken c.sites long_form (record_bytes t) c.records 0 0 t front refl))

-- ---- read and written

-- the records of the block in a file
abbrev records_in : List ℕ → ℕ → List ℕ
records_in file = stored_in (located file).trailer.form (located file).stretch

-- a file that reads with answer 0 is located, and its records are all taken
read_is :
    (u : Tables) (file : List ℕ) → (reading_of u file).answer ≡ 0 →
    ((located file).trailer.answer ≡ 0)
    × Going (located file).trailer.sites (records_in file) (located file).trailer.records
    (reading_of u file).after
unfolding reading_of records_read
read_is u file h = go (lengths_right u.records u.objects u.groups) h
  where
    f : Found
    f = (located file).trailer

    r : Replayed
    r = replay_of f.sites (records_in file) f.records

    none : (y : Bool) → eqb r.answer 0 ≡ y →
        (cond y r (replayed r.answer r.index (empty_drawing f.sites))).answer ≡ 0 →
        Going f.sites (records_in file) f.records
        (cond y r (replayed r.answer r.index (empty_drawing f.sites))).after
    none true e h = going_of f.sites (records_in file) f.records h
    none false e h = absurd (eqb-false r.answer 0 e h)

    inner : (y : Bool) → eqb f.answer 0 ≡ y → (cond y (or_empty f.sites r) (replayed f.answer 0 u)).answer ≡ 0 →
        (f.answer ≡ 0)
        × Going f.sites (records_in file) f.records
        (cond y (or_empty f.sites r) (replayed f.answer 0 u)).after
    inner true e h = (eqb-true f.answer 0 e, none (eqb r.answer 0) refl h)
    inner false e h = absurd (eqb-false f.answer 0 e h)

    go : (x : Bool) →
        (cond x (cond (eqb f.answer 0) (or_empty f.sites r) (replayed f.answer 0 u)) (replayed 8 0 u)).answer ≡
        0 →
        (f.answer ≡ 0)
        × Going f.sites (records_in file) f.records
        (cond x (cond (eqb f.answer 0) (or_empty f.sites r) (replayed f.answer 0 u)) (replayed 8 0 u)).after
    go true h = inner (eqb f.answer 0) refl h
    go false h = absurd (omega arith)

-- the tables of a file that reads with answer 0 are sound
pub accepted-sound :
    (u : Tables) (file : List ℕ) → (reading_of u file).answer ≡ 0 → sound (reading_of u file).after ≡ true
accepted-sound u file h =
    let (accepted, g) = read_is u file h in
    let l = located file in
    going-sound l.trailer.sites (records_in file) (accepted-at file accepted).right-sites l.trailer.records
    (reading_of u file).after g

-- so they may be written: a long block is then the file from its first record on
pub read-and-written :
    (u : Tables) (file : List ℕ) → Bytes file → (reading_of u file).answer ≡ 0 → (located file).trailer.form ≡ long_form →
    (sound (reading_of u file).after ≡ true)
    × (take (located file).start file ++ block_of (reading_of u file).after ≡ file)
read-and-written u file bytes h form =
    let (accepted, g) = read_is u file h in
    let l = located file in
    let f = l.trailer in
    let t = (reading_of u file).after in
    let x = accepted-at file accepted in
    let has = holds f.sites (records_in file) x.right-sites f.records t g in
    let stored : (p : ℕ) → records_in file p ≡ stored_in long_form l.stretch p
    = λ p. ap (λ (k : ℕ). stored_in k l.stretch p) form in
    let walked : start_of long_form l.stretch f.records ≡ length l.stretch
    = ap (λ (k : ℕ). start_of k l.stretch f.records) (sym form) ∙ x.walked in
    let same : record_bytes t ≡ l.stretch
    = ap (chained (bytes_at t.records)) has.count
    ∙ chained_same (bytes_at t.records) (stored_in long_form l.stretch) f.records
    (λ p k. has.bytes p k ∙ stored p)
    ∙ chained-again l.stretch f.records
    ∙ take_all (start_of long_form l.stretch f.records) l.stretch (omega (arith, walked)) in (
      accepted-sound u file h,
      block-again file bytes accepted form t has.sites-are has.count same,
    )

-- and an old one too, written in the long form behind any bytes and read again, is the same drawing
pub read-written-and-read :
    (u : Tables) (file : List ℕ) → (reading_of u file).answer ≡ 0 →
    (ahead : List ℕ) → length ahead + length (block_of (reading_of u file).after) ≤ file_limit →
    (v : Tables) → lengths_right v.records v.objects v.groups ≡ true →
    reading_of v (ahead ++ block_of (reading_of u file).after) ≡ replayed 0 0 (reading_of u file).after
read-written-and-read u file h ahead room v lengths =
    let (accepted, g) = read_is u file h in
    let f = (located file).trailer in
    written-and-read-back f.sites (records_in file) (accepted-at file accepted).right-sites f.records
    (reading_of u file).after g ahead room v lengths
