-- A block that was written is located, whatever bytes stand ahead of it; a block that is located is written again as
-- the same bytes; and replaying the stretch is replaying the table. Assumes nothing.
use mathlib.Core.Path.{◌≡◌, sym, ap, ◌∙◌}
use mathlib.Core.Bool.{true}
use mathlib.Core.List.{List, ◌++◌, append_assoc}
use Prim.Native.Nat.{ℕ, ◌+◌, ◌*◌, ◌≤◌}
use native.Mathlib.Omega.{arith}
use lib.ListN.{length, take, drop, length-append, length-drop, take-append-drop}
use lib.Seq.{drop-drop, get_or-drop}
use lib.Dec.{leb}
use borrow.Author.Tests.{le-leb}
use Rattle.math_lists.proofs.Booleans.{and-on}
use Rattle.edit_record.specs.Layout.{most_sites, place_length}
use Rattle.edit_record.specs.RecordBytes.{two, four}
use Rattle.edit_form.specs.OldForm.{long_form, start_of, stored_in, chained}
use Rattle.edit_form.proofs.Stretches.{chained-starts, chained-stored}
use Rattle.edit_record.proofs.NumbersInBytes.{Bytes, two-drop, bytes_drop}
use Rattle.edit_history.specs.EditsHeld.{most_records, bytes_at}
use Rattle.edit_sum.specs.WordSum.{ListsFit}
use Rattle.edit_sum.proofs.SumOfRecords.{passing-fit}
use Rattle.table_drawing.specs.Tables.{Tables, sites_right}
use Rattle.table_soundness.specs.Sound.{sound}
use Rattle.table_soundness.proofs.SoundFacts.{sound-at}
use Rattle.table_given.specs.Replay.{replay_of}
use Rattle.table_given.proofs.OwnRecords.{replay-same}
use Rattle.block_trailer.specs.Trailer.{file_limit, trailer_of, trailer_at, records_in, sites_in, form_in, start_in}
use Rattle.block_trailer.specs.Trailer.{distance_in}
use Rattle.block_trailer.specs.Locating.{found, Located, accepted_in, sites_fit, located}
use Rattle.block_store.specs.Writing.{record_bytes, block_of}
use Rattle.block_store.proofs.WritingOutcomes.{held_whole}
use Rattle.block_trailer.proofs.LocatingOutcomes.{Fit, stretch-long, sites-right, accepted, located-by}
use Rattle.block_trailer.proofs.TrailerBytes.{sites-back, form-back, records-back, start_back, stretch-back}
use Rattle.block_trailer.proofs.TrailerBytes.{trailer-fit, trailer-again}

-- ---- long records with their trailer

module _ (rs : List ℕ) (n sites : ℕ) (walked : start_of long_form rs n ≡ length rs) (few : n ≤ most_records)
    (right : sites_right sites ≡ true) (ahead : List ℕ) where
  abbrev front : List ℕ
  front = ahead ++ rs

  abbrev behind : List ℕ
  behind = trailer_of n sites (length rs)

  file-is : ahead ++ (rs ++ behind) ≡ front ++ behind
  file-is = sym (append_assoc ahead rs behind)

  pub records-located :
      length ahead + length (rs ++ behind) ≤ file_limit →
      located (ahead ++ (rs ++ behind))
      ≡ record {
        trailer = found 0 sites long_form n;
        start = length ahead;
        stretch = rs;
      }
  records-located room =
      let file = front ++ behind in
      let d = length rs in
      let within : length file ≤ file_limit = rw (← file-is, length-append ahead (rs ++ behind)) room in
      let low : d ≤ file_limit = omega (arith, length-append rs behind) in
      let fits : sites_fit file ≡ true = rw (sites-back front n sites d, form-back front n sites d) right in
      rw file-is
      (accepted file within (trailer-fit ahead rs n sites low few walked) fits
      ∙ rw (
        stretch-back ahead rs n sites low,
        start_back ahead rs n sites low,
        sites-back front n sites d,
        form-back front n sites d,
        records-back front n sites d few,
      ))

-- a block that was written
pub block-located :
    (t : Tables) → sound t ≡ true → (ahead : List ℕ) → length ahead + length (block_of t) ≤ file_limit →
    located (ahead ++ block_of t)
    ≡ record {
      trailer = found 0 t.counters.sites long_form t.counters.records;
      start = length ahead;
      stretch = record_bytes t;
    }
unfolding block_of
block-located t ok ahead room =
    let s = sound-at t ok in
    let sites = t.counters.sites in
    let right : sites_right sites ≡ true =
    and-on (leb 1 sites) (leb sites most_sites) (le-leb 1 sites s.some-sites)
    (le-leb sites most_sites s.few-sites) in
    let n = t.counters.records in
    let whole = held_whole t.records n (omega (arith, s.records-long, s.few-records))
    (passing-fit sites t.records n s.pass) in
    records-located (record_bytes t) n sites (chained-starts (bytes_at t.records) n whole n (omega arith))
    s.few-records right ahead room

-- ---- a block that is located

pub record AcceptedFile (file : List ℕ) (l : Located) : Type 0 where
  pub few-records : l.trailer.records ≤ most_records
  pub right-sites : sites_right l.trailer.sites ≡ true
  pub walked : start_of l.trailer.form l.stretch l.trailer.records ≡ length l.stretch
  pub whole :
      Bytes file → l.trailer.form ≡ long_form →
      take l.start file
      ++ (l.stretch ++ trailer_of l.trailer.records l.trailer.sites (length l.stretch))
      ≡ file

module _ (file : List ℕ) where
  trailer-is :
      Bytes file → Fit file → form_in file ≡ long_form →
      trailer_of (records_in file) (sites_in file) (distance_in file) ≡ drop (trailer_at file) file
  trailer-is bytes f l =
      let at = trailer_at file in
      let s = drop at file in
      let zeroth : at + 0 ≡ at = omega arith in
      let sixth : at + 6 ≡ at + 4 + 2 = omega arith in
      let records : two s 0 ≡ records_in file = rw (two-drop at file 0, zeroth) in
      let distance : four s 4 ≡ distance_in file = rw (two-drop at file 4, two-drop at file 6, sixth) in
      rw (records, distance, get_or-drop at file 2 0) at
      (trailer-again s (simp length-drop (omega (arith, f.long))) (bytes_drop at file bytes)
      (get_or-drop at file 3 0 ∙ l))

  fit-accepted : Fit file → sites_fit file ≡ true → AcceptedFile file (accepted_in file)
  fit-accepted f k =
      let d = distance_in file in
      let start = start_in file in
      let long = stretch-long file f.inside in
      let end : trailer_at file ≡ start + d = omega (arith, f.inside) in
      let tail : Bytes file → form_in file ≡ long_form →
      trailer_of (records_in file) (sites_in file) d ≡ drop d (drop start file) =
      λ bytes l. trailer-is bytes f l ∙ ap (λ (k : ℕ). drop k file) end ∙ sym (drop-drop d start file) in
      record {
        few-records = f.few;
        right-sites = sites-right file k;
        walked = f.walked ∙ sym long;
        whole =
            λ bytes l. rw (long, tail bytes l, take-append-drop d (drop start file)) (take-append-drop start file);
      }

  pub accepted-at : (located file).trailer.answer ≡ 0 → AcceptedFile file (located file)
  accepted-at =
      located-by file (λ l. l.trailer.answer ≡ 0 → AcceptedFile file l) (λ e. absurd (omega arith))
      (λ e. absurd (omega arith)) (λ f k e. fit-accepted f k)

  -- tables that hold the records of the stretch, for the N of the trailer, are written as the same block
  pub block-again :
      Bytes file → (located file).trailer.answer ≡ 0 → (located file).trailer.form ≡ long_form → (t : Tables) →
      t.counters.sites ≡ (located file).trailer.sites → t.counters.records ≡ (located file).trailer.records →
      record_bytes t ≡ (located file).stretch → take (located file).start file ++ block_of t ≡ file
  unfolding block_of
  block-again bytes h l t p q r = rw (r, p, q) ((accepted-at h).whole bytes l)

-- ---- the stretch holds the records that the table holds

pub replay-held :
    (sites : ℕ) (rs : List ℕ) (n : ℕ) → n * place_length ≤ length rs → ListsFit rs n →
    replay_of sites (stored_in long_form (chained (bytes_at rs) n)) n ≡ replay_of sites (bytes_at rs) n
replay-held sites rs n there fit =
    replay-same sites (stored_in long_form (chained (bytes_at rs) n)) (bytes_at rs) n
    (chained-stored (bytes_at rs) n (held_whole rs n there fit))
