-- Reading an old block gives exactly what reading its long form gives: the same tables, and for a refused record the
-- same answer and index. Assumes that the file is located.
use mathlib.Core.Path.{◌≡◌, sym, ap}
use mathlib.Core.Bool.{cond}
use mathlib.Core.List.{List, ◌++◌}
use Prim.Native.Nat.{ℕ, ◌+◌, ◌≤◌}
use native.Mathlib.Omega.{arith}
use lib.ListN.{length}
use Rattle.edit_form.specs.OldForm.{long_form, start_of, stored_in, chained}
use Rattle.edit_form.proofs.Stretches.{stored-whole, chained-starts, chained-stored}
use Rattle.table_drawing.specs.Tables.{Tables, lengths_right}
use Rattle.table_given.specs.Replay.{Replayed, replayed}
use Rattle.table_given.proofs.OwnRecords.{replay-same}
use Rattle.block_trailer.specs.Trailer.{file_limit}
use Rattle.block_trailer.specs.Locating.{located}
use Rattle.block_store.specs.Reading.{or_empty, records_read, reading_of}
use Rattle.block_store.specs.LongBlock.{long_block}
use Rattle.block_store.proofs.WrittenLocated.{accepted-at, records-located}

module _ (form : ℕ) (s : List ℕ) (n : ℕ) (fits : start_of form s n ≤ length s) where
  -- its records as long ones, one behind the other
  abbrev long : List ℕ
  long = chained (stored_in form s) n

  pub read-the-same : (sites : ℕ) → records_read sites form s n ≡ records_read sites long_form long n
  unfolding records_read
  read-the-same sites =
      ap (or_empty sites)
      (sym (replay-same sites (stored_in long_form long) (stored_in form s) n
      (chained-stored (stored_in form s) n (stored-whole form s n fits))))

  pub long-walked : start_of long_form long n ≡ length long
  long-walked = chained-starts (stored_in form s) n (stored-whole form s n fits) n (omega arith)

pub old-as-long :
    (u : Tables) (file : List ℕ) → (located file).trailer.answer ≡ 0 →
    (ahead : List ℕ) → length ahead + length (long_block file) ≤ file_limit →
    reading_of u (ahead ++ long_block file) ≡ reading_of u file
unfolding reading_of long_block
old-as-long u file accepted ahead room =
    let l = located file in
    let f = l.trailer in
    let x = accepted-at file accepted in
    let fits : start_of f.form l.stretch f.records ≤ length l.stretch = omega (arith, x.walked) in
    let at = records-located (long f.form l.stretch f.records fits) f.records f.sites
    (long-walked f.form l.stretch f.records fits) x.few-records x.right-sites ahead room in
    rw (at, accepted)
    (ap (λ (r : Replayed). cond (lengths_right u.records u.objects u.groups) r (replayed 8 0 u))
    (sym (read-the-same f.form l.stretch f.records fits f.sites)))
