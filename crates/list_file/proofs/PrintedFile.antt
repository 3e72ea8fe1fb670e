-- What is printed of a file, by what reading it gave; and bytes put at the front of an output. Assumes nothing.
use mathlib.Core.Path.{◌≡◌, sym, ap, ◌∙◌}
use mathlib.Core.Bool.{true}
use mathlib.Core.List.{List}
use Prim.Native.Nat.{ℕ, ◌+◌, ◌≤◌}
use native.Mathlib.Omega.{arith}
use lib.ListN.{length, take, drop}
use lib.Seq.{take_at}
use borrow.Author.Tests.{ne_eqb}
use Rattle.table_drawing.specs.Tables.{Tables, empty_drawing}
use Rattle.table_soundness.specs.Sound.{sound}
use Rattle.table_given.specs.Replay.{Replayed, replayed}
use Rattle.block_store.specs.Reading.{reading_of}
use Rattle.block_store.proofs.RoundTrips.{accepted-sound}
use Rattle.list_text.specs.HeadAndRefusal.{refusal_line}
use Rattle.list_print.specs.Printing.{list_of}
use Rattle.list_print.specs.PrintForms.{Behind}
use Rattle.list_file.specs.PrintedFile.{printed_of}

module _ (file : List ℕ) (a i : ℕ) (t : Tables) (h : replayed a i t ≡ reading_of (empty_drawing 0) file) where
  pub refusal-printed : (a ≡ 0 → ⊥) → refusal_line a ≡ printed_of file
  unfolding printed_of
  refusal-printed d = rw (← h, ne_eqb a 0 d)

  pub list-printed : a ≡ 0 → list_of t ≡ printed_of file
  unfolding printed_of
  list-printed z = rw (← h, z)

  pub tables-sound : a ≡ 0 → sound t ≡ true
  tables-sound z =
      rw (ap (λ (r : Replayed). r.after) h)
      (accepted-sound (empty_drawing 0) file (sym (ap (λ (r : Replayed). r.answer) h) ∙ z))

-- bytes put behind none where the most of them have room are those in front
pub in-front :
    {before b after : List ℕ} {k r : ℕ} → k ≤ length before → Behind before 0 b k after r →
    (take r after ≡ b) × (r ≤ k)
in-front {before} {b} room f =
    let end = 0 + length b in
    let put = f.put (omega (arith, room, f.few)) in
    (rw (put, f.end) (take_at b (drop end before) end (omega arith)), omega (arith, f.end, f.few))
