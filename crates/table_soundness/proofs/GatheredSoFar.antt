-- What one pass over the records has gathered from the first i of them, with room for one record more. Assumes nothing.
use mathlib.Core.Path.{◌≡◌, refl}
use mathlib.Core.Bool.{true, cond}
use mathlib.Core.List.{List}
use Prim.Native.Nat.{ℕ, suc, ◌+◌, ◌≤◌, ◌<◌}
use native.Mathlib.Omega.{arith}
use native.Mathlib.Numerals.{add-one}
use lib.ListN.{length, length-set, set, replicate}
use Rattle.math_lists.specs.NumbersBelow.{all, sum}
use Rattle.math_lists.proofs.Booleans.{and-on}
use Rattle.edit_record.specs.Layout.{most_sites, most_members}
use Rattle.edit_record.specs.Answer1.{is_create}
use Rattle.edit_history.specs.EditsHeld.{record_at, edits_of, creates, most_records}
use Rattle.edit_sum.specs.WordSum.{sum_held}
use Rattle.edit_sum.proofs.SumOfRecords.{passing-fit}
use Rattle.edit_walk.specs.WalkForms.{Walking, GoesOn}
use Rattle.edit_walk.proofs.WalkKeeps.{pass-more}
use Rattle.table_soundness.specs.Sound.{rest_zero}
use Rattle.table_soundness.specs.SoundnessForms.{Targeted, CreatesBefore, Tallying}
use Rattle.table_soundness.proofs.SetTallies.{tallied-still}
use Rattle.table_soundness.proofs.SoundTests.{targeted}
use Rattle.table_soundness.proofs.CountingPasses.{creates-none, creates-more, numbered_more, aimed-none}

pub record Gathering (rs : List ℕ) (i : ℕ) (ps : List ℕ) (total many : ℕ) (ns ts : List ℕ) : Type 0 where
  pub rests : all i (rest_zero rs) ≡ true
  pub sum : total ≡ sum_held i rs
  pub made : many ≡ length (creates (edits_of rs i))
  pub long : length ns ≡ most_records
  pub numbered : CreatesBefore rs i ns
  pub aimed : Tallying rs i ps ts

pub gathering-starts :
    (rs ps ns : List ℕ) → length ns ≡ most_records → Gathering rs 0 ps 0 0 ns (replicate most_records 0)
unfolding all sum sum_held
gathering-starts rs ps ns long =
    record {
      rests = refl;
      sum = refl;
      made = creates-none rs;
      long = long;
      numbered = λ p l. absurd (omega arith);
      aimed = aimed-none rs ps;
    }

-- ---- a record that the walk goes on with

module _
    {sites : ℕ}
    {room : ℕ → ℕ}
    {rs : List ℕ}
    {i : ℕ}
    {held ps : List ℕ}
    (few : sites ≤ most_sites)
    (w : Walking sites room rs i held ps)
    (goes : GoesOn sites room rs i held ps) where
  -- it lists no more than it may
  pub next_fits : (record_at rs i).count ≤ most_members
  next_fits = passing-fit sites rs (suc i) (pass-more few w goes.0) i (omega arith)

  pub next-targeted : Targeted rs (i + 1)
  next-targeted = rw add-one (targeted sites rs (suc i) (pass-more few w goes.0))

  -- and the walk's next index serves for what is gathered with it
  pub gathering-more :
      {total many : ℕ} {ns ts : List ℕ} → Gathering rs i ps total many ns ts → i < most_records →
      rest_zero rs i ≡ true → {more : ℕ} → more ≡ sum_held (i + 1) rs → {ts' : List ℕ} → Tallying rs (i + 1) ps ts' →
      {held' ps' : List ℕ} → Walking sites room rs (i + 1) held' ps' →
      Gathering rs (i + 1) ps' more (many + cond (is_create (record_at rs i)) 1 0) (set ns i many) ts'
  unfolding all
  gathering-more {total} {many} {ns} {ts} g low rest {more} added {ts'} aimed {held'} {ps'} on =
      record {
        rests = rw add-one (and-on (all i (rest_zero rs)) (rest_zero rs i) g.rests rest);
        sum = added;
        made = rw g.made (creates-more rs i);
        long = simp length-set g.long;
        numbered = numbered_more rs ns i many g.numbered g.made (omega (arith, g.long));
        aimed =
            tallied-still rs ps ps' ts' i next-targeted w.indexed (λ p l. on.indexed p (omega arith)) aimed;
      }
