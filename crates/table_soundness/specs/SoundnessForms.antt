-- What the test of soundness gathers from the records rs: where each edit stands, how many Creates stand before each
-- record, and how many Sets there are on it. Then soundness but for 16. No one need believe it: laws in proofs/ tie it
-- to `Sound`. Assumes nothing.
use Rattle.std.specs.Prelude.{◌≡◌, Bool, true, ◌&&◌, Option, MatchOption, List, ℕ, ◌*◌, ◌<◌, eqb, get_or, length}
use Rattle.math_lists.specs.NumbersBelow.{all}
use Rattle.math_lists.specs.SortedLists.{filter}
use Rattle.edit_record.specs.declared.Edit.{Edit}
use Rattle.edit_record.specs.Layout.{place_length}
use Rattle.edit_record.specs.Answer1.{is_create, is_set}
use Rattle.edit_history.specs.EditsHeld.{record_at, edits_of, creates, sets_on, most_records}
use Rattle.edit_history.specs.Answers2to5.{records_pass}
use Rattle.edit_history.specs.SurveyForms.{Counted}
use Rattle.edit_sum.specs.WordSum.{sum_held}
use Rattle.edit_walk.specs.WalkForms.{place_of, Indexed, Roomy}
use Rattle.group_step.specs.GroupRows.{most_groups}
use Rattle.table_drawing.specs.Tables.{Tables, entry_length, lengths_right}
use Rattle.table_soundness.specs.Sound.{within_limits, counts_agree, object_sound, zero_from, rest_zero}
use Rattle.table_soundness.specs.declared.Tally.{Tally}

-- ---- all of `sound` but its last part, 16

unfoldable pub sound_but_named : Tables → Bool
sound_but_named t =
    let c = t.counters in
    lengths_right t.records t.objects t.groups
    && within_limits c
    && counts_agree c t.records
    && records_pass c.sites t.records c.records
    && all c.objects (object_sound t.records c.records t.objects t.groups)
    && zero_from t.records (c.records * place_length)
    && zero_from t.objects (c.objects * entry_length)
    && zero_from t.groups (c.objects * most_groups)
    && all c.records (rest_zero t.records)

-- ---- what is known of the targets

-- each Set among the first n records has its Create before it
abbrev pub Targeted : List ℕ → ℕ → Type 0
Targeted rs n =
    (p : ℕ) →
    p < n →
    is_set (record_at rs p) ≡ true →
    (q : ℕ)
    × (q < p)
    × (is_create (record_at rs q) ≡ true)
    × ((record_at rs q).site.0 ≡ (record_at rs p).tsite.0)
    × ((record_at rs q).seq.0 ≡ (record_at rs p).tseq.0)

-- ---- what is counted

-- ns has how many Creates stand before each of the first n records
abbrev pub CreatesBefore : List ℕ → ℕ → List ℕ → Type 0
CreatesBefore rs n ns = (p : ℕ) → p < n → get_or ns p 0 ≡ length (creates (edits_of rs p))

-- ts has how many Sets there are on each of the first n records
abbrev pub Tallied : List ℕ → ℕ → List ℕ → Type 0
Tallied rs n ts =
    (p : ℕ) → p < n → get_or ts p 0 ≡ length (sets_on (record_at rs p).site (record_at rs p).seq (edits_of rs n))

-- e is a Set, and the index ps has its target in place p
abbrev pub aims_at : List ℕ → ℕ → Edit → Bool
aims_at ps p e = is_set e && eqb (place_of ps e.tsite.0 e.tseq.0) p

-- ts has how many of the first n records are Sets that the index ps has aimed at each place
abbrev pub Tallying : List ℕ → ℕ → List ℕ → List ℕ → Type 0
Tallying rs n ps ts =
    (length ts ≡ most_records)
    × ((p : ℕ) → p < most_records → get_or ts p 0 ≡ length (filter (aims_at ps p) (edits_of rs n)))

-- ---- the pass over the first n records

-- not all of the first n records pass 1 to 5, have room for so many edits of each site and places that are zero past
-- them
abbrev pub WrongAmong : ℕ → (ℕ → ℕ) → List ℕ → ℕ → Type 0
WrongAmong sites room rs n = records_pass sites rs n ≡ true → Roomy room rs n → all n (rest_zero rs) ≡ true → ⊥

-- not all records past the first n pass 1 to 5, have room for so many edits of each site and places that are zero past
-- them
abbrev pub WrongPast : ℕ → (ℕ → ℕ) → List ℕ → ℕ → Type 0
WrongPast sites room rs n =
    (m : ℕ) → n < m → WrongAmong sites room rs m

-- g is gathered from records that pass 1 to 5 and whose places are zero past them, with the numbers ns and the tallies
-- ts
pub record GatheredFrom (sites : ℕ) (rs : List ℕ) (n : ℕ) (g : Tally) (ns ts : List ℕ) : Type 0 where
  pub pass : records_pass sites rs n ≡ true
  pub rests : all n (rest_zero rs) ≡ true
  pub counted : Counted g.held (edits_of rs n)
  pub sum : g.sum ≡ sum_held n rs
  pub made : g.creates ≡ length (creates (edits_of rs n))
  pub numbered : CreatesBefore rs n ns
  pub tallied : Tallied rs n ts

-- r is what the pass over the first n records gives, with the index ps: none where one of them is wrong
abbrev pub GatheredOver : ℕ → (ℕ → ℕ) → List ℕ → ℕ → Option Tally → List ℕ → List ℕ → List ℕ → Type 0
GatheredOver sites room rs n r ps ns ts =
    MatchOption r (WrongAmong sites room rs n) (λ g. GatheredFrom sites rs n g ns ts × Indexed rs n ps)

-- ---- what is known of tables once their limits are tested and their records passed over

pub record PassedOver (t : Tables) (g : Tally) (ns ts : List ℕ) : Type 0 where
  pub lengths : lengths_right t.records t.objects t.groups ≡ true
  pub limits : within_limits t.counters ≡ true
  pub gathered : GatheredFrom t.counters.sites t.records t.counters.records g ns ts
