-- What the walk keeps: the records walked over pass, and the counts and the index are theirs. One record more is
-- decided by them, and they stay true. Assumes no more sites than entries, and room in the index for the record.
use mathlib.Core.Path.{◌≡◌, refl, sym, ◌∙◌}
use mathlib.Core.Logic.{◌⊎◌, inl, inr}
use mathlib.Core.Bool.{true, false}
use mathlib.Core.List.{List}
use Prim.Native.Nat.{ℕ, suc, ◌+◌, ◌≤◌, ◌<◌}
use native.Mathlib.Omega.{arith}
use native.Mathlib.Decide.{ℕ_discrete}
use lib.ListN.{get_or, set, replicate, length-set}
use lib.Seq.{get_or-set_same, get_or-set_other}
use Rattle.math_lists.specs.NumbersBelow.{all}
use Rattle.math_lists.proofs.Booleans.{clash, and-on}
use Rattle.math_lists.proofs.LastBelow.{last}
use Rattle.math_lists.proofs.NumbersBelow.{all-at, sum_past}
use Rattle.edit_record.specs.Layout.{most_sites}
use Rattle.edit_history.specs.EditsHeld.{record_at, edits_of}
use Rattle.edit_history.specs.Answers2to5.{passes, records_pass}
use Rattle.edit_history.specs.SurveyForms.{bump, Counted}
use Rattle.edit_walk.specs.WalkForms.{places_length, slot_of, place_of, Indexed, SameStarts, count_in, Spaced}
use Rattle.edit_walk.specs.WalkForms.{passes_against, Roomy, Walking}
use Rattle.edit_history.proofs.EditsHeld.{edits-length, count-grows}
use Rattle.edit_history.proofs.ByCounts.{counted_none, counted-few, counted-more}
use Rattle.edit_history.proofs.RecordsPassed.{formed-at, seq-held, seq-later}
use Rattle.edit_walk.proofs.NewsDecide.{news-decide}
use Rattle.edit_walk.proofs.RoomInIndex.{spaced-same, slot-within, starts-stay, put-here, put-elsewhere}
use Rattle.edit_walk.proofs.RoomInIndex.{counts-few}

no-edits : (rs : List ℕ) (s : ℕ) → count_in rs 0 s ≤ 0
no-edits rs s =
    omega (
      arith,
      counts-few (edits_of rs 0) (suc s),
      sum_past s (suc s) (count_in rs 0) (omega arith),
      edits-length rs 0,
    )

pub walking-starts :
    (sites : ℕ) (room : ℕ → ℕ) (rs ps : List ℕ) → Spaced room ps →
    Walking sites room rs 0 (replicate most_sites 0) ps
unfolding records_pass all
walking-starts sites room rs ps spaced =
    record {
      pass = refl;
      wide = refl;
      spaced = spaced;
      fits = λ s l. omega (arith, no-edits rs s);
      counted = unfold edits_of in counted_none;
      indexed = λ p l. absurd (omega arith);
    }

-- ---- one record more in the index

module _
    (sites : ℕ)
    (few : sites ≤ most_sites)
    (rs : List ℕ)
    (n : ℕ)
    (pass : records_pass sites rs (suc n) ≡ true)
    (room : ℕ → ℕ)
    (fits : (s : ℕ) → s < most_sites → count_in rs (suc n) s ≤ room s)
    (ps : List ℕ)
    (spaced : Spaced room ps) where
  site-low : (p : ℕ) → p < suc n → (record_at rs p).site.0 < most_sites
  site-low p l = omega (arith, (formed-at sites rs (suc n) pass p l).site)

  seq-fits : (p : ℕ) → p < suc n → (record_at rs p).seq.0 ≤ room (record_at rs p).site.0
  seq-fits p l =
      omega (
        arith,
        seq-held sites rs (suc n) pass p (suc n) l (omega arith),
        fits (record_at rs p).site.0 (site-low p l),
      )

  abbrev slot : ℕ
  slot = slot_of ps (record_at rs n).site.0 (record_at rs n).seq.0

  here : n < suc n
  here = omega arith

  -- the slot of the record's edit is one of the index's
  pub slot-low : slot < places_length
  slot-low = slot-within spaced (record_at rs n).site.0 (record_at rs n).seq.0 n (site-low n here) (seq-fits n here)

  pub starts-same : SameStarts ps (set ps slot n)
  starts-same =
      starts-stay spaced (record_at rs n).site.0 (record_at rs n).seq.0 n (site-low n here) (seq-fits n here)

  spaced-more : Spaced room (set ps slot n)
  spaced-more = spaced-same room ps (set ps slot n) starts-same (simp length-set spaced.entries) spaced

  pub indexed-more : Indexed rs n ps → Indexed rs (suc n) (set ps slot n)
  indexed-more indexed p l = go (last l)
    where
      s : ℕ
      s = (record_at rs n).site.0

      q : ℕ
      q = (record_at rs n).seq.0

      go : (p < n) ⊎ (p ≡ n) → place_of (set ps slot n) (record_at rs p).site.0 (record_at rs p).seq.0 ≡ p
      go (inl m) =
          put-elsewhere spaced s q n (site-low n here) (seq-fits n here) (record_at rs p).site.0
          (record_at rs p).seq.0 (site-low p l) (formed-at sites rs (suc n) pass n here).seq
          (formed-at sites rs (suc n) pass p l).seq (seq-fits p l)
          (λ e k. omega (arith, seq-later sites rs (suc n) pass p n m here e))
          ∙ indexed p m
      go (inr e) = rw e (put-here spaced s q n (site-low n here) (seq-fits n here))

-- ---- one record more

module _
    {sites : ℕ}
    {room : ℕ → ℕ}
    {rs : List ℕ}
    {n : ℕ}
    {held ps : List ℕ}
    (few : sites ≤ most_sites)
    (w : Walking sites room rs n held ps) where
  abbrev own : ℕ
  own = (record_at rs n).site.0

  -- the counts and the index decide about the next record
  decided : passes_against sites held rs ps (record_at rs n) ≡ passes sites (edits_of rs n) (record_at rs n)
  decided =
      news-decide sites few rs n w.pass ps w.indexed held w.wide w.counted (record_at rs n)

  -- records of which this one does not pass do not pass
  pub refused :
      (m : ℕ) → n < m → passes_against sites held rs ps (record_at rs n) ≡ false → records_pass sites rs m ≡ true → ⊥
  unfolding records_pass
  refused m l h y = clash (all-at m (λ p. passes sites (edits_of rs p) (record_at rs p)) y n l) (sym decided ∙ h)

  -- no count is above the number of records
  pub held-few : (s : ℕ) → get_or held s 0 ≤ n
  held-few s = omega (arith, counted-few held (edits_of rs n) w.wide w.counted s, edits-length rs n)

  counted_next : Counted (bump held (record_at rs n).site) (edits_of rs (suc n))
  counted_next = unfold edits_of in counted-more held (edits_of rs n) w.wide w.counted (record_at rs n)

  module _ (next : passes_against sites held rs ps (record_at rs n) ≡ true) where
    pub pass-more : records_pass sites rs (suc n) ≡ true
    unfolding records_pass all
    pass-more =
        and-on (records_pass sites rs n) (passes sites (edits_of rs n) (record_at rs n)) w.pass (sym decided ∙ next)

    pub own-low : own < most_sites
    own-low = omega (arith, (formed-at sites rs (suc n) pass-more n (omega arith)).site)

    one_more_lem : count_in rs (suc n) own ≡ get_or held own 0 + 1
    one_more_lem =
        sym (counted_next own own-low)
        ∙ get_or-set_same held own (get_or held own 0 + 1) 0 (omega (arith, w.wide, own-low))

    -- where there is no room for it there is none for all records
    pub crowded : (m : ℕ) → n < m → room own ≤ get_or held own 0 → Roomy room rs m → ⊥
    crowded m l none roomy = omega (arith, roomy own own-low, one_more_lem, count-grows own rs (suc n) m l)

    module _ (free : get_or held own 0 < room own) where
      fits_more : Roomy room rs (suc n)
      fits_more s l = elim (ℕ_discrete s own) [
        | yes y ↦ rw y (omega (arith, one_more_lem))
        | no d ↦
            omega (
              arith,
              counted_next s l,
              get_or-set_other held own s (get_or held own 0 + 1) 0 d,
              w.counted s l,
              w.fits s l,
            )
      ]

      pub slot-more : slot_of ps own (record_at rs n).seq.0 < places_length
      slot-more = slot-low sites few rs n pass-more room fits_more ps w.spaced

      pub walking-more :
          Walking sites room rs (suc n) (bump held (record_at rs n).site)
          (set ps (slot_of ps own (record_at rs n).seq.0) n)
      walking-more =
          record {
            pass = pass-more;
            wide = simp length-set w.wide;
            spaced = spaced-more sites few rs n pass-more room fits_more ps w.spaced;
            fits = fits_more;
            counted = counted_next;
            indexed = indexed-more sites few rs n pass-more room fits_more ps w.spaced w.indexed;
          }
