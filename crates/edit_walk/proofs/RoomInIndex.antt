-- Room in the index for the edits of each site: two edits have two slots, none of which is a start, so that putting a
-- place into one leaves the others as they are. The starts that count the edits leave room for them. Assumes nothing.
use mathlib.Core.Path.{◌≡◌, ap, ◌∙◌}
use mathlib.Core.Logic.{inl, inr}
use mathlib.Core.Bool.{Bool, true, false, cond}
use mathlib.Core.List.{List, [], ◌∷◌}
use Prim.Native.Nat.{ℕ, suc, ◌+◌, ◌≤◌, ◌<◌}
use native.Mathlib.Omega.{arith}
use native.Mathlib.Decide.{dec_lt}
use lib.Dec.{eqb, ltb}
use lib.ListN.{length, get_or, set}
use lib.Seq.{get_or-set_same, get_or-set_other}
use Rattle.math_lists.specs.NumbersBelow.{sum}
use Rattle.math_lists.specs.SortedLists.{filter}
use Rattle.math_lists.proofs.LastBelow.{last}
use Rattle.math_lists.proofs.NumbersBelow.{sum_same, sum_below, sum_past, sum-one-more}
use Rattle.edit_record.specs.declared.Edit.{Edit}
use Rattle.edit_record.specs.Layout.{most_sites}
use Rattle.edit_history.specs.EditsHeld.{most_records, count_from}
use Rattle.edit_history.specs.SurveyForms.{Counted}
use Rattle.edit_history.proofs.EditsHeld.{count-grows}
use Rattle.edit_walk.specs.WalkForms.{places_length, slot_of, place_of, SameStarts, count_in, Spaced}

-- ---- room that stays

-- room for fewer
pub spaced-less :
    (room less : ℕ → ℕ) (ps : List ℕ) → ((s : ℕ) → s < most_sites → less s ≤ room s) → Spaced room ps → Spaced less ps
spaced-less room less ps h x =
    record {
      entries = x.entries;
      behind = x.behind;
      apart = λ s t l m. omega (arith, x.apart s t l m, h s (omega arith));
      within = λ s l. omega (arith, x.within s l, h s l);
    }

pub spaced-before :
    (rs ps : List ℕ) (i n : ℕ) → i ≤ n → Spaced (count_in rs n) ps → Spaced (count_in rs i) ps
spaced-before rs ps i n l x = spaced-less (count_in rs n) (count_in rs i) ps (λ s m. count-grows s rs i n l) x

pub spaced-same :
    (room : ℕ → ℕ) (ps ps' : List ℕ) → SameStarts ps ps' → length ps' ≡ places_length → Spaced room ps → Spaced room ps'
spaced-same room ps ps' same long x =
    record {
      entries = long;
      behind = λ t l. rw (same t l) (x.behind t l);
      apart = λ t u l m. rw (same t (omega arith), same u m) (x.apart t u l m);
      within = λ t l. rw (same t l) (x.within t l);
    }

-- ---- a place put into its slot

module _ {room : ℕ → ℕ} {ps : List ℕ} (x : Spaced room ps) where
  module _ (s q v : ℕ) (low : s < most_sites) (fits : q ≤ room s) where
    pub slot-within : slot_of ps s q < places_length
    slot-within = omega (arith, x.within s low)

    -- the starts stay
    pub starts-stay : SameStarts ps (set ps (slot_of ps s q) v)
    starts-stay t l = get_or-set_other ps (slot_of ps s q) t v 0 (λ e. omega (arith, x.behind s low))

    pub put-here : place_of (set ps (slot_of ps s q) v) s q ≡ v
    put-here =
        rw (starts-stay s low) (get_or-set_same ps (slot_of ps s q) v 0 (omega (arith, slot-within, x.entries)))

    -- what another edit has stays
    pub put-elsewhere :
        (t k : ℕ) → t < most_sites → 0 < q → 0 < k → k ≤ room t → (t ≡ s → k ≡ q → ⊥) →
        place_of (set ps (slot_of ps s q) v) t k ≡ place_of ps t k
    put-elsewhere t k l oneq onek m d =
        rw (starts-stay t l)
        (get_or-set_other ps (slot_of ps s q) (slot_of ps t k) v 0 (apart (dec_lt s t) (dec_lt t s)))
      where
        apart : Dec (s < t) → Dec (t < s) → slot_of ps t k ≡ slot_of ps s q → ⊥
        apart (yes a) w e = omega (arith, x.apart s t a l)
        apart (no a) (yes b) e = omega (arith, x.apart t s b low)
        apart (no a) (no b) e =
            let same : t ≡ s = omega arith in
            let start : get_or ps t 0 ≡ get_or ps s 0 = ap (λ (u : ℕ). get_or ps u 0) same in
            d same (omega arith)

-- ---- the starts that count

-- each edit is counted for one site at most
pub counts-few : (es : List Edit) (k : ℕ) → sum k (λ s. count_from s es) ≤ length es
unfolding count_from filter
counts-few [] k = omega (arith, sum_below k 0 (λ s. count_from s []) (λ s l. omega arith))
counts-few (e ∷ es) k =
    rw (sum_same k (λ s. count_from s (e ∷ es)) (λ s. count_from s es + cond (eqb t s) 1 0) (λ s l. first s (eqb t s)))
    (rw (sum-one-more k t (λ s. count_from s es)) (go (ltb t k) (counts-few es k)))
  where
    t : ℕ
    t = e.site.0

    first : (s : ℕ) (b : Bool) →
        length (cond b (e ∷ filter (λ a. eqb a.site.0 s) es) (filter (λ a. eqb a.site.0 s) es))
        ≡ count_from s es + cond b 1 0
    first s true = omega arith
    first s false = omega arith

    go : (b : Bool) → sum k (λ s. count_from s es) ≤ length es →
        sum k (λ s. count_from s es) + cond b 1 0 ≤ suc (length es)
    go true h = omega arith
    go false h = omega arith

-- so counts that are the edits' are no more in all than the edits
pub counted-in-all :
    (counts : List ℕ) (es : List Edit) → Counted counts es → sum most_sites (λ s. get_or counts s 0) ≤ length es
counted-in-all counts es counted =
    rw (sum_same most_sites (λ s. get_or counts s 0) (λ s. count_from s es) counted) (counts-few es most_sites)

-- the sites below k have their starts
abbrev pub Started : (ℕ → ℕ) → List ℕ → ℕ → Type 0
Started room ps k = (s : ℕ) → s < k → get_or ps s 0 ≡ most_sites + sum s room

module _ (room : ℕ → ℕ) (ps : List ℕ) where
  pub started-more :
      (k at : ℕ) → k < length ps → at ≡ most_sites + sum k room → Started room ps k → Started room (set ps k at) (suc k)
  started-more k at low is starts s l =
      elim (last l) [
        | inl m ↦ get_or-set_other ps k s at 0 (λ e. absurd (omega arith)) ∙ starts s m
        | inr e ↦ rw e (get_or-set_same ps k at 0 low ∙ is)
      ]

  pub starts-spaced :
      sum most_sites room ≤ most_records → length ps ≡ places_length → Started room ps most_sites → Spaced room ps
  starts-spaced few long starts =
      record {
        entries = long;
        behind = λ s l. omega (arith, starts s l);
        apart = λ s t l m. omega (arith, starts s (omega arith), starts t m, sum_past s t room l);
        within = λ s l. omega (arith, starts s l, sum_past s most_sites room l);
      }
