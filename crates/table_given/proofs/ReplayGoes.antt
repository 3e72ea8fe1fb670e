-- A replay as it goes: while no record is refused the tables are the replay's, sound and of the stated lengths; the
-- next record is taken, or refused, and then the replay ends there. Assumes nothing.
use mathlib.Core.Path.{◌≡◌, sym, ap, subst, ◌∙◌}
use mathlib.Core.Logic.{inl, inr}
use mathlib.Core.Bool.{Bool, true, cond}
use mathlib.Core.List.{List}
use Prim.Native.Nat.{ℕ, zero, suc, ◌<◌}
use native.Mathlib.Omega.{arith}
use lib.ListN.{length, replicate}
use lib.Dec.{eqb, leb}
use borrow.Author.Tests.{leb-true, ne_eqb}
use Rattle.math_lists.proofs.Booleans.{both}
use Rattle.math_lists.proofs.LastBelow.{last}
use Rattle.edit_record.specs.Layout.{most_sites}
use Rattle.table_drawing.specs.Tables.{Tables, empty_drawing, records_length, objects_length, groups_length, lengths_right}
use Rattle.table_drawing.specs.Tables.{tables_of, sites_right}
use Rattle.table_drawing.specs.AnswerNumbers.{Outcome, outcome_of}
use Rattle.table_soundness.specs.Sound.{sound}
use Rattle.table_drawing.specs.Opening.{opening_of}
use Rattle.table_soundness.proofs.SoundFacts.{sound-on}
use Rattle.table_index.specs.IndexForms.{counters_of}
use Rattle.table_arrival.specs.Arrival.{acceptance_of}
use Rattle.table_arrival.proofs.Faithful.{Faithful, acceptance-faithful}
use Rattle.table_given.specs.Replay.{Replayed, replayed, replay_of}
use Rattle.table_given.proofs.ReplayFaithful.{replay-faithful}

-- no record below i is refused, and they give t
abbrev pub Going : ℕ → (ℕ → List ℕ) → ℕ → Tables → Type 0
Going sites rs i t = replayed 0 0 t ≡ replay_of sites rs i

-- t has the stated lengths
abbrev pub RightlyLong : Tables → Type 0
RightlyLong t =
    (length t.records ≡ records_length)
    × (length t.objects ≡ objects_length)
    × (length t.groups ≡ groups_length)

-- ---- the start

pub opened :
    (t t' : Tables) (a sites : ℕ) → lengths_right t.records t.objects t.groups ≡ true → sites_right sites ≡
    true →
    outcome_of a t' ≡ opening_of t sites → t' ≡ empty_drawing sites
unfolding opening_of
opened t t' a sites l s h = ap (λ (o : Outcome). o.after) (rw (l, s) at h)

-- with counters that are known by their parts
pub opened-parts :
    (t : Tables) (sites : ℕ) → t ≡ empty_drawing sites →
    tables_of (counters_of sites 0 0 (replicate most_sites 0) 0) t.records t.objects t.groups
    ≡ empty_drawing sites
unfolding empty_drawing
opened-parts t sites h =
    ap (λ (x : Tables). tables_of (counters_of sites 0 0 (replicate most_sites 0) 0) x.records x.objects x.groups)
    h

pub going_start : (sites : ℕ) (rs : ℕ → List ℕ) (t : Tables) → t ≡ empty_drawing sites → Going sites rs 0 t
unfolding replay_of
going_start sites rs t h = ap (replayed 0 0) h

-- ---- on the way

module _ (sites : ℕ) (rs : ℕ → List ℕ) (right : sites_right sites ≡ true) (i : ℕ) (t : Tables)
    (g : Going sites rs i t) where
  pub going-faithful : Faithful t
  going-faithful =
      let (some, few) = both (leb 1 sites) (leb sites most_sites) right in
      subst Faithful (sym (ap (λ (r : Replayed). r.after) g))
      (replay-faithful sites (leb-true 1 sites some) (leb-true sites most_sites few) rs i)

  pub going-sound : sound t ≡ true
  going-sound = sound-on t going-faithful.kept.is_sound

  pub going-long : RightlyLong t
  going-long =
      let s = going-faithful.kept.is_sound in
      (s.records-long, s.objects-long, s.groups-long)

  -- the lengths stay, whatever the next record is answered
  pub next-long : (a : ℕ) (t' : Tables) → outcome_of a t' ≡ acceptance_of t (rs i) → RightlyLong t'
  next-long a t' h =
      let f : Faithful t'
      = subst Faithful (sym (ap (λ (o : Outcome). o.after) h)) (acceptance-faithful t (rs i) going-faithful) in
      let s = f.kept.is_sound in
      (s.records-long, s.objects-long, s.groups-long)

  next-is : (a : ℕ) (t' : Tables) → outcome_of a t' ≡ acceptance_of t (rs i) →
      replayed a (cond (eqb a 0) 0 i) t' ≡ replay_of sites rs (suc i)
  unfolding replay_of
  next-is a t' h = rw (← g) (ap (λ (o : Outcome). replayed o.answer (cond (eqb o.answer 0) 0 i) o.after) h)

  pub going_on : (t' : Tables) → outcome_of 0 t' ≡ acceptance_of t (rs i) → Going sites rs (suc i) t'
  going_on t' h = next-is 0 t' h

  -- a refused record ends it
  pub going-ends :
      (a : ℕ) (t' : Tables) → outcome_of a t' ≡ acceptance_of t (rs i) → (a ≡ 0 → ⊥) → (n : ℕ) → i < n →
      replayed a i t' ≡ replay_of sites rs n
  going-ends a t' h d zero l = absurd (omega arith)
  going-ends a t' h d (suc n) l =
      elim (last l) [
        | inr e ↦
            (let here : replayed a i t' ≡ replay_of sites rs (suc i)
            = ap (λ (x : Bool). replayed a (cond x 0 i) t') (sym (ne_eqb a 0 d)) ∙ next-is a t' h in
            here ∙ ap (λ (k : ℕ). replay_of sites rs (suc k)) e)
        | inl m ↦ stays n (going-ends a t' h d n m)
      ]
    where
      stays : (n : ℕ) → replayed a i t' ≡ replay_of sites rs n → replayed a i t' ≡ replay_of sites rs (suc n)
      stays n q = unfold replay_of in rw (← q, ne_eqb a 0 d)
