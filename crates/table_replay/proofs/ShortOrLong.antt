-- A record that went the short way, or that this left to the long way: either way it is taken or refused at the tables
-- where the replay stood. Assumes nothing.
use mathlib.Core.Path.{◌≡◌, refl, sym, ap, ap₂, subst, ◌∙◌}
use mathlib.Core.Bool.{true, false}
use mathlib.Core.List.{List, [], ◌∷◌, ◌++◌}
use Prim.Native.Nat.{ℕ, ◌+◌}
use native.Mathlib.Numerals.{add-one}
use Rattle.edit_record.specs.declared.Edit.{Edit}
use Rattle.edit_record.specs.RecordBytes.{decode_of}
use Rattle.table_drawing.specs.Tables.{Tables, tables_of, sites_right}
use Rattle.table_drawing.specs.AnswerNumbers.{outcome_of}
use Rattle.table_index.specs.IndexForms.{counters_of}
use Rattle.table_arrival.specs.Arrival.{acceptance_of}
use Rattle.table_arrival.proofs.Admitted.{was-taken, taken-records}
use Rattle.table_kept.specs.BoxForms.{KeptFor}
use Rattle.table_plain.specs.TakingForms.{Takes, Leaves, LeavesShort}
use Rattle.table_given.specs.Replay.{edits_in}
use Rattle.table_given.proofs.ReplayGoes.{Going, going_on}

module _
    (sites i : ℕ)
    {t : Tables}
    {b ps ns cs hs : List ℕ}
    {m sum : ℕ}
    {held rs os gs ps' ns' cs' hs' : List ℕ}
    (l : LeavesShort t b false (tables_of (counters_of sites i m held sum) rs os gs) ps ns cs hs ps' ns' cs' hs') where
  -- the tables that the long way is given
  abbrev kept : Tables
  kept = tables_of (counters_of sites i m held sum) rs os gs

  pub short-kept : kept ≡ t
  short-kept = l.tables refl

  pub long-takes : (b' : List ℕ) → Takes t ps ns cs hs b' → Takes kept ps' ns' cs' hs' b'
  long-takes b' x =
      let (p, n, c, h) = l.index refl in
      rw (p, n, c, h) (subst (λ (u : Tables). Takes u ps ns cs hs b') (sym short-kept) x)

  pub long-leaves :
      (b' : List ℕ) (a : ℕ) (u : Tables) (ps'' ns'' cs'' hs'' : List ℕ) →
      Leaves kept b' a u ps' ps'' ns'' cs'' hs'' → Leaves t b' a u ps ps'' ns'' cs'' hs''
  long-leaves b' a u ps'' ns'' cs'' hs'' x =
      let (p, _, _, _) = l.index refl in
      subst (λ (q : List ℕ). Leaves t b' a u q ps'' ns'' cs'' hs'') p
      (subst (λ (v : Tables). Leaves v b' a u ps' ps'' ns'' cs'' hs'') short-kept x)

-- ---- the next round

pub going_next :
    (sites : ℕ) (rs : ℕ → List ℕ) → sites_right sites ≡ true → (i : ℕ) (t : Tables) → Going sites rs i t → (u : Tables) →
    outcome_of 0 u ≡ acceptance_of t (rs i) → Going sites rs (i + 1) u
going_next sites rs right i t g u ok =
    subst (λ (k : ℕ). Going sites rs k u) (sym (add-one i)) (going_on sites rs right i t g u ok)

-- the counters after a record that was taken, by their parts
pub parts-after :
    (t u : Tables) (b : List ℕ) → outcome_of 0 u ≡ acceptance_of t b →
    u
    ≡ tables_of
    (counters_of t.counters.sites (t.counters.records + 1) u.counters.objects u.counters.held
    u.counters.sum)
    u.records u.objects u.groups
parts-after t u b ok =
    let is = (was-taken t u b ok).1 in
    let (_, count, sites-are) = taken-records t b in
    ap₂ (λ (s k : ℕ). tables_of (counters_of s k u.counters.objects u.counters.held u.counters.sum)
    u.records u.objects u.groups)
    (ap (λ (x : Tables). x.counters.sites) is ∙ sites-are)
    (ap (λ (x : Tables). x.counters.records) is ∙ count)

-- what is kept of a box is right after one record more
pub kept-after :
    (rs : ℕ → List ℕ) (i : ℕ) (ns rows : List ℕ) (es : List Edit) (e : Edit) → es ≡ edits_in rs i → e ≡ decode_of (rs i) →
    KeptFor (es ++ (e ∷ [])) ns rows → KeptFor (edits_in rs (i + 1)) ns rows
unfolding edits_in
kept-after rs i ns rows es e held own h =
    subst (λ (k : ℕ). KeptFor (edits_in rs k) ns rows) (sym (add-one i))
    (subst (λ (x : List Edit). KeptFor x ns rows) (ap₂ (λ (x : List Edit) (y : Edit). x ++ (y ∷ [])) held own) h)
