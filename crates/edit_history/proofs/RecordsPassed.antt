-- What is known of records that pass 1 to 5 in their order: each is well formed and the next one of its site, two
-- places never hold the same edit, and an edit stands after the Create that it targets. Assumes nothing.
use mathlib.Core.Path.{◌≡◌, sym, ◌∙◌}
use mathlib.Core.Logic.{◌⊎◌, inl, inr}
use mathlib.Core.Bool.{Bool, true, false, not, ◌&&◌, ◌||◌}
use mathlib.Core.List.{List}
use Prim.Native.Nat.{ℕ, zero, suc, ◌+◌, ◌*◌, ◌≤◌, ◌<◌}
use native.Mathlib.Omega.{arith}
use native.Mathlib.Decide.{dec_lt, dec_le}
use lib.Dec.{eqb, ltb}
use lib.ListN.{get_or, drop}
use borrow.Author.Tests.{eqb-true, ne_eqb, leb-false, ltb-false, not-true, not-false}
use Rattle.math_lists.specs.NumbersBelow.{some}
use Rattle.math_lists.specs.SortedLists.{any, filter}
use Rattle.math_lists.proofs.Booleans.{decide, both, neither, eqb-self}
use Rattle.math_lists.proofs.NumbersBelow.{all-at, none-at}
use Rattle.edit_record.specs.declared.Edit.{Edit}
use Rattle.edit_record.specs.Layout.{most_sites, most_members, place_length}
use Rattle.edit_record.specs.Answer1.{is_set, is_aimed, unfit}
use Rattle.edit_record.proofs.WellFormed.{WellFormed, well-formed, set-aimed, few-members}
use Rattle.edit_causal.specs.Causal.{same_edit}
use Rattle.edit_history.specs.EditsHeld.{record_at, edits_of, count_from, is_set_on, is_target}
use Rattle.edit_history.specs.Answers2to5.{is_repeated, is_early, is_torn, is_astray, passes, records_pass}
use Rattle.edit_history.proofs.EditsHeld.{target-parts, any-edit-at, count-more, count-grows}

-- ---- one edit

-- what 1, 2 and 3 leave: the next edit of its site, whose other entries are no larger than the counts held
pub record InTurn (sites : ℕ) (es : List Edit) (e : Edit) : Type 0 where
  pub formed : WellFormed sites e
  pub next : e.seq.0 ≡ count_from e.site.0 es + 1
  pub others : (s : ℕ) → s < most_sites → (s ≡ e.site.0 → ⊥) → get_or e.vector s 0 ≤ count_from s es

pub in-turn :
    (sites : ℕ) (es : List Edit) (e : Edit) → unfit sites e ≡ false → is_repeated es e ≡ false → is_early es e ≡ false →
    InTurn sites es e
unfolding is_repeated is_early
in-turn sites es e h2 h3 h4 =
    let ahead : ℕ → Bool = λ s. not (eqb s e.site.0) && ltb (count_from s es) (get_or e.vector s 0) in
    let (near, low) = neither (ltb (count_from e.site.0 es + 1) e.seq.0) (some most_sites ahead) h4 in
    record {
      formed = well-formed sites e h2;
      next =
          omega (
            arith,
            leb-false e.seq.0 (count_from e.site.0 es) h3,
            ltb-false (count_from e.site.0 es + 1) e.seq.0 near,
          );
      others = λ s l d.
          ltb-false (count_from s es) (get_or e.vector s 0)
          (rw (ne_eqb s e.site.0 d) at (none-at most_sites ahead low s l));
    }

-- what 4 and 5 leave besides
pub record Passed (sites : ℕ) (es : List Edit) (e : Edit) : Type 0 where
  pub in_turn : InTurn sites es e
  pub whole : is_torn es e ≡ false
  pub aimed : is_aimed e ≡ true → any (is_target e) es ≡ true

pub passes-fit : (sites : ℕ) (es : List Edit) (e : Edit) → passes sites es e ≡ true → unfit sites e ≡ false
unfolding passes
passes-fit sites es e h =
    let a = unfit sites e in
    let b = is_repeated es e in
    let c = is_early es e in
    let d = is_torn es e in
    let (h4, _) = neither (a || b || c || d) (is_astray es e) (not-true (a || b || c || d || is_astray es e) h) in
    let (h3, _) = neither (a || b || c) d h4 in
    let (h2, _) = neither (a || b) c h3 in
    (neither a b h2).0

pub passed : (sites : ℕ) (es : List Edit) (e : Edit) → passes sites es e ≡ true → Passed sites es e
unfolding passes is_astray
passed sites es e h =
    let a = unfit sites e in
    let b = is_repeated es e in
    let c = is_early es e in
    let d = is_torn es e in
    let astray = is_astray es e in
    let (h4, aim) = neither (a || b || c || d) astray (not-true (a || b || c || d || astray) h) in
    let (h3, whole) = neither (a || b || c) d h4 in
    let (h2, early) = neither (a || b) c h3 in
    let (fit, repeated) = neither a b h2 in
    record {
      in_turn = in-turn sites es e fit repeated early;
      whole = whole;
      aimed = λ s. not-false (any (is_target e) es) (rw s at aim);
    }

-- ---- records that pass in their order

module _ (sites : ℕ) (rs : List ℕ) (n : ℕ) (pass : records_pass sites rs n ≡ true) where
  pub passed-at : (p : ℕ) → p < n → Passed sites (edits_of rs p) (record_at rs p)
  unfolding records_pass
  passed-at p l =
      passed sites (edits_of rs p) (record_at rs p)
      (all-at n (λ q. passes sites (edits_of rs q) (record_at rs q)) pass p l)

  pub fit_at : (p : ℕ) → p < n → unfit sites (record_at rs p) ≡ false
  unfolding records_pass
  fit_at p l =
      passes-fit sites (edits_of rs p) (record_at rs p)
      (all-at n (λ q. passes sites (edits_of rs q) (record_at rs q)) pass p l)

  -- so that what each lists has room in its place
  pub few-at : (p : ℕ) → p < n → (record_at rs p).count ≤ most_members
  few-at p l = few-members sites (drop (p * place_length) rs) (fit_at p l)

  pub formed-at : (p : ℕ) → p < n → WellFormed sites (record_at rs p)
  formed-at p l = (passed-at p l).in_turn.formed

  pub next-at : (p : ℕ) → p < n → (record_at rs p).seq.0 ≡ count_from (record_at rs p).site.0 (edits_of rs p) + 1
  next-at p l = (passed-at p l).in_turn.next

  -- ---- identity

  pub seq-held :
      (p k : ℕ) → p < k → k ≤ n → (record_at rs p).seq.0 ≤ count_from (record_at rs p).site.0 (edits_of rs k)
  seq-held p k l m =
      let s = (record_at rs p).site.0 in
      let own : count_from s (edits_of rs (suc p)) ≡ count_from s (edits_of rs p) + 1
      = count-more s rs p ∙ rw (eqb-self s) in
      omega (arith, next-at p (omega arith), own, count-grows s rs (suc p) k l)

  -- later along a site, larger
  pub seq-later :
      (p k : ℕ) → p < k → k < n → (record_at rs p).site.0 ≡ (record_at rs k).site.0 →
      (record_at rs p).seq.0 < (record_at rs k).seq.0
  seq-later p k l m e =
      let h : (record_at rs p).seq.0 ≤ count_from (record_at rs k).site.0 (edits_of rs k)
      = rw (← e) (seq-held p k l (omega arith)) in
      omega (arith, next-at k m)

  -- one identity, one place
  pub one_place :
      (i p : ℕ) → i < n → p < n → (record_at rs i).site.0 ≡ (record_at rs p).site.0 →
      (record_at rs i).seq.0 ≡ (record_at rs p).seq.0 → i ≡ p
  one_place i p li lp es eq = go (dec_lt i p) (dec_lt p i)
    where
      go : Dec (i < p) → Dec (p < i) → i ≡ p
      go (yes a) w = absurd (omega (arith, seq-later i p a lp es))
      go (no a) (yes b) = absurd (omega (arith, seq-later p i b li (sym es)))
      go (no a) (no b) = omega arith

  -- every edit that is counted has its place
  pub place-of :
      (k : ℕ) → k ≤ n → (s q : ℕ) → 0 < q → q ≤ count_from s (edits_of rs k) →
      (p : ℕ) × (p < k) × ((record_at rs p).site.0 ≡ s) × ((record_at rs p).seq.0 ≡ q)
  unfolding edits_of count_from filter
  place-of zero m s q one l = absurd (omega arith)
  place-of (suc k) m s q one l =
      go (dec_le q (count_from s (edits_of rs k))) (decide (eqb (record_at rs k).site.0 s))
      (place-of k (omega arith) s q one)
    where
      go : Dec (q ≤ count_from s (edits_of rs k)) →
          (eqb (record_at rs k).site.0 s ≡ true) ⊎ (eqb (record_at rs k).site.0 s ≡ false) →
          (q ≤ count_from s (edits_of rs k) →
          (p : ℕ) × (p < k) × ((record_at rs p).site.0 ≡ s) × ((record_at rs p).seq.0 ≡ q)) →
          (p : ℕ) × (p < suc k) × ((record_at rs p).site.0 ≡ s) × ((record_at rs p).seq.0 ≡ q)
      go (yes a) w ih = let (p, b, c, d) = ih a in (p, omega arith, c, d)
      go (no a) (inl e) ih =
          let own : (record_at rs k).site.0 ≡ s = eqb-true (record_at rs k).site.0 s e in
          let more : count_from s (edits_of rs (suc k)) ≡ count_from s (edits_of rs k) + 1 = count-more s rs k ∙ rw e in
          let next : (record_at rs k).seq.0 ≡ count_from s (edits_of rs k) + 1 = rw (← own) (next-at k m) in
          (k, omega arith, own, omega arith)
      go (no a) (inr e) ih =
          let more : count_from s (edits_of rs (suc k)) ≡ count_from s (edits_of rs k) + 0 = count-more s rs k ∙ rw e in
          absurd (omega arith)

  -- ---- targets

  pub target-before :
      (p : ℕ) → p < n → is_aimed (record_at rs p) ≡ true →
      (t : ℕ) × (t < p) × (is_target (record_at rs p) (record_at rs t) ≡ true)
  target-before p l h = any-edit-at (is_target (record_at rs p)) rs p ((passed-at p l).aimed h)

  -- a Set on the edit in place t stands after it
  pub set_after :
      (t p : ℕ) → t < n → p < n → is_set_on (record_at rs t).site (record_at rs t).seq (record_at rs p) ≡ true → t < p
  set_after t p lt lp h =
      let e = record_at rs p in
      let a = record_at rs t in
      let (set, on) = both (is_set e) (same_edit e.tsite e.tseq a.site a.seq) h in
      let (site, seq) = both (eqb e.tsite.0 a.site.0) (eqb e.tseq.0 a.seq.0) on in
      let (u, before, target) = target-before p lp (set-aimed e set) in
      let parts = target-parts e (record_at rs u) target in
      let same : t ≡ u
      = one_place t u lt (omega arith) (sym (eqb-true e.tsite.0 a.site.0 site) ∙ sym parts.site)
      (sym (eqb-true e.tseq.0 a.seq.0 seq) ∙ sym parts.seq) in
      omega arith
