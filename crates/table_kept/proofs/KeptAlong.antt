-- What is kept of a box stays right where one edit more is held, and it is right of the edit's own box where that is
-- put down. Assumes nothing.
use mathlib.Core.Path.{◌≡◌, sym, ap, subst, ◌∙◌}
use mathlib.Core.Bool.{Bool, true, false, ◌&&◌, cond}
use mathlib.Core.List.{List, [], ◌∷◌, ◌++◌}
use Prim.Native.Nat.{ℕ, ◌+◌, ◌≤◌, ◌<◌}
use native.Mathlib.Omega.{arith}
use lib.Dec.{eqb, ltb}
use lib.ListN.{length, get_or, set, take, drop, length-set, length-append}
use lib.Seq.{get_or-set_same, get_or-set_other, take-append-le, take_all}
use borrow.Author.Tests.{eq-eqb, eqb-true, ltb-true}
use Rattle.math_lists.proofs.Booleans.{both, and-on}
use Rattle.math_lists.proofs.GrownAtEnd.{filter-snoc}
use Rattle.edit_record.specs.declared.Site.{Site}
use Rattle.edit_record.specs.declared.Seq.{Seq}
use Rattle.edit_record.specs.declared.Edit.{Edit}
use Rattle.edit_record.specs.Answer1.{is_set}
use Rattle.edit_causal.specs.ConflictForms.{plain_marks}
use Rattle.edit_causal.proofs.Identities.{same_parts}
use Rattle.edit_history.specs.declared.Held.{Held}
use Rattle.edit_history.specs.SurveyForms.{survey_of}
use Rattle.edit_history.specs.EditsHeld.{is_set_on, sets_on}
use Rattle.group_step.specs.GroupRows.{most_sets}
use Rattle.group_limited.proofs.RowsInPlaces.{no_rows, none-sees}
use Rattle.group_kept.specs.KeptForms.{contexts_at, sees_at, rows_length}
use Rattle.group_true.proofs.TrueGroups.{sets_more}
use Rattle.table_kept.specs.BoxForms.{box_site_at, box_seq_at, told_at, kept_length, boxed, TellOf, KeptFor}

-- of no Set it tells, whatever stands there
pub tell-of-none : (ns rows : List ℕ) → TellOf [] ns rows
tell-of-none ns rows = record {
  names = λ i l. absurd (omega arith);
  told = λ p. record { tell = no_rows rows (drop contexts_at rows); sees = none-sees (drop sees_at rows) };
}

-- at the start it tells of none
pub none_kept :
    (es : List Edit) (ns rows : List ℕ) → length ns ≡ kept_length → length rows ≡ rows_length → get_or ns told_at 0 ≡ 0 →
    KeptFor es ns rows
none_kept es ns rows ln lr none = record {
  names-long = ln;
  rows_long = lr;
  first = λ s q _ _. rw none (omega arith, tell-of-none ns rows);
}

-- one edit more
sets-grow :
    (s : Site) (q : Seq) (es : List Edit) (e : Edit) (k : ℕ) → k ≤ length (sets_on s q es) →
    (k ≤ length (sets_on s q (es ++ (e ∷ [])))) × (take k (sets_on s q (es ++ (e ∷ []))) ≡ take k (sets_on s q es))
unfolding sets_on
sets-grow s q es e k few =
    let more = cond (is_set_on s q e) (e ∷ []) [] in
    let is = filter-snoc (is_set_on s q) es e in (
      rw is (omega (arith, length-append (sets_on s q es) more, few)),
      ap (take k) is ∙ take-append-le k (sets_on s q es) more few,
    )

pub kept_more : (es : List Edit) (e : Edit) (ns rows : List ℕ) → KeptFor es ns rows → KeptFor (es ++ (e ∷ [])) ns rows
kept_more es e ns rows h = record {
  names-long = h.names-long;
  rows_long = h.rows_long;
  first = λ s q hs hq.
      let (few, tell) = h.first s q hs hq in
      let (room, same) = sets-grow s q es e (get_or ns told_at 0) few in
      (room, subst (λ (ms : List Edit). TellOf ms ns rows) (sym same) tell);
}

-- where it is kept of the box s.q, and of all its Sets
pub kept-all :
    (es : List Edit) (ns rows : List ℕ) → KeptFor es ns rows → (s : Site) (q : Seq) (k : ℕ) →
    k ≡ length (sets_on s q es) →
    (eqb (get_or ns box_site_at 0) s.0 && eqb (get_or ns box_seq_at 0) q.0 && eqb (get_or ns told_at 0) k) ≡ true →
    TellOf (sets_on s q es) ns rows
kept-all es ns rows h s q k all t =
    let (t2, count) = both (eqb (get_or ns box_site_at 0) s.0 && eqb (get_or ns box_seq_at 0) q.0) (eqb (get_or ns
    told_at 0) k)
    t in
    let (site, seq) = both (eqb (get_or ns box_site_at 0) s.0) (eqb (get_or ns box_seq_at 0) q.0) t2 in
    let is = eqb-true (get_or ns told_at 0) k count in
    let (_, tell) = h.first s q (sym (eqb-true (get_or ns box_site_at 0) s.0 site))
    (sym (eqb-true (get_or ns box_seq_at 0) q.0 seq)) in
    subst (λ (ms : List Edit). TellOf ms ns rows)
    (take_all (get_or ns told_at 0) (sets_on s q es) (omega (arith, is, all))) tell

-- what a survey says of the Sets of a box that is held
pub surveyed-sets :
    (es : List Edit) (e : Edit) (h : Held) → h ≡ survey_of es e →
    (h.sets ≡ length (sets_on e.tsite e.tseq es)) × (h.plain ≡ plain_marks e (sets_on e.tsite e.tseq es))
unfolding survey_of
surveyed-sets es e h is = (ap (λ (x : Held). x.sets) is, ap (λ (x : Held). x.plain) is)

-- ---- the entries behind the names

module _ (ns : List ℕ) (e : Edit) (k : ℕ) (long : length ns ≡ kept_length) where
  abbrev one : List ℕ
  one = set ns box_site_at e.tsite.0

  abbrev two : List ℕ
  two = set one box_seq_at e.tseq.0

  boxed-site : get_or (boxed ns e k) box_site_at 0 ≡ e.tsite.0
  boxed-site =
      get_or-set_other two told_at box_site_at k 0 (λ z. omega arith)
      ∙ get_or-set_other one box_seq_at box_site_at e.tseq.0 0 (λ z. omega arith)
      ∙ get_or-set_same ns box_site_at e.tsite.0 0 (omega (arith, long))

  boxed-seq : get_or (boxed ns e k) box_seq_at 0 ≡ e.tseq.0
  boxed-seq =
      get_or-set_other two told_at box_seq_at k 0 (λ z. omega arith)
      ∙ get_or-set_same one box_seq_at e.tseq.0 0 (omega (arith, length-set ns box_site_at e.tsite.0, long))

  boxed-long : length (boxed ns e k) ≡ kept_length
  boxed-long = omega (
    arith,
    length-set two told_at k,
    length-set one box_seq_at e.tseq.0,
    length-set ns box_site_at e.tsite.0,
    long,
  )

  boxed-count : get_or (boxed ns e k) told_at 0 ≡ k
  boxed-count =
      get_or-set_same two told_at k 0
      (omega (arith, length-set one box_seq_at e.tseq.0, length-set ns box_site_at e.tsite.0, long))

  boxed-low : (i : ℕ) → i < most_sets → get_or (boxed ns e k) i 0 ≡ get_or ns i 0
  boxed-low i l =
      get_or-set_other two told_at i k 0 (λ z. omega arith)
      ∙ get_or-set_other one box_seq_at i e.tseq.0 0 (λ z. omega arith)
      ∙ get_or-set_other ns box_site_at i e.tsite.0 0 (λ z. omega arith)

-- an edit that was put down behind the Sets of its box, if it is a Set and there was room
module _
    (es : List Edit)
    (e : Edit)
    (ns rows : List ℕ)
    (ln : length ns ≡ kept_length)
    (lr : length rows ≡ rows_length)
    (after : length (sets_on e.tsite e.tseq es) < most_sets →
    TellOf (sets_on e.tsite e.tseq es ++ (e ∷ [])) ns rows) where
  abbrev ms : List Edit
  ms = sets_on e.tsite e.tseq es

  pub kept-with :
      (b : Bool) → b ≡ (ltb (length ms) most_sets && is_set e) →
      KeptFor (es ++ (e ∷ [])) (boxed ns e (cond b (length ms + 1) 0)) rows
  kept-with false h =
      none_kept (es ++ (e ∷ [])) (boxed ns e 0) rows (boxed-long ns e 0 ln) lr (boxed-count ns e 0 ln)
  kept-with true h =
      let (room, set) = both (ltb (length ms) most_sets) (is_set e) (sym h) in
      let few : length ms < most_sets = ltb-true (length ms) most_sets room in
      let k = length ms + 1 in
      let bs = boxed ns e k in
      let tell = after few in
      let grown = sets_more es e set in
      let size = length-append ms (e ∷ []) in
      record {
        names-long = boxed-long ns e k ln;
        rows_long = lr;
        first = λ s q hs hq.
            let (is-site, is-seq) = same_parts s q e.tsite e.tseq
            (and-on (eqb s.0 e.tsite.0) (eqb q.0 e.tseq.0)
            (eq-eqb s.0 e.tsite.0 (hs ∙ boxed-site ns e k ln))
            (eq-eqb q.0 e.tseq.0 (hq ∙ boxed-seq ns e k ln))) in
            rw (is-site, is-seq, boxed-count ns e k ln, grown, take_all k (ms ++ (e ∷ [])) (omega (arith, size))) (
              omega (arith, size),
              record {
                names = λ i l. rw (boxed-low ns e k ln i (omega (arith, size, few))) (tell.names i l);
                told = tell.told;
              },
            );
      }
