-- What is found before the search: the Create of a box by the index of the records, the refusals, and the masks of its
-- Sets, which are proper where 16 is given to no record. Assumes nothing.
use mathlib.Core.Path.{◌≡◌, refl, sym, ap, ap₂, subst, ◌∙◌}
use mathlib.Core.Bool.{Bool, true, false, ◌&&◌}
use mathlib.Core.List.{List, []}
use Prim.Native.Nat.{ℕ, ◌≤◌, ◌<◌}
use lib.Dec.{ltb}
use lib.ListN.{length}
use borrow.Author.Tests.{ltb-true, lt-ltb}
use Rattle.std.specs.Prelude.{Result, Ok, Err, IfOk}
use Rattle.std.proofs.lemmas.Result.{IfOk-at_ok}
use Rattle.math_lists.specs.SortedLists.{Asc, any}
use Rattle.math_lists.proofs.Booleans.{both, and-on, clash, same_test}
use Rattle.edit_record.specs.declared.Site.{Site}
use Rattle.edit_record.specs.declared.Seq.{Seq}
use Rattle.edit_record.specs.declared.Edit.{Edit}
use Rattle.edit_record.specs.Answer1.{is_create}
use Rattle.edit_causal.specs.Causal.{same_edit}
use Rattle.edit_causal.specs.ConflictForms.{Proper}
use Rattle.edit_causal.proofs.Identities.{same_parts}
use Rattle.edit_history.specs.EditsHeld.{record_at, edits_of, sets_on}
use Rattle.edit_history.specs.Answer16.{records_named}
use Rattle.edit_history.proofs.EditsHeld.{any-edit-on, any-edit-at}
use Rattle.edit_object.specs.CreateHeld.{is_create_of, is_held}
use Rattle.edit_walk.specs.WalkForms.{place_of, Indexed}
use Rattle.group_step.specs.GroupRows.{most_sets}
use Rattle.group_true.proofs.ProperSets.{orderly-table}
use Rattle.group_sight.specs.SightForms.{sets_in}
use Rattle.table_drawing.specs.declared.Counters.{Counters}
use Rattle.table_drawing.specs.declared.Refusal.{Refusal}
use Rattle.table_drawing.specs.declared.Refusal.TheVariants.{Unsound}
use Rattle.table_drawing.specs.Tables.{tables_of}
use Rattle.table_drawing.specs.AnswerNumbers.{answer_of}
use Rattle.table_sets.specs.KeyForms.{Tells}
use Rattle.table_sets.proofs.SetsTold.{passed-told}
use Rattle.table_engine.specs.EngineForms.{MasksTell, sets_of, BoxIn, MaskedWhere, refusal_of, PreparedFor}
use Rattle.table_engine.proofs.EnumerationOutcomes.{none_left}

-- ---- the Create s.q, where the index says

module _ (rs : List ℕ) (n : ℕ) (ps : List ℕ) (ix : Indexed rs n ps) (s : Site) (q : Seq) (p : ℕ)
    (at : p ≡ place_of ps s.0 q.0) where
  abbrev there? : Bool
  there? = ltb p n && is_create_of s q (record_at rs p)

  -- it is held exactly if it stands there
  pub held-there : there? ≡ is_held (edits_of rs n) s q
  unfolding is_held
  held-there =
      same_test there? (any (is_create_of s q) (edits_of rs n))
      (λ h. let (l, is) = both (ltb p n) (is_create_of s q (record_at rs p)) h in
      any-edit-on (is_create_of s q) rs n p (ltb-true p n l) is)
      (λ h. let (i, l, is) = any-edit-at (is_create_of s q) rs n h in
      let a = record_at rs i in
      let (e, f) = same_parts a.site a.seq s q (both (is_create a) (same_edit a.site a.seq s q) is).1 in
      let here : p ≡ i = at ∙ sym (ap₂ (λ (u : Site) (v : Seq). place_of ps u.0 v.0) e f) ∙ ix i l in
      rw here (and-on (ltb i n) (is_create_of s q a) (lt-ltb i n l) is))

module _ (rs : List ℕ) (n : ℕ) (s : Site) (q : Seq) (p : ℕ)
    (h : (ltb p n && is_create_of s q (record_at rs p)) ≡ true) where
  abbrev found : Edit
  found = record_at rs p

  pub place-below : p < n
  place-below = ltb-true p n (both (ltb p n) (is_create_of s q found) h).0

  is : (is_create found ≡ true) × (same_edit found.site found.seq s q ≡ true)
  is = both (is_create found) (same_edit found.site found.seq s q) (both (ltb p n) (is_create_of s q found) h).1

  pub create-there : is_create found ≡ true
  create-there = is.0

  pub sets-there : sets_of rs n p ≡ sets_on s q (edits_of rs n)
  sets-there =
      let (e, f) = same_parts found.site found.seq s q is.1 in
      ap₂ (λ (u : Site) (v : Seq). sets_on u v (edits_of rs n)) e f

-- ---- the Sets of a box that is told by the place of its Create

module _ (c : Counters) (rs ps : List ℕ) (p k : ℕ) (b : BoxIn c rs ps p k) where
  abbrev create : Edit
  create = record_at rs p

  pub few-of : k ≤ most_sets
  few-of = rw b.many (b.holds.few-sets create.site create.seq)

  pub told_of : (ms : List ℕ) → sets_in rs ms k ≡ sets_of rs c.records p → Asc Tells (sets_in rs ms k)
  told_of ms e =
      subst (Asc Tells) (sym e)
      (passed-told (tables_of c rs [] []) b.holds.few-sites b.holds.pass create.site create.seq)

  -- where 16 is given to no record
  pub proper-of : records_named rs c.records ≡ true → Proper (sets_of rs c.records p)
  proper-of named =
      (orderly-table c.sites b.holds.few-sites rs c.records b.holds.pass named).boxes create.site
      create.seq

-- ---- what is prepared

module _ (rs : List ℕ) (n : ℕ) (s : Site) (q : Seq) (long : ℕ) (ms : List ℕ) (r : Result ℕ Refusal) where
  abbrev es : List Edit
  es = edits_of rs n

  -- the Create is not held
  pub none-prepared :
      is_held es s q ≡ false → answer_of r ≡ refusal_of (records_named rs n) long false 0 →
      PreparedFor (records_named rs n) es s q long ms r
  unfolding refusal_of
  none-prepared gone told =
      let never : (k : ℕ) → r ≡ Ok k → ⊥
      = λ k e. clash (none_left (records_named rs n) long false 0 (sym told ∙ ap answer_of e)).2 refl in
      record {
        refused = rw gone told;
        counted = λ k e. absurd (never k e);
        masked = λ k e. absurd (never k e);
      }

  -- it is, its box has k Sets, and the masks of them are put down
  pub box-prepared :
      is_held es s q ≡ true → (p : ℕ) → sets_of rs n p ≡ sets_on s q es → (named : Bool) (k : ℕ) →
      MaskedWhere rs n k (sets_of rs n p) ms named → k ≡ length (sets_on s q es) →
      answer_of r ≡ refusal_of named long true k → IfOk r (λ m. m ≡ k) → PreparedFor (records_named rs n) es s q long ms r
  box-prepared held p there named k m many told own =
      record {
        refused = rw (held, ← m.decides, ← many) told;
        counted = λ j e. IfOk-at_ok (λ m. m ≡ k) e own ∙ many;
        masked = λ j e.
            let (on, _, _, few) = none_left named long true k (sym told ∙ ap answer_of e) in
            rw (IfOk-at_ok (λ m. m ≡ k) e own)
            (subst (λ (xs : List Edit). MasksTell k xs ms) there (m.masked on few));
      }

-- tables that are not sound, whatever is asked of them
pub unsound-prepared :
    (sound : Bool) → sound ≡ false → (es : List Edit) (s : Site) (q : Seq) (long : ℕ) (ms : List ℕ) →
    PreparedFor sound es s q long ms (Err Unsound)
unfolding refusal_of
unsound-prepared sound off es s q long ms =
    record {
      refused = rw off;
      counted = λ k e. cc;
      masked = λ k e. cc;
    }
