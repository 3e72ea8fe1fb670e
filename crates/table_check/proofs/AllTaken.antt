-- The records of sound tables whose rows are true are all taken by a replay: none of 1 to 7 and 16 applies to a record
-- after those before it. Assumes nothing.
use mathlib.Core.Path.{◌≡◌, refl, sym, ap, ◌∙◌}
use mathlib.Core.Logic.{inl, inr}
use mathlib.Core.Bool.{Bool, true, false, not, ◌&&◌, ◌||◌, cond}
use mathlib.Core.List.Memᴰ
use mathlib.Core.List.{List, [], ◌∷◌, ◌++◌, append-nil, append_assoc}
use Prim.Native.Nat.{ℕ, zero, suc, ◌≤◌, ◌<◌}
use native.Mathlib.Omega.{arith}
use native.Mathlib.Decide.{ℕ_discrete}
use lib.ListN.{length}
use lib.Dec.{leb, ltb}
use borrow.Author.Tests.{lt-leb, le-ltb, not-true}
use Rattle.math_lists.specs.SortedLists.{any}
use Rattle.math_lists.proofs.Booleans.{neither, or_off, off-where}
use Rattle.math_lists.proofs.NumbersBelow.{all-at}
use Rattle.edit_record.specs.declared.Edit.{Edit}
use Rattle.edit_record.specs.Answer1.{is_create, is_set, unfit}
use Rattle.edit_record.proofs.WellFormed.{set-aimed}
use Rattle.edit_causal.proofs.CausalLaws.{same-reflexive}
use Rattle.edit_causal.specs.ConflictForms.{NoneItself}
use Rattle.edit_causal.proofs.ConflictsAmongSets.{none-itself}
use Rattle.edit_history.specs.EditsHeld.{bytes_at, record_at, edits_of, creates, is_set_on, sets_on, is_target, object_of}
use Rattle.edit_history.proofs.FieldsInPlace.{bytes_whole}
use Rattle.edit_history.specs.EditsHeld.{most_records}
use Rattle.edit_history.specs.Answers2to5.{is_repeated, is_early, is_torn, is_astray, passes, records_pass}
use Rattle.edit_history.specs.Answer16.{is_nameless, records_named}
use Rattle.edit_history.proofs.EditsHeld.{edits-length, any-edit-on, chosen_more, chosen-grow, create-less}
use Rattle.edit_history.proofs.RecordsPassed.{target-before, few-at}
use Rattle.group_step.specs.GroupRows.{most_objects, most_sets, most_groups}
use Rattle.table_drawing.specs.Tables.{Tables, held_by, place_at, groups_at}
use Rattle.table_soundness.proofs.SoundFacts.{Sound}
use Rattle.table_arrival.specs.Answers6and7.{first_of, row_of}
use Rattle.group_true.specs.TrueGroups.{true_groups}
use Rattle.group_true.proofs.TrueGroups.{groups-grow}
use Rattle.table_soundness.proofs.ObjectsByNumber.{sets-few}
use Rattle.table_arrival.proofs.ObjectOfSet.{object-less, target-site, target-seq, row-few, row_fits}
use Rattle.table_arrival.proofs.ProperWith.{proper-held}
use Rattle.table_arrival.proofs.Faithful.{RowsTrue}
use Rattle.table_given.specs.Replay.{replay_of}
use Rattle.table_given.proofs.OwnRecords.{edits-held}
use Rattle.demand_any_order.specs.Records.{records_of, Whole}
use Rattle.demand_any_order.specs.Settled.{named, full_over, crowded_over, list_answer, AllAccepted}
use Rattle.group_true.proofs.Identities.{one-object}
use Rattle.demand_any_order.proofs.ReplayAccepted.{accepted-none, accepted-more, refuses-none-exactly}
use Rattle.table_check.proofs.SettledByRecords.{used-long}

-- ---- an edit that passes 1 to 5, and to which none of 16, 6 and 7 applies

taken-over :
    (n : ℕ) (es : List Edit) (e : Edit) → passes n es e ≡ true → is_nameless es e ≡ false →
    full_over es e ≡ false → crowded_over es e ≡ false → list_answer n es e ≡ 0
unfolding passes list_answer first_of
taken-over n es e h version full crowded =
    let a = unfit n e in
    let b = is_repeated es e in
    let c = is_early es e in
    let d = is_torn es e in
    let (h4, astray) = neither (a || b || c || d) (is_astray es e) (not-true (a || b || c || d || is_astray es e) h) in
    let (h3, torn) = neither (a || b || c) d h4 in
    let (h2, early) = neither (a || b) c h3 in
    let (fit, repeated) = neither a b h2 in
    rw (fit, repeated, early, torn, astray, version, full, crowded)

-- ---- more records never lose a group

edits-lead : (rs : List ℕ) (i n : ℕ) → i ≤ n → (more : List Edit) × (edits_of rs n ≡ edits_of rs i ++ more)
unfolding edits_of
edits-lead rs i zero l = let e : i ≡ 0 = omega arith in ([], rw e refl)
edits-lead rs i (suc n) l = go (ℕ_discrete i (suc n)) (edits-lead rs i n)
  where
    go : Dec (i ≡ suc n) → (i ≤ n → (more : List Edit) × (edits_of rs n ≡ edits_of rs i ++ more)) →
        (more : List Edit) × (edits_of rs (suc n) ≡ edits_of rs i ++ more)
    go (yes e) ih = ([], rw e (sym (append-nil (edits_of rs (suc n)))))
    go (no d) ih =
        let (more, q) = ih (omega arith) in (
          more ++ (record_at rs n ∷ []),
          ap (λ (es : List Edit). es ++ (record_at rs n ∷ [])) q ∙ append_assoc (edits_of rs i) more (record_at rs n ∷ []),
        )

groups-later :
    (rs : List ℕ) (c : Edit) (i n : ℕ) → i ≤ n → NoneItself (sets_on c.site c.seq (edits_of rs n)) →
    length (true_groups (edits_of rs i) c) ≤ length (true_groups (edits_of rs n) c)
groups-later rs c i n l irr =
    let (more, q) = edits-lead rs i n l in
    let few = groups-grow (edits_of rs i) more c (rw q at irr) in
    rw q few

module _ (t : Tables) (s : Sound t) (rows : RowsTrue t) where
  abbrev rs : List ℕ
  rs = t.records

  abbrev n : ℕ
  n = t.counters.records

  abbrev sites : ℕ
  sites = t.counters.sites

  -- ---- the record in place p

  module _ (p : ℕ) (l : p < n) where
    abbrev e : Edit
    e = record_at rs p

    abbrev es : List Edit
    es = edits_of rs p

    pass : passes sites es e ≡ true
    unfolding records_pass
    pass = all-at n (λ q. passes sites (edits_of rs q) (record_at rs q)) s.pass p l

    has-version : is_nameless es e ≡ false
    unfolding records_named
    has-version =
        not-true (is_nameless es e) (all-at n (λ q. not (is_nameless (edits_of rs q) (record_at rs q))) s.named p l)

    sets-room : is_set e ≡ true → length (sets_on e.tsite e.tseq es) < most_sets
    unfolding sets_on
    sets-room k =
        let f = is_set_on e.tsite e.tseq in
        let on : f e ≡ true = rw (k, same-reflexive e.tsite e.tseq) in
        let one : ◌≡◌ {A = ℕ} (cond (f e) 1 0) 1 = ap (λ (b : Bool). cond b 1 0) on in
        omega (arith, chosen_more f rs p, chosen-grow f rs (suc p) n l, sets-few t s e.tsite e.tseq)

    not_full : full_over es e ≡ false
    unfolding full_over
    not_full =
        let records? = leb most_records (length es) in
        let objects? = is_create e && leb most_objects (length (creates es)) in
        let sets? = is_set e && leb most_sets (length (sets_on e.tsite e.tseq es)) in
        or_off (records? || objects?) sets?
        (or_off records? objects?
        (lt-leb most_records (length es) (omega (arith, edits-length rs p, s.few-records)))
        (off-where (is_create e) (leb most_objects (length (creates es))) (λ k.
        lt-leb most_objects (length (creates es))
        (omega (arith, create-less rs p n l k, s.objects, s.few-objects)))))
        (off-where (is_set e) (leb most_sets (length (sets_on e.tsite e.tseq es))) (λ k.
        lt-leb most_sets (length (sets_on e.tsite e.tseq es)) (sets-room k)))

    -- its object has no more than a row of groups in the end, so never before
    few-groups : is_set e ≡ true → length (true_groups (edits_of rs (suc p)) (named e)) ≤ most_groups
    few-groups k =
        let (q, m, h) = target-before sites rs n s.pass p l (set-aimed e k) in
        let aim : any (is_target e) (held_by t) ≡ true = any-edit-on (is_target e) rs n q (omega arith) h in
        let o = object_of e (held_by t) in
        let c = record_at rs (place_at t.objects o) in
        let its : row_of t o ≡ true_groups (held_by t) (named e)
        = rows o (object-less t s e aim) ∙ one-object (held_by t) c (named e) (target-site t s e aim)
        (target-seq t s e aim) in
        let long = used-long t.groups o (groups_at t.objects o) (row-few t s e aim) (row_fits t s e aim) in
        let irr = none-itself (sets_on (named e).site (named e).seq (edits_of rs n))
        (proper-held t s (named e).site (named e).seq) in
        omega (arith, groups-later rs (named e) (suc p) n l irr, ap length its, row-few t s e aim)

    not-crowded : crowded_over es e ≡ false
    unfolding crowded_over edits_of
    not-crowded =
        let many = length (true_groups (es ++ (e ∷ [])) (named e)) in
        off-where (is_set e) (ltb most_groups many) (λ k. le-ltb most_groups many (few-groups k))

    taken_at : list_answer sites es e ≡ 0
    taken_at = taken-over sites es e pass has-version not_full not-crowded

  -- ---- all of them

  all-accepted : (k : ℕ) → k ≤ n → AllAccepted sites (edits_of rs k)
  unfolding edits_of
  all-accepted zero l = accepted-none sites
  all-accepted (suc k) l =
      accepted-more sites (edits_of rs k) (record_at rs k) (all-accepted k (omega arith)) (taken_at k l)

  all_whole : (k : ℕ) → k ≤ n → Whole (records_of (bytes_at rs) k)
  unfolding records_of
  all_whole zero l b m = absurd (Memᴰ.not-nil m)
  all_whole (suc k) l b m = elim (Memᴰ.append_cases (records_of (bytes_at rs) k) m) [
    | inl i ↦ all_whole k (omega arith) b i
    | inr i ↦
        rw (Memᴰ.eq_of_singleton i)
        (bytes_whole rs k (omega (arith, s.records-long, s.few-records)) (few-at sites rs n s.pass k l))
  ]

  pub all-taken : (replay_of sites (bytes_at rs) n).answer ≡ 0
  all-taken =
      (refuses-none-exactly sites s.some-sites s.few-sites (bytes_at rs) n).1
      (all_whole n (omega arith), rw (← edits-held rs (bytes_at rs) n (λ p l. refl)) (all-accepted n (omega arith)))
