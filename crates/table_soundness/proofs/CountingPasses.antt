-- Counting over the records, one record more at a time: what the passes over the records keep. Assumes nothing.
use mathlib.Core.Path.{◌≡◌, refl, sym, ◌∙◌}
use mathlib.Core.Bool.{Bool, true, false, ◌&&◌, cond, and-true, and-false}
use mathlib.Core.List.{List}
use Prim.Native.Nat.{ℕ, zero, suc, ◌+◌, ◌≤◌, ◌<◌}
use native.Mathlib.Omega.{arith}
use native.Mathlib.Numerals.{add-one}
use native.Mathlib.Decide.{ℕ_discrete}
use lib.Dec.{eqb, lit≤}
use mir.Val.{bool_byte}
use lib.ListN.{get_or, set, length, length-set, replicate, length-replicate, get_or-replicate}
use lib.Seq.{get_or-set_same, get_or-set_other}
use borrow.Author.Tests.{ne_eqb}
use borrow.Author.Count.{below_more}
use Rattle.math_lists.specs.SortedLists.{filter}
use Rattle.math_lists.proofs.Booleans.{off, both, eqb-self}
use Rattle.edit_record.specs.declared.Edit.{Edit}
use Rattle.edit_record.specs.Answer1.{is_create, is_set}
use Rattle.edit_history.specs.EditsHeld.{record_at, edits_of, creates, most_records}
use Rattle.edit_history.proofs.EditsHeld.{chosen_more, chosen-few}
use Rattle.edit_walk.specs.WalkForms.{place_of}
use Rattle.table_soundness.specs.SoundnessForms.{Targeted, CreatesBefore, aims_at, Tallying}

-- ---- how many times b holds, as the library makes a number of it

pub counted_once : (b : Bool) → bool_byte b ≡ cond b 1 0
counted_once true = refl
counted_once false = refl

pub counted_most : (b : Bool) → bool_byte b ≤ 1
counted_most true = lit≤ tt
counted_most false = lit≤ tt

-- ---- those of the first n records that pass f

count-more :
    (f : Edit → Bool) (rs : List ℕ) (n : ℕ) →
    length (filter f (edits_of rs (n + 1))) ≡ length (filter f (edits_of rs n)) + cond (f (record_at rs n)) 1 0
count-more f rs n = rw add-one (chosen_more f rs n)

-- ---- the Creates

pub creates-none : (rs : List ℕ) → 0 ≡ length (creates (edits_of rs 0))
unfolding edits_of creates filter
creates-none rs = refl

pub creates-more :
    (rs : List ℕ) (n : ℕ) →
    length (creates (edits_of rs n)) + cond (is_create (record_at rs n)) 1 0 ≡ length (creates (edits_of rs (n + 1)))
unfolding creates
creates-more rs n = sym (count-more is_create rs n)

pub creates-le : (rs : List ℕ) (n : ℕ) → length (creates (edits_of rs n)) ≤ n
unfolding creates
creates-le rs n = chosen-few is_create rs n

pub numbered_more :
    (rs ns : List ℕ) (n k : ℕ) →
    CreatesBefore rs n ns →
    k ≡ length (creates (edits_of rs n)) →
    n < length ns →
    CreatesBefore rs (n + 1) (set ns n k)
numbered_more rs ns n k h e l =
    below_more (λ p. get_or (set ns n k) p 0 ≡ length (creates (edits_of rs p))) n
    (λ p m. get_or-set_other ns n p k 0 (λ q. absurd (omega arith)) ∙ h p m)
    (get_or-set_same ns n k 0 l ∙ e)

-- ---- the Sets, by the index ps of places

pub aimed-none : (rs ps : List ℕ) → Tallying rs 0 ps (replicate most_records 0)
unfolding edits_of filter
aimed-none rs ps = (length-replicate {A = ℕ} most_records 0, λ p l. get_or-replicate most_records p 0 0 l)

-- where the first record does not pass, fewer pass than there are
chosen-fewer :
    (f : Edit → Bool) (rs : List ℕ) (n : ℕ) → f (record_at rs 0) ≡ false → length (filter f (edits_of rs (suc n))) ≤ n
chosen-fewer f rs zero h =
    rw (chosen_more f rs 0, h) (omega (arith, chosen-few f rs 0))
chosen-fewer f rs (suc n) h = rw (chosen_more f rs (suc n)) (go (f (record_at rs (suc n))) (chosen-fewer f rs n h))
  where
    go : (b : Bool) → length (filter f (edits_of rs (suc n))) ≤ n →
        length (filter f (edits_of rs (suc n))) + cond b 1 0 ≤ suc n
    go true h = omega arith
    go false h = omega arith

-- a tally below the last record has room for one more in a byte
pub aimed-low :
    (rs ps ts : List ℕ) (n p : ℕ) → n < most_records → Targeted rs (n + 1) → Tallying rs n ps ts → p < most_records →
    get_or ts p 0 + 1 < most_records
aimed-low rs ps ts zero p few targets h k =
    omega (arith, h.1 p k, chosen-few (aims_at ps p) rs 0)
aimed-low rs ps ts (suc n) p few targets h k =
    omega (arith, h.1 p k, chosen-fewer (aims_at ps p) rs n first)
  where
    first : aims_at ps p (record_at rs 0) ≡ false
    first =
        off (aims_at ps p (record_at rs 0))
        (λ y. let (q, o, _, _, _) = targets 0 (omega arith) (both (is_set (record_at rs 0)) _ y).0 in omega arith)

-- one more in place p, where b holds
raise-at :
    (ts : List ℕ) (p q : ℕ) (b : Bool) →
    q < length ts →
    get_or (set ts p (get_or ts p 0 + cond b 1 0)) q 0 ≡ get_or ts q 0 + cond (b && eqb p q) 1 0
raise-at ts p q b l = go (ℕ_discrete q p)
  where
    go : Dec (q ≡ p) → get_or (set ts p (get_or ts p 0 + cond b 1 0)) q 0 ≡ get_or ts q 0 + cond (b && eqb p q) 1 0
    go (yes d) = rw (d, eqb-self p, and-true b) (get_or-set_same ts p (get_or ts p 0 + cond b 1 0) 0 (rw d at l))
    go (no d) =
        rw (ne_eqb p q (λ e. d (sym e)), and-false b)
        (get_or-set_other ts p q (get_or ts p 0 + cond b 1 0) 0 d ∙ omega arith)

pub aimed_more :
    (rs ps ts : List ℕ) (n : ℕ) →
    Tallying rs n ps ts →
    let e = record_at rs n in
    let p = place_of ps e.tsite.0 e.tseq.0 in
    Tallying rs (n + 1) ps (set ts p (get_or ts p 0 + cond (is_set e) 1 0))
aimed_more rs ps ts n (l, h) =
    let e = record_at rs n in
    let p = place_of ps e.tsite.0 e.tseq.0 in (
      simp length-set l,
      λ q m. raise-at ts p q (is_set e) (omega (arith, l)) ∙ rw (h q m) (sym (count-more (aims_at ps q) rs n)),
    )
