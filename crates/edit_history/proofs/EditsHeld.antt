-- The edits in the first n places of a table: what a test, a count and a number of an object make of one record more,
-- and that records past them do not matter. Assumes nothing.
use mathlib.Core.Path.{◌≡◌, refl, ap, sym, ◌∙◌}
use mathlib.Core.Bool.{Bool, true, false, not, ◌&&◌, ◌||◌, cond}
use mathlib.Core.List.{List, [], ◌∷◌, ◌++◌, append-nil}
use Prim.Native.Nat.{ℕ, zero, suc, ◌+◌, ◌≤◌, ◌<◌}
use native.Mathlib.Omega.{arith}
use native.Mathlib.Decide.{ℕ_discrete}
use lib.Dec.{eqb}
use lib.ListN.{length, length-append}
use borrow.Author.Tests.{eqb-true}
use Rattle.math_lists.specs.NumbersBelow.{some}
use Rattle.math_lists.specs.SortedLists.{any, filter}
use Rattle.math_lists.proofs.Booleans.{both}
use Rattle.math_lists.proofs.NumbersBelow.{some-on, some_at}
use Rattle.math_lists.proofs.GrownAtEnd.{any_snoc, filter-snoc, filter-length-snoc, any-filter}
use Rattle.edit_record.specs.declared.Edit.{Edit}
use Rattle.edit_record.specs.Answer1.{is_create}
use Rattle.edit_causal.specs.Causal.{same_edit, has_seen}
use Rattle.edit_history.specs.EditsHeld.{record_at, edits_of, count_from, creates, is_target, index_of, object_of}

-- ---- the places of the edits

pub edits-length : (rs : List ℕ) (n : ℕ) → length (edits_of rs n) ≡ n
unfolding edits_of
edits-length rs zero = refl
edits-length rs (suc n) =
    omega (arith, length-append (edits_of rs n) (record_at rs n ∷ []), edits-length rs n)

-- records past the first n do not matter
pub edits-same :
    (rs ts : List ℕ) (n : ℕ) → ((p : ℕ) → p < n → record_at rs p ≡ record_at ts p) → edits_of rs n ≡ edits_of ts n
unfolding edits_of
edits-same rs ts zero h = refl
edits-same rs ts (suc n) h =
    ap (λ (es : List Edit). es ++ (record_at rs n ∷ [])) (edits-same rs ts n (λ p l. h p (omega arith)))
    ∙ ap (λ (e : Edit). edits_of ts n ++ (e ∷ [])) (h n (omega arith))

-- some edit passes exactly where the edit in some place does
pub any-edits : (f : Edit → Bool) (rs : List ℕ) (n : ℕ) → any f (edits_of rs n) ≡ some n (λ p. f (record_at rs p))
unfolding edits_of any some
any-edits f rs zero = refl
any-edits f rs (suc n) =
    any_snoc f (edits_of rs n) (record_at rs n)
    ∙ ap (λ (b : Bool). b || f (record_at rs n)) (any-edits f rs n)

pub any-edit-on :
    (f : Edit → Bool) (rs : List ℕ) (n p : ℕ) → p < n → f (record_at rs p) ≡ true → any f (edits_of rs n) ≡ true
any-edit-on f rs n p l h = any-edits f rs n ∙ some-on n (λ q. f (record_at rs q)) p l h

pub any-edit-at :
    (f : Edit → Bool) (rs : List ℕ) (n : ℕ) → any f (edits_of rs n) ≡ true →
    (p : ℕ) × (p < n) × (f (record_at rs p) ≡ true)
any-edit-at f rs n h = some_at n (λ q. f (record_at rs q)) (sym (any-edits f rs n) ∙ h)

-- ---- counts

pub chosen_more :
    (f : Edit → Bool) (rs : List ℕ) (n : ℕ) →
    length (filter f (edits_of rs (suc n))) ≡ length (filter f (edits_of rs n)) + cond (f (record_at rs n)) 1 0
unfolding edits_of
chosen_more f rs n = filter-length-snoc f (edits_of rs n) (record_at rs n)

pub chosen-grow :
    (f : Edit → Bool) (rs : List ℕ) (i n : ℕ) → i ≤ n →
    length (filter f (edits_of rs i)) ≤ length (filter f (edits_of rs n))
chosen-grow f rs i zero l = let e : i ≡ 0 = omega arith in rw e (omega arith)
chosen-grow f rs i (suc n) l = go (ℕ_discrete i (suc n)) (chosen-grow f rs i n)
  where
    go : Dec (i ≡ suc n) → (i ≤ n → length (filter f (edits_of rs i)) ≤ length (filter f (edits_of rs n))) →
        length (filter f (edits_of rs i)) ≤ length (filter f (edits_of rs (suc n)))
    go (yes e) ih = rw e (omega arith)
    go (no d) ih = omega (arith, chosen_more f rs n, ih (omega arith))

pub chosen-few : (f : Edit → Bool) (rs : List ℕ) (n : ℕ) → length (filter f (edits_of rs n)) ≤ n
unfolding edits_of filter
chosen-few f rs zero = omega arith
chosen-few f rs (suc n) = rw (chosen_more f rs n) (go (f (record_at rs n)) (chosen-few f rs n))
  where
    go : (b : Bool) → length (filter f (edits_of rs n)) ≤ n → length (filter f (edits_of rs n)) + cond b 1 0 ≤ suc n
    go true h = omega arith
    go false h = omega arith

pub count-snoc :
    (s : ℕ) (es : List Edit) (e : Edit) →
    count_from s (es ++ (e ∷ [])) ≡ count_from s es + cond (eqb e.site.0 s) 1 0
unfolding count_from
count-snoc s es e = filter-length-snoc (λ a. eqb a.site.0 s) es e

pub count-more :
    (s : ℕ) (rs : List ℕ) (n : ℕ) →
    count_from s (edits_of rs (suc n)) ≡ count_from s (edits_of rs n) + cond (eqb (record_at rs n).site.0 s) 1 0
unfolding count_from
count-more s rs n = chosen_more (λ a. eqb a.site.0 s) rs n

pub count-grows : (s : ℕ) (rs : List ℕ) (i n : ℕ) → i ≤ n → count_from s (edits_of rs i) ≤ count_from s (edits_of rs n)
unfolding count_from
count-grows s rs i n l = chosen-grow (λ a. eqb a.site.0 s) rs i n l

pub count-few : (s : ℕ) (rs : List ℕ) (n : ℕ) → count_from s (edits_of rs n) ≤ n
unfolding count_from
count-few s rs n = chosen-few (λ a. eqb a.site.0 s) rs n

-- a Create in place p counts for every n past it
pub create-less :
    (rs : List ℕ) (p n : ℕ) → p < n → is_create (record_at rs p) ≡ true →
    length (creates (edits_of rs p)) < length (creates (edits_of rs n))
unfolding creates
create-less rs p n l h =
    let one : ◌≡◌ {A = ℕ} (cond (is_create (record_at rs p)) 1 0) 1 = ap (λ (b : Bool). cond b 1 0) h in
    omega (arith, chosen_more is_create rs p, chosen-grow is_create rs (suc p) n l)

-- ---- the target

-- what a target is made of
pub record Target (e a : Edit) : Type 0 where
  pub create : is_create a ≡ true
  pub site : a.site.0 ≡ e.tsite.0
  pub seq : a.seq.0 ≡ e.tseq.0
  pub seen : has_seen e.vector a.site a.seq ≡ true

pub target-parts : (e a : Edit) → is_target e a ≡ true → Target e a
target-parts e a h =
    let same = same_edit a.site a.seq e.tsite e.tseq in
    let (h2, seen) = both (is_create a && same) (has_seen e.vector a.site a.seq) h in
    let (create, on) = both (is_create a) same h2 in
    let (site, seq) = both (eqb a.site.0 e.tsite.0) (eqb a.seq.0 e.tseq.0) on in
    record {
      create = create;
      site = eqb-true a.site.0 e.tsite.0 site;
      seq = eqb-true a.seq.0 e.tseq.0 seq;
      seen = seen;
    }

-- ---- the number of an object

index-snoc :
    (f : Edit → Bool) (es : List Edit) (a : Edit) →
    index_of f (es ++ (a ∷ [])) ≡ index_of f es + cond (not (any f es || f a)) 1 0
unfolding any index_of
index-snoc f [] a = go (f a)
  where
    go : (b : Bool) → cond b 0 1 ≡ 0 + cond (not b) 1 0
    go true = refl
    go false = refl
index-snoc f (x ∷ es) a = go (f x) (index-snoc f es a)
  where
    go : (b : Bool) → index_of f (es ++ (a ∷ [])) ≡ index_of f es + cond (not (any f es || f a)) 1 0 →
        cond b 0 (suc (index_of f (es ++ (a ∷ []))))
        ≡ cond b 0 (suc (index_of f es)) + cond (not ((b || any f es) || f a)) 1 0
    go true ih = refl
    go false ih = omega (arith, ih)

index-few : (f : Edit → Bool) (es : List Edit) → index_of f es ≤ length es
unfolding index_of
index-few f [] = omega arith
index-few f (x ∷ es) = go (f x) (index-few f es)
  where
    go : (b : Bool) → index_of f es ≤ length es → cond b 0 (suc (index_of f es)) ≤ suc (length es)
    go true ih = omega arith
    go false ih = omega arith

pub object-few : (e : Edit) (rs : List ℕ) (n : ℕ) → object_of e (edits_of rs n) ≤ n
unfolding object_of creates
object-few e rs n =
    omega (arith, index-few (is_target e) (filter is_create (edits_of rs n)), chosen-few is_create rs n)

-- a Create that comes before e's Create is one object more
pub object-snoc :
    (e : Edit) (es : List Edit) (a : Edit) →
    object_of e (es ++ (a ∷ []))
    ≡ object_of e es + cond (is_create a && not (any (is_target e) es || is_target e a)) 1 0
unfolding object_of creates
object-snoc e es a =
    ap (index_of (is_target e)) (filter-snoc is_create es a)
    ∙ go (is_create a)
    ∙ ap
    (λ (b : Bool). index_of (is_target e) (filter is_create es) + cond (is_create a && not (b || is_target e a)) 1 0)
    (any-filter (is_target e) is_create es (λ x h. (target-parts e x h).create))
  where
    go : (b : Bool) → index_of (is_target e) (filter is_create es ++ cond b (a ∷ []) [])
        ≡ index_of (is_target e) (filter is_create es)
        + cond (b && not (any (is_target e) (filter is_create es) || is_target e a)) 1 0
    go true = index-snoc (is_target e) (filter is_create es) a
    go false = rw (append-nil (filter is_create es)) (omega arith)
