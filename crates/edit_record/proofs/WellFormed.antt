-- An edit has one kind; what an edit is that answer 1 is not given to, as facts; and the last eight bytes byte by byte.
-- Assumes nothing.
use mathlib.Core.Path.{◌≡◌}
use mathlib.Core.Bool.{true, false, not, ◌&&◌, ◌||◌, and_assoc}
use mathlib.Core.Logic.{◌⊎◌, inl, inr}
use mathlib.Core.List.{List}
use Prim.Native.Nat.{ℕ, ◌+◌, ◌/◌, ◌%◌, ◌≤◌, ◌<◌}
use native.Mathlib.Omega.{arith}
use lib.ListN.{get_or}
use lib.Dec.{eqb, leb, ltb}
use borrow.Author.Tests.{eqb-true, eqb-false, eq-eqb, leb-false, le-leb, ltb-false, lt-ltb, not-false}
use Rattle.math_lists.specs.NumbersBelow.{all, some}
use Rattle.math_lists.proofs.Booleans.{clash, decide, same_test, both, either, or_left, or_right, neither, off}
use Rattle.math_lists.proofs.Booleans.{then-off}
use Rattle.math_lists.proofs.NumbersBelow.{none-at}
use Rattle.edit_record.specs.Layout.{most_sites, keys, target_at, target_seq_at, value_at, create_kind, set_kind}
use Rattle.edit_record.specs.Layout.{top_kind, bottom_kind, most_members}
use Rattle.edit_record.specs.RecordBytes.{two, four, limits, decode_of}
use Rattle.edit_record.specs.Answer1.{is_create, is_limited, is_set, is_top, is_bottom, is_layer, is_aimed, entry_of}
use Rattle.edit_record.specs.Answer1.{nonzero_past, last_eight_zero, name_in, list_unfit, unfit}
use Rattle.edit_record.specs.declared.Edit.{Edit}
use Rattle.edit_record.proofs.MembersTested.{has_wrong_byte, is_out_of_order}

-- ---- the kinds

pub create-not-set : (e : Edit) → is_create e ≡ true → is_set e ≡ false
create-not-set e h = off (is_set e) (λ k. clash k (rw (eqb-true e.kind create_kind h)))

pub set-not-create : (e : Edit) → is_set e ≡ true → is_create e ≡ false
set-not-create e h = off (is_create e) (λ k. clash h (rw (eqb-true e.kind create_kind k)))

-- a limited Set is a Set
pub limited-set : (e : Edit) → is_limited e ≡ true → is_set e ≡ true
limited-set e h = or_right (eqb e.kind set_kind) (is_limited e) h

pub set-aimed : (e : Edit) → is_set e ≡ true → is_aimed e ≡ true
set-aimed e h = or_left (is_set e) (is_layer e) h

pub layer-aimed : (e : Edit) → is_layer e ≡ true → is_aimed e ≡ true
layer-aimed e h = or_right (is_set e) (is_layer e) h

-- an edit that is aimed is a Set or a layer edit, and no Create
pub set-or-layer : (e : Edit) → is_aimed e ≡ true → (is_set e ≡ true) ⊎ (is_layer e ≡ true)
set-or-layer e h = either (is_set e) (is_layer e) h

pub aimed-not-create : (e : Edit) → is_aimed e ≡ true → is_create e ≡ false
aimed-not-create e h =
    off (is_create e) (λ k. clash h (rw (eqb-true e.kind create_kind k)))

pub layer-not-set : (e : Edit) → is_layer e ≡ true → is_set e ≡ false
layer-not-set e h =
    elim (either (is_top e) (is_bottom e) h) [
      | inl t ↦ rw (eqb-true e.kind top_kind t)
      | inr b ↦ rw (eqb-true e.kind bottom_kind b)
    ]

-- ---- a well-formed edit

pub record WellFormed (n : ℕ) (e : Edit) : Type 0 where
  pub kind : (is_create e ≡ true) ⊎ (is_aimed e ≡ true)
  pub site : e.site.0 < n
  pub past : (i : ℕ) → i < most_sites → n ≤ i → get_or e.vector i 0 ≡ 0
  pub seq : 0 < e.seq.0
  pub own : e.seq.0 ≡ get_or e.vector e.site.0 0
  pub key : e.key < keys

-- one that is neither a Create nor a Set is a layer edit
pub otherwise-layer : (n : ℕ) (e : Edit) → WellFormed n e → is_create e ≡ false → is_set e ≡ false → is_layer e ≡ true
otherwise-layer n e w c s = elim w.kind [ inl k ↦ clash k c | inr k ↦ (rw s at k) ]

nonzero-none : (n : ℕ) (v : List ℕ) → nonzero_past n v ≡ false → (i : ℕ) → i < most_sites → n ≤ i → get_or v i 0 ≡ 0
unfolding nonzero_past
nonzero-none n v h i l k =
    let off = none-at most_sites (λ j. leb n j && not (eqb (get_or v j 0) 0)) h i l in
    eqb-true (get_or v i 0) 0 (not-false (eqb (get_or v i 0) 0) (rw (le-leb n i k) at off))

pub well-formed : (n : ℕ) (e : Edit) → unfit n e ≡ false → WellFormed n e
unfolding unfit
well-formed n e h =
    let v = e.vector in
    let kind = is_create e || is_aimed e in
    let site = leb n e.site.0 in
    let past = nonzero_past n v in
    let zero = eqb e.seq.0 0 in
    let own = eqb e.seq.0 (entry_of v e.site).0 in
    let key = leb keys e.key in
    let aimed = is_aimed e && eqb e.tseq.0 0 in
    let create = is_create e && not (last_eight_zero e) in
    let layer = is_layer e && not (eqb e.key 0 && eqb e.value 0) in
    let list = is_limited e && list_unfit e in
    let (h9, _) = neither (not kind || site || past || zero || not own || key || aimed || create || layer) list h in
    let (h8, _) = neither (not kind || site || past || zero || not own || key || aimed || create) layer h9 in
    let (h7, _) = neither (not kind || site || past || zero || not own || key || aimed) create h8 in
    let (h6, _) = neither (not kind || site || past || zero || not own || key) aimed h7 in
    let (h5, key-off) = neither (not kind || site || past || zero || not own) key h6 in
    let (h4, own-off) = neither (not kind || site || past || zero) (not own) h5 in
    let (h3, zero-off) = neither (not kind || site || past) zero h4 in
    let (h2, past_Off) = neither (not kind || site) past h3 in
    let (kind-off, site-off) = neither (not kind) site h2 in
    record {
      kind = either (is_create e) (is_aimed e) (not-false kind kind-off);
      site = leb-false n e.site.0 site-off;
      past = nonzero-none n v past_Off;
      seq = let z = eqb-false e.seq.0 0 zero-off in omega arith;
      own = eqb-true e.seq.0 (entry_of v e.site).0 (not-false own own-off);
      key = leb-false keys e.key key-off;
    }

-- what tells by itself that an edit is unfit: a site that the drawing has not, or an entry of such a site
pub outside-unfit : (n : ℕ) (e : Edit) → n ≤ e.site.0 → unfit n e ≡ true
outside-unfit n e h =
    elim (decide (unfit n e)) [ inl y ↦ y | inr y ↦ absurd (omega (arith, (well-formed n e y).site)) ]

pub past-unfit : (n : ℕ) (e : Edit) → nonzero_past n e.vector ≡ true → unfit n e ≡ true
unfolding unfit
past-unfit n e h =
    let first = not (is_create e || is_aimed e) || leb n e.site.0 in
    or_left _ _ (or_left _ _ (or_left _ _ (or_left _ _ (or_left _ _ (or_left _ _ (or_left _ _
    (or_right first (nonzero_past n e.vector) h)))))))

-- ---- the list of a limited Set

-- there are as many members as a list may have, each with its zero byte, and their names ascend
pub record Listed (e : Edit) : Type 0 where
  pub few : e.count ≤ most_members
  pub zero : (i : ℕ) → i < most_members → get_or e.members i 0 / 256 % 256 ≡ 0
  pub ascending : (i : ℕ) → i + 1 < e.count → name_in (get_or e.members i 0) < name_in (get_or e.members (i + 1) 0)

list-fit : (n : ℕ) (e : Edit) → unfit n e ≡ false → is_limited e ≡ true → list_unfit e ≡ false
unfolding unfit
list-fit n e h limited =
    let rest =
    not (is_create e || is_aimed e)
    || leb n e.site.0
    || nonzero_past n e.vector
    || eqb e.seq.0 0
    || not (eqb e.seq.0 (entry_of e.vector e.site).0)
    || leb keys e.key
    || is_aimed e && eqb e.tseq.0 0
    || is_create e && not (last_eight_zero e)
    || is_layer e && not (eqb e.key 0 && eqb e.value 0) in
    let (_, list) = neither rest (is_limited e && list_unfit e) h in
    then-off (is_limited e) (list_unfit e) limited list

pub listed-well : (n : ℕ) (e : Edit) → unfit n e ≡ false → is_limited e ≡ true → Listed e
unfolding list_unfit
listed-well n e h limited =
    let m = e.members in
    let many = ltb most_members e.count in
    let byte = has_wrong_byte m in
    let order = is_out_of_order e.count m in
    let fit = list-fit n e h limited in
    let (front, order-off) = neither (many || some most_members byte) (some most_members order) fit in
    let (many-off, byte-off) = neither many (some most_members byte) front in
    let few = ltb-false most_members e.count many-off in
    record {
      few = few;
      zero = λ i l. eqb-true (get_or m i 0 / 256 % 256) 0
          (not-false (eqb (get_or m i 0 / 256 % 256) 0) (none-at most_members byte byte-off i l));
      ascending = λ i l. leb-false (name_in (get_or m (i + 1) 0)) (name_in (get_or m i 0))
          (then-off (ltb (i + 1) e.count) (leb (name_in (get_or m (i + 1) 0)) (name_in (get_or m i 0)))
          (lt-ltb (i + 1) e.count l) (none-at most_members order order-off i (omega arith)));
    }

-- whatever its kind, an edit that is no misfit has no more members
pub few-members : (n : ℕ) (s : List ℕ) → unfit n (decode_of s) ≡ false → (decode_of s).count ≤ most_members
few-members n s h = elim (decide (limits s)) [
  | inl on ↦ (listed-well n (decode_of s) h on).few
  | inr off ↦ rw off (omega arith)
]

-- ---- the last eight bytes

-- a number is zero where its two digits are
digits-zero :
    (x a b : ℕ) → (x ≡ 0 → (a ≡ 0) × (b ≡ 0)) → (a ≡ 0 → b ≡ 0 → x ≡ 0) → eqb x 0 ≡ (eqb a 0 && eqb b 0)
digits-zero x a b f g =
    same_test (eqb x 0) (eqb a 0 && eqb b 0)
    (λ h. let (p, q) = f (eqb-true x 0 h) in rw (eq-eqb a 0 p, eq-eqb b 0 q))
    (λ h. let (p, q) = both (eqb a 0) (eqb b 0) h in eq-eqb x 0 (g (eqb-true a 0 p) (eqb-true b 0 q)))

two-zero : (s : List ℕ) (i : ℕ) → eqb (two s i) 0 ≡ (eqb (get_or s i 0) 0 && eqb (get_or s (i + 1) 0) 0)
two-zero s i = digits-zero (two s i) (get_or s i 0) (get_or s (i + 1) 0) (λ h. omega arith) (λ h k. omega arith)

four-zero : (s : List ℕ) (i : ℕ) → eqb (four s i) 0 ≡ (eqb (two s i) 0 && eqb (two s (i + 2)) 0)
four-zero s i = digits-zero (four s i) (two s i) (two s (i + 2)) (λ h. omega arith) (λ h k. omega arith)

pub last-eight-bytes : (s : List ℕ) → last_eight_zero (decode_of s) ≡ all 8 (λ i. eqb (get_or s (target_at + i) 0) 0)
unfolding all
last-eight-bytes s =
    rw (two-zero s target_seq_at, four-zero s value_at, two-zero s value_at, two-zero s (value_at + 2))
    (simp and_assoc)
