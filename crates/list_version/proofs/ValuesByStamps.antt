-- Stamps of one key go by the total order, then by value: the largest stamp of the members with a key is that of the
-- last one, and it holds its value. So the line from tags and stamps is the version's line. Assumes nothing.
use mathlib.Core.Path.{◌≡◌, refl, sym, ap, ap₂, subst, ◌∙◌}
use mathlib.Core.Bool.{Bool, true, false, not, ◌&&◌, ◌||◌, cond}
use mathlib.Core.List.{List, [], ◌∷◌}
use Prim.Native.Nat.{ℕ, zero, suc, ◌+◌, ◌-◌, ◌*◌, ◌/◌, ◌≤◌, ◌<◌, max}
use native.Mathlib.Numerals.{add-one}
use native.Mathlib.Omega.{arith}
use native.Mathlib.Decide.{dec_lt}
use borrow.Author.Tests.{lt-ltb, le-ltb, ne_eqb, eqb-true, ltb-true, ltb-false}
use lib.Dec.{eqb, ltb}
use lib.ListN.{length, get_or, take, set}
use lib.Seq.{get_or-take, get_or-set_same, get_or-set_other}
use Rattle.math_lists.proofs.NumbersBelow.{sum_below}
use Rattle.edit_record.specs.declared.Edit.{Edit}
use Rattle.edit_record.specs.Layout.{most_sites, keys, two_bytes}
use Rattle.edit_causal.specs.TotalOrder.{vector_sum}
use Rattle.edit_history.specs.EditsHeld.{record_at}
use Rattle.math_maximal.specs.Groups.{bit}
use Rattle.edit_record.specs.RecordBytes.{no_edit}
use Rattle.list_version.specs.Identifier.{site_numbers}
use Rattle.list_version.specs.Values.{has_key, stands_before, later}
use Rattle.list_version.specs.VersionForms.{sets_at, values, placed_of, placings, stamp_of, Small, Stamped}
use Rattle.list_version.specs.VersionForms.{largest_below}
use Rattle.edit_history.proofs.EditsInPlaces.{sets-length, set-place}
use Rattle.list_version.proofs.LastMember.{last_below, last_none, last-member, last-other}
use Rattle.list_version.proofs.Names.{two-in-one}

-- ---- the order of stamps

-- an entry is a sequence number
pub sum_low : (v : List ℕ) → ((i : ℕ) → get_or v i 0 < two_bytes) → vector_sum v ≤ most_sites * (two_bytes - 1)
unfolding vector_sum
sum_low v h = sum_below most_sites (two_bytes - 1) (λ i. get_or v i 0) (λ i l. omega (arith, h i))

-- places x and y in the total order, values v and w
by_value :
    (x y v w : ℕ) → v < values → w < values →
    (ltb x y || not (ltb y x) && ltb v w) ≡ ltb (x * values + v + 1) (y * values + w + 1)
by_value x y v w hv hw = go (dec_lt x y) (dec_lt y x) (dec_lt v w)
  where
    a : ℕ
    a = x * values + v + 1

    b : ℕ
    b = y * values + w + 1

    go : Dec (x < y) → Dec (y < x) → Dec (v < w) → (ltb x y || not (ltb y x) && ltb v w) ≡ ltb a b
    go (yes l) d h = rw (lt-ltb x y l, lt-ltb a b (omega arith))
    go (no l) (yes d) h = rw (le-ltb x y (omega arith), lt-ltb y x d, le-ltb a b (omega arith))
    go (no l) (no d) (yes h) =
        rw (le-ltb x y (omega arith), le-ltb y x (omega arith), lt-ltb v w h, lt-ltb a b (omega arith))
    go (no l) (no d) (no h) =
        rw (le-ltb x y (omega arith), le-ltb y x (omega arith), le-ltb v w (omega arith), le-ltb a b (omega arith))

placed-order : (a b : Edit) → Small a → Small b → stands_before a b ≡ ltb (placed_of a) (placed_of b)
placed-order a b (ma, sa, va) (mb, sb, vb) =
    let m = vector_sum a.vector in
    let n = vector_sum b.vector in
    ap₂ (λ (p q : Bool). p || not q && ltb a.value b.value)
    (sym (two-in-one site_numbers m n a.site.0 b.site.0 sa sb))
    (sym (two-in-one site_numbers n m b.site.0 a.site.0 sb sa))
    ∙ by_value (m * site_numbers + a.site.0) (n * site_numbers + b.site.0) a.value b.value va vb

-- ---- one edit more

-- s is the stamp of the last member with the key k, or 0 for none
abbrev pub Lasts : ℕ → ℕ → List Edit → Type 0
Lasts k s [] = s ≡ 0
Lasts k s (e ∷ es) = (s ≡ k * placings + placed_of e) × Small e

lasts-later :
    (k s : ℕ) (l : List Edit) (x : Edit) → Lasts k s l → Small x →
    Lasts k (max s (k * placings + placed_of x)) (later l x)
unfolding later
lasts-later k s [] x e h = (omega arith, h)
lasts-later k s (e ∷ es) x (q, p) h =
    rw (placed-order e x p h) (go (ltb (placed_of e) (placed_of x)) refl)
  where
    go : (b : Bool) → ltb (placed_of e) (placed_of x) ≡ b →
        Lasts k (max s (k * placings + placed_of x)) (cond b (x ∷ []) (e ∷ []))
    go true t = let l = ltb-true (placed_of e) (placed_of x) t in (omega arith, h)
    go false t = let l = ltb-false (placed_of e) (placed_of x) t in (omega arith, p)

-- a stamp tells its key
key-told : (e : Edit) → Small e → (e.key * placings + placed_of e) / placings ≡ e.key
key-told e (m, s, v) = omega arith

lasts-more :
    (k s : ℕ) (l : List Edit) (x : Edit) → k < keys → Lasts k s l → Small x →
    Lasts k (cond (eqb (stamp_of x / placings) k) (max s (stamp_of x)) s) (cond (has_key k x) (later l x) l)
lasts-more k s l x low p h = go (dec_lt x.key keys)
  where
    keyed : ℕ
    keyed = x.key * placings + placed_of x

    own : (b : Bool) → eqb x.key k ≡ b → Lasts k (cond b (max s keyed) s) (cond b (later l x) l)
    own true t =
        subst (λ (j : ℕ). Lasts k (max s (j * placings + placed_of x)) (later l x)) (sym (eqb-true x.key k t))
        (lasts-later k s l x p h)
    own false t = p

    none : (b : Bool) → Lasts k (cond b (max s 0) s) l
    none true = let e : max s 0 ≡ s = omega arith in rw e p
    none false = p

    go : Dec (x.key < keys) →
        Lasts k (cond (eqb (stamp_of x / placings) k) (max s (stamp_of x)) s) (cond (has_key k x) (later l x) l)
    go (yes i) = rw (lt-ltb x.key keys i, key-told x h) (own (eqb x.key k) refl)
    go (no i) =
        rw (le-ltb x.key keys (omega arith), ne_eqb x.key k (λ e. omega arith)) (none (eqb (0 / placings) k))

-- ---- the line

module _ (ms : List Edit) (stamps : List ℕ) (all : Stamped ms stamps) (g : ℕ) where
  pub lasts-below :
      (k : ℕ) → k < keys → (i : ℕ) → i ≤ length ms → Lasts k (largest_below stamps g k i) (last_below ms g k i)
  unfolding largest_below
  lasts-below k low zero h = rw (last_none ms g k) refl
  lasts-below k low (suc i) h = go (bit g i) refl (lasts-below k low i (omega arith))
    where
      x : Edit
      x = get_or ms i no_edit

      best : ℕ
      best = largest_below stamps g k i

      next : last_below ms g k (suc i) ≡ last_below ms g k (i + 1)
      next = ap (last_below ms g k) (sym (add-one i))

      go : (b : Bool) → bit g i ≡ b → Lasts k best (last_below ms g k i) →
          Lasts k (cond (b && eqb (get_or stamps i 0 / placings) k) (max best (get_or stamps i 0)) best)
          (last_below ms g k (suc i))
      go true b ih =
          rw ((all i (omega arith)).0, next, last-member ms g k i x refl b)
          (lasts-more k best (last_below ms g k i) x low ih (all i (omega arith)).1)
      go false b ih = rw (next, last-other ms g k i b) ih

-- ---- the stamps of the Sets, one after another

-- out has the stamp of the edit in the i-th of the places
abbrev pub StampedAt : List ℕ → List ℕ → List ℕ → ℕ → Type 0
StampedAt rs ps out i =
    let e = record_at rs (get_or ps i 0) in
    (get_or out i 0 ≡ stamp_of e) × Small e

pub stamp-more :
    (rs ps out : List ℕ) (i z : ℕ) → i < length out → ((j : ℕ) → j < i → StampedAt rs ps out j) →
    (z ≡ stamp_of (record_at rs (get_or ps i 0))) × Small (record_at rs (get_or ps i 0)) → (j : ℕ) → j < i + 1 →
    StampedAt rs ps (set out i z) j
stamp-more rs ps out i z fits inv (e, h) j low = go (dec_lt j i)
  where
    go : Dec (j < i) → StampedAt rs ps (set out i z) j
    go (yes l) = (get_or-set_other out i j z 0 (λ q. omega arith) ∙ (inv j l).0, (inv j l).1)
    go (no l) =
        let same : i ≡ j = omega arith in
        subst (StampedAt rs ps (set out i z)) same (get_or-set_same out i z 0 fits ∙ e, h)

pub stamps-all :
    (rs ps out : List ℕ) (t : ℕ) → t ≤ length ps → ((j : ℕ) → j < t → StampedAt rs ps out j) →
    Stamped (sets_at rs (take t ps)) (take t out)
stamps-all rs ps out t fits inv i l =
    let low : i < t = omega (arith, sets-length rs ps t fits) in
    rw (get_or-take t out i 0 low, set-place rs ps t fits i low) (inv i low)

-- ---- the stamp of an edit whose fields are known

pub stamp-is :
    (e : Edit) (key sum site value : ℕ) → key ≡ e.key → sum ≡ vector_sum e.vector → site ≡ e.site.0 →
    value ≡ e.value →
    key * placings + ((sum * site_numbers + site) * values + value + 1) ≡ e.key * placings + placed_of e
stamp-is e key sum site value hk hs hi hv = rw (hk, hs, hi, hv)
