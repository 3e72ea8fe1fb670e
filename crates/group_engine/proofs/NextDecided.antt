-- The last Set that may come in is decided, in the numbers that the code has at hand: what the two calls ask, and what
-- comes of them. Assumes nothing.
use mathlib.Core.Path.{◌≡◌, sym, ap, subst, ◌∙◌}
use mathlib.Core.Logic.{◌⊎◌, inl, inr}
use mathlib.Core.Bool.{true, false, not}
use mathlib.Core.List.{List}
use Prim.Native.Nat.{ℕ, suc, ◌+◌, ◌-◌, ◌^◌, ◌≤◌, ◌<◌}
use native.Mathlib.Decide.{dec_lt, le_ind}
use native.Mathlib.Numerals.{add-one}
use native.Mathlib.Omega.{arith}
use lib.Dec.{eqb, ltb}
use lib.Pow.{pow-lt, pow_pos, pow_mono}
use lib.Bits.{bit_and, bit_or}
use lib.Count.{count_trailing_zeros}
use lib.ListN.{length, get_or, set}
use borrow.Author.Tests.{eqb-true, eqb-false, ltb-true, lt-ltb, not-true}
use Rattle.math_lists.proofs.Booleans.{clash, decide, both, and-on, either, or_left, or_right}
use Rattle.math_maximal.specs.Groups.{bit}
use Rattle.math_maximal.specs.Step.{compatible}
use Rattle.math_maximal.proofs.Bits.{bit-none, bit_high, bit_below, bit-or, bit-minus, bit-power}
use Rattle.math_maximal.proofs.Bits.{compatible-on, compatible-at}
use Rattle.math_maximal.proofs.FirstMember.{first_member}
use Rattle.group_step.specs.GroupRows.{most_groups, most_sets}
use Rattle.group_engine.specs.SearchForms.{Conflicts, conflict, is_group, Partial, Waiting, Stuck, FoundSoFar}
use Rattle.group_engine.proofs.WithoutFirst.{still-member}
use Rattle.group_engine.proofs.PartlyDecided.{is-group, stuck-none, passed_over, left_out_lem, no_room, taken_in}
use Rattle.group_engine.proofs.PartlyDecided.{still-out, all_fit, in-has, neither-in, fits-less}
use Rattle.group_engine.proofs.GroupsFound.{found_none, found-one, found-last}

-- ---- none is undecided

module _ {ms : List ℕ} {n t lone r : ℕ} {out : List ℕ} (p : Partial ms n 0 t 0) (w : Waiting ms n 0 t lone)
    (f : FoundSoFar ms n t r out) where
  pub none_here : lone < 2 ^ 64 → 0 < lone → FoundSoFar ms n (t + 1) r out
  none_here h l =
      let i = count_trailing_zeros 64 lone in
      let b = first_member 64 lone l h in
      found_none ms n t r out f 1
      (λ x a c. stuck-none ms n 0 t 0 p i (w.within i b) (omega arith) (w.left_out i b) (w.fits i b)
      (compatible-on (get_or ms i 0) 0 0 (omega arith) (λ j d. clash d (bit-none j))) x a (omega arith))

  module _ (h : lone ≡ 0) where
    group-here : is_group ms n t ≡ true
    group-here = is-group ms n t p (λ i l x y.
        clash (w.none_missed i l (omega arith) x y) (ap (λ (z : ℕ). bit z i) h ∙ bit-none i))

    pub put_last :
        {after : List ℕ} → after ≡ set out r t → length out ≡ most_groups → r < most_groups →
        FoundSoFar ms n (t + 1) (r + 1) after
    put_last e len l = rw e (found-one ms n t r out f group-here (omega arith) len l)

    pub one-too-many :
        {after : List ℕ} → after ≡ out → r ≤ most_groups → most_groups ≤ r → FoundSoFar ms n (t + 1) (r + 1) after
    one-too-many e k l = rw e (found-last ms n t r out f group-here k l)

-- ---- none of the last undecided may come in

module _ {ms : List ℕ} {n t may r w : ℕ} {out : List ℕ} (h : may < 2 ^ w) (f : FoundSoFar ms n (t + 2 ^ w) r out) where
  pub found-past : (u : ℕ) → w ≤ u → Partial ms n u t may → FoundSoFar ms n (t + 2 ^ u) r out
  found-past u l = le_ind (λ (v : ℕ). Partial ms n v t may → FoundSoFar ms n (t + 2 ^ v) r out) (λ p. f) more u l
    where
      more :
          (v : ℕ) → w ≤ v → (Partial ms n v t may → FoundSoFar ms n (t + 2 ^ v) r out) → Partial ms n (suc v) t may →
          FoundSoFar ms n (t + 2 ^ suc v) r out
      more v k before p =
          let wide : may < 2 ^ v = omega (arith, h, pow_mono k) in
          let e : t + 2 ^ v + 2 ^ v ≡ t + 2 ^ suc v = omega arith in
          subst (λ (x : ℕ). FoundSoFar ms n x r out) e
          (found_none ms n (t + 2 ^ v) r out (before (passed_over ms n (suc v) t may p v (omega arith) wide)) (2 ^ v)
          (no_room ms n v t may p (bit_high v may wide v (omega arith))))

pub all-decided : {ms : List ℕ} {n u t may : ℕ} → may ≡ 0 → Partial ms n u t may → Partial ms n 0 t 0
all-decided {ms} {n} {u} {t} {may} e p =
    passed_over ms n u t 0 (subst (Partial ms n u t) e p) 0 (omega arith) (omega arith)

pub all-waiting :
    {ms : List ℕ} {n u t may lone : ℕ} → may ≡ 0 → Partial ms n u t may → Waiting ms n u t lone →
    Waiting ms n 0 t lone
all-waiting {ms} {n} {u} {t} {may} {lone} e p w = record {
  within = w.within;
  decided = λ i h. omega arith;
  left_out = w.left_out;
  fits = w.fits;
  none_missed = λ i l o x y. elim (dec_lt i u) [
    | yes k ↦ clash (p.may_come i ∙ and-on (ltb i u) _ (lt-ltb i u k) y) (ap (λ (z : ℕ). bit z i) e ∙ bit-none i)
    | no k ↦ w.none_missed i l (omega arith) x y
  ];
}

pub none-may-come :
    {ms : List ℕ} {n u t may r : ℕ} {out : List ℕ} → may ≡ 0 → Partial ms n u t may → FoundSoFar ms n (t + 1) r out →
    FoundSoFar ms n (t + 2 ^ u) r out
none-may-come {u = u} e p f = found-past {w = 0} (omega arith) f u (omega arith) p

pub may-inside : {ms : List ℕ} {n u t may k : ℕ} → Partial ms n u t may → bit may k ≡ true → k < n
may-inside {n = n} {may = may} {k = k} p h = bit_below n may p.bound k h

-- ---- Set k is decided, the last that may come in: b is its number, rest are the others that may come in, and lone are
-- those left out that conflict with none that is in

pub record Deciding (ms : List ℕ) (n u t may lone k b rest : ℕ) : Type 0 where
  pub partly : Partial ms n u t may
  pub waits : Waiting ms n u t lone
  pub last_one : may < 2 ^ (k + 1)
  pub comes : bit may k ≡ true
  pub its-number : b ≡ 2 ^ k
  pub the_others : rest ≡ may - bit_and may b

module _ {ms : List ℕ} {n u t may lone k b rest : ℕ} (d : Deciding ms n u t may lone k b rest) where
  pub under : k < u
  under = ltb-true k u (both (ltb k u) _ (sym (d.partly.may_come k) ∙ d.comes)).0

  inside : k < n
  inside = may-inside d.partly d.comes

  fits_in : compatible (get_or ms k 0) t ≡ true
  fits_in = (both (ltb k u) (compatible (get_or ms k 0) t) (sym (d.partly.may_come k) ∙ d.comes)).1

  before : Partial ms n (suc k) t may
  before =
      let l = under in
      passed_over ms n u t may d.partly (suc k) (omega arith)
      (subst (λ (x : ℕ). may < 2 ^ x) (add-one k) d.last_one)

  pub both_halves : {r : ℕ} {out : List ℕ} → FoundSoFar ms n (t + b + 2 ^ k) r out → FoundSoFar ms n (t + 2 ^ u) r out
  both_halves {r} {out} f =
      let l = under in
      let q : 2 ^ (k + 1) ≡ 2 ^ suc k = ap (λ (x : ℕ). 2 ^ x) (add-one k) in
      let e : t + b + 2 ^ k ≡ t + 2 ^ (k + 1) = omega (arith, d.its-number, q) in
      found-past d.last_one (subst (λ (x : ℕ). FoundSoFar ms n x r out) e f) u (omega arith) d.partly

  -- ---- it is left out

  pub goes-out : Partial ms n k t rest
  goes-out = rw (d.the_others, d.its-number) (left_out_lem ms n k t may before)

  out-member : (x i : ℕ) → bit (bit_or x b) i ≡ true → (bit x i ≡ true) ⊎ (i ≡ k)
  out-member x i h =
      elim (either (bit x i) (bit b i) (sym (bit-or x b i) ∙ h)) [
        | inl y ↦ inl y
        | inr y ↦ inr (eqb-true i k (sym (ap (λ (z : ℕ). bit z i) d.its-number ∙ bit-power k i) ∙ y))
      ]

  -- none between k and the decided ones fits those that are in: it could come in
  still-waits :
      (i : ℕ) → i < n → k ≤ i → eqb i k ≡ false → bit t i ≡ false → compatible (get_or ms i 0) t ≡ true →
      bit lone i ≡ true
  still-waits i a o e x y = elim (dec_lt i u) [
    | yes l ↦ clash (d.partly.may_come i ∙ and-on (ltb i u) _ (lt-ltb i u l) y)
        (bit_high (k + 1) may d.last_one i above)
    | no f ↦ d.waits.none_missed i a (omega arith) x y
  ]
    where
      above : k + 1 ≤ i
      above = elim (dec_lt k i) [ yes l ↦ omega arith | no f ↦ absurd (eqb-false i k e (omega arith)) ]

  pub waits-out : Waiting ms n k t (bit_or lone b)
  waits-out =
      let l = under in
      record {
        within = λ i h. elim (out-member lone i h) [ inl y ↦ d.waits.within i y | inr e ↦ rw e inside ];
        decided = λ i h. elim (out-member lone i h) [
          | inl y ↦ (let w = d.waits.decided i y in omega arith)
          | inr e ↦ omega arith
        ];
        left_out = λ i h. elim (out-member lone i h) [
          | inl y ↦ d.waits.left_out i y
          | inr e ↦ rw e (d.partly.undecided k l)
        ];
        fits = λ i h. elim (out-member lone i h) [ inl y ↦ d.waits.fits i y | inr e ↦ rw e fits_in ];
        none_missed = λ i a o x y. bit-or lone b i ∙ elim (decide (eqb i k)) [
          | inl e ↦ or_right (bit lone i) (bit b i) (ap (λ (z : ℕ). bit z i) d.its-number ∙ bit-power k i ∙ e)
          | inr e ↦ or_left (bit lone i) (bit b i) (still-waits i a o e x y)
        ];
      }

  -- of those asked about, each is one of these
  asked-out : (x i : ℕ) → bit (bit_or (bit_and lone x) b) i ≡ true → bit (bit_or lone b) i ≡ true
  asked-out x i h =
      bit-or lone b i
      ∙ elim (either (bit (bit_and lone x) i) (bit b i) (sym (bit-or (bit_and lone x) b i) ∙ h)) [
        | inl y ↦ or_left (bit lone i) (bit b i) (still-member lone x i y)
        | inr y ↦ or_right (bit lone i) (bit b i) y
      ]

  pub asked-within : (x i : ℕ) → bit (bit_or (bit_and lone x) b) i ≡ true → i < n
  asked-within x i h = waits-out.within i (asked-out x i h)

  -- what is found then, in the numbers after it
  module _ {r next : ℕ} {out after : List ℕ} (q : after ≡ out) (e : next ≡ r) where
    pub out-found : FoundSoFar ms n (t + 2 ^ k) r out → FoundSoFar ms n (t + b) next after
    out-found f = rw (q, e, d.its-number) f

    -- one of those asked about is stuck: nothing more
    pub out-stuck :
        (x : ℕ) → Stuck ms (bit_or (bit_and lone x) b) rest → FoundSoFar ms n t r out → FoundSoFar ms n (t + b) next after
    out-stuck x (i, h, c) f =
        let w = waits-out in
        let m = asked-out x i h in
        out-found
        (found_none ms n t r out f (2 ^ k)
        (stuck-none ms n k t rest goes-out i (w.within i m) (w.decided i m) (w.left_out i m) (w.fits i m) c))

  -- ---- it is taken in

  pub in-fits : n < most_sets → t + b < 2 ^ 64
  in-fits l =
      omega (arith, before.within, d.its-number, pow-lt {i = n} {j = 64} l, pow_pos k)

  module _ (s : Conflicts ms n) {fit left : ℕ} (q : fit ≡ rest - bit_and rest (get_or ms k 0))
      (e : left ≡ lone - bit_and lone (get_or ms k 0)) where
    pub comes-in : Partial ms n k (t + b) fit
    comes-in = rw (q, d.the_others, d.its-number) (taken_in ms n k t may before s d.comes)

    in-member : (i : ℕ) → bit left i ≡ true → (bit lone i ≡ true) × (conflict ms k i ≡ false)
    in-member i h =
        let (x, y) = both (bit lone i) (not (bit (get_or ms k 0) i))
        (sym (ap (λ (z : ℕ). bit z i) e ∙ bit-minus lone (get_or ms k 0) i) ∙ h) in
        (x, not-true (bit (get_or ms k 0) i) y)

    none-missed-in :
        (i : ℕ) → i < n → k ≤ i → bit (t + 2 ^ k) i ≡ false → compatible (get_or ms i 0) (t + 2 ^ k) ≡ true →
        bit left i ≡ true
    none-missed-in i a o x y =
        let (out, other) = neither-in ms n k t may before i x in
        let c : conflict ms k i ≡ false = s.turned k i inside a ∙ compatible-at (get_or ms i 0) (t + 2 ^ k) y k
        (in-has ms n k t may before) in
        ap (λ (z : ℕ). bit z i) e ∙ bit-minus lone (get_or ms k 0) i
        ∙ and-on (bit lone i) _ (still-waits i a o other out (fits-less ms n k t may before i y)) (rw c)

    pub waits_in : Waiting ms n k (t + b) left
    waits_in =
        let l = under in
        rw d.its-number (record {
          within = λ i h. d.waits.within i (in-member i h).0;
          decided = λ i h. (let w = d.waits.decided i (in-member i h).0 in omega arith);
          left_out = λ i h.
              (let x = (in-member i h).0 in
              let w = d.waits.decided i x in
              still-out ms n k t may before i (λ z. omega arith) (d.waits.left_out i x));
          fits = λ i h.
              (let (x, y) = in-member i h in
              all_fit ms n k t may before s d.comes i (d.waits.fits i x)
              (s.turned i k (d.waits.within i x) inside ∙ y));
          none_missed = none-missed-in;
        })

    -- one of them is stuck: nothing more is found
    pub in-stuck :
        Stuck ms left fit → {r : ℕ} {out : List ℕ} → FoundSoFar ms n (t + b) r out → FoundSoFar ms n (t + 2 ^ u) r out
    in-stuck (i, h, c) {r} {out} f =
        let w = waits_in in
        both_halves
        (found_none ms n (t + b) r out f (2 ^ k)
        (stuck-none ms n k (t + b) fit comes-in i (w.within i h) (w.decided i h) (w.left_out i h) (w.fits i h) c))
