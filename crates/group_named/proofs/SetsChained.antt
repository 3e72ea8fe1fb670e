-- One record more is put into the chain, from the back: the chain of its Create starts with it then if it is a Set, and
-- no other chain changes. Assumes nothing.
use mathlib.Core.Path.{◌≡◌, sym, ap, subst, ◌∙◌}
use mathlib.Core.Logic.{◌⊎◌, inl, inr}
use mathlib.Core.Bool.{Bool, true, false, ◌&&◌, cond}
use mathlib.Core.List.{List, [], ◌∷◌}
use Prim.Native.Nat.{ℕ, ◌+◌, ◌-◌, ◌≤◌, ◌<◌}
use native.Mathlib.Omega.{arith}
use native.Mathlib.Decide.{ℕ_discrete}
use lib.ListN.{length, get_or, set, length-set}
use lib.Seq.{get_or-set_same, get_or-set_other}
use lib.Dec.{eqb, ltb}
use borrow.Author.Tests.{eq-eqb, ne_eqb, eqb-true, lt-ltb}
use Rattle.math_lists.specs.NumbersBelow.{keep}
use Rattle.math_lists.proofs.Booleans.{clash, decide, same_test, both, and-on}
use Rattle.edit_record.specs.Answer1.{is_create, is_set}
use Rattle.edit_record.proofs.WellFormed.{set-not-create}
use Rattle.edit_causal.specs.Causal.{same_edit}
use Rattle.edit_history.specs.EditsHeld.{record_at}
use Rattle.edit_walk.specs.WalkForms.{Indexed}
use Rattle.group_named.specs.ChainForms.{put, aim_of, linked_with, Follows, is_on, ByteChained, TargetsHeld}
use Rattle.group_named.proofs.NumbersFrom.{from, Above, from-above, from_first, from_more, from-same, from-none}

-- ---- what is written elsewhere

-- before all places that the chain goes through
stays : (ch : List ℕ) (a v w : ℕ) (l : List ℕ) → Above a l → Follows ch w l → Follows (set ch a v) w l
stays ch a v w [] above r = r
stays ch a v w (y ∷ l) (h, above) (e, some, r) = (
  e,
  some,
  subst (λ (z : ℕ). Follows (set ch a v) z l) (sym (get_or-set_other ch a y v 0 (λ z. omega arith)))
      (stays ch a v (get_or ch y 0) l above r),
)

-- ---- the Set in place q put before those of the Create in place p, which stand behind it

module _ (ch : List ℕ) (p q : ℕ) (less : p < q) (fits : q < length ch) where
  kept : (w : ℕ) (l : List ℕ) → Above q l → Above p l → Follows ch w l → Follows (put ch p q) w l
  kept w l above above' r =
      stays (set ch q (get_or ch p 0)) p q w l above' (stays ch q (get_or ch p 0) w l above r)

  -- another chain
  other :
      (x : ℕ) (l : List ℕ) → (x ≡ p → ⊥) → (x ≡ q → ⊥) → Above q l → Above p l → Follows ch (get_or ch x 0) l →
      Follows (put ch p q) (get_or (put ch p q) x 0) l
  other x l d d' above above' r =
      subst (λ (z : ℕ). Follows (put ch p q) z l)
      (sym
      (get_or-set_other (set ch q (get_or ch p 0)) p x q 0 d ∙ get_or-set_other ch q x (get_or ch p 0) 0 d'))
      (kept (get_or ch x 0) l above above' r)

  own :
      (l : List ℕ) → Above q l → Above p l → Follows ch (get_or ch p 0) l →
      Follows (put ch p q) (get_or (put ch p q) p 0) (q ∷ l)
  own l above above' r = (
    get_or-set_same (set ch q (get_or ch p 0)) p q 0 (simp length-set (omega arith)),
    omega arith,
    subst (λ (z : ℕ). Follows (put ch p q) z l)
        (sym
        (get_or-set_other (set ch q (get_or ch p 0)) p q q 0 (λ z. omega arith)
        ∙ get_or-set_same ch q (get_or ch p 0) 0 fits))
        (kept (get_or ch p 0) l above above' r),
  )

-- ---- the chain from each Create through the Sets on it from place i on

abbrev pub ByteLinkedFrom : List ℕ → ℕ → ℕ → List ℕ → Type 0
ByteLinkedFrom rs n i ch =
    (x : ℕ) → x < n → is_create (record_at rs x) ≡ true → Follows ch (get_or ch x 0) (from (is_on rs x) i (n - i))

pub linked-none : (rs : List ℕ) (n : ℕ) (ch : List ℕ) → ((i : ℕ) → i < n → get_or ch i 0 ≡ 0) → ByteLinkedFrom rs n n ch
linked-none rs n ch zeros x l create = rw (from-none (is_on rs x) n) (zeros x l)

pub linked-all : (rs : List ℕ) (n i : ℕ) (ch : List ℕ) → i ≡ 0 → ByteLinkedFrom rs n i ch → ByteChained rs n ch
linked-all rs n i ch e h x l create =
    let all : n - i ≡ n = omega arith in
    let f = is_on rs x in
    let whole : from f i (n - i) ≡ keep n f
    = ap (λ (j : ℕ). from f j (n - i)) e ∙ ap (from f 0) all ∙ from_first f n in
    subst (Follows ch (get_or ch x 0)) whole (h x l create)

-- a record that is no Set
not-linked :
    (rs : List ℕ) (n q : ℕ) (ch : List ℕ) → q < n → is_set (record_at rs q) ≡ false → ByteLinkedFrom rs n (q + 1) ch →
    ByteLinkedFrom rs n q ch
not-linked rs n q ch l unset h x m create =
    let f = is_on rs x in
    let none : f q ≡ false = rw unset in
    subst (Follows ch (get_or ch x 0)) (sym (from-same f q n l none)) (h x m create)

module _ (rs ps : List ℕ) (n : ℕ) (index : Indexed rs n ps) (targets : TargetsHeld rs n) (q : ℕ) (l : q < n) where
  abbrev aim : ℕ
  aim = aim_of rs ps q

  -- a Set
  module _ (kind : is_set (record_at rs q) ≡ true) where
    aim-before : aim < q
    aim-before =
        let (k, less, _, u, v) = targets q l kind in
        let e : aim ≡ k = rw (u, v) at (index k (omega arith)) in
        omega arith

    on-aim : (x : ℕ) → x < n → is_on rs x q ≡ eqb aim x
    on-aim x m =
        let e = record_at rs q in
        let a = record_at rs x in
        let (k, less, _, u, v) = targets q l kind in
        let here : aim ≡ k = rw (u, v) at (index k (omega arith)) in
        same_test (is_on rs x q) (eqb aim x)
        (λ h. let (_, on) = both (is_set e) (same_edit e.tsite e.tseq a.site a.seq) h in
        let (s, t) = both (eqb e.tsite.0 a.site.0) (eqb e.tseq.0 a.seq.0) on in
        let es = eqb-true e.tsite.0 a.site.0 s in
        let et = eqb-true e.tseq.0 a.seq.0 t in
        eq-eqb aim x (rw (← es, ← et) at (index x m)))
        (λ h. let same : k ≡ x = sym here ∙ eqb-true aim x h in
        and-on (is_set e) (same_edit e.tsite e.tseq a.site a.seq) kind
        (and-on (eqb e.tsite.0 a.site.0) (eqb e.tseq.0 a.seq.0)
        (eq-eqb e.tsite.0 a.site.0 (sym u ∙ ap (λ (y : ℕ). (record_at rs y).site.0) same))
        (eq-eqb e.tseq.0 a.seq.0 (sym v ∙ ap (λ (y : ℕ). (record_at rs y).seq.0) same))))

    linked : (ch : List ℕ) → n ≤ length ch → ByteLinkedFrom rs n (q + 1) ch → ByteLinkedFrom rs n q (put ch aim q)
    linked ch fits h x m create = go (ℕ_discrete x aim)
      where
        f : ℕ → Bool
        f = is_on rs x

        rest : List ℕ
        rest = from f (q + 1) (n - (q + 1))

        above : Above q rest
        above = from-above f q (q + 1) (n - (q + 1)) (omega arith)

        above' : Above aim rest
        above' = from-above f aim (q + 1) (n - (q + 1)) (omega (arith, aim-before))

        go : Dec (x ≡ aim) → Follows (put ch aim q) (get_or (put ch aim q) x 0) (from f q (n - q))
        go (yes e) =
            let on : f q ≡ true = on-aim x m ∙ eq-eqb aim x (sym e) in
            subst (Follows (put ch aim q) (get_or (put ch aim q) x 0)) (sym (from_more f q n l on))
            (subst (λ (z : ℕ). Follows (put ch aim q) (get_or (put ch aim q) z 0) (q ∷ rest)) (sym e)
            (own ch aim q aim-before (omega arith) rest above above'
            (subst (λ (z : ℕ). Follows ch (get_or ch z 0) rest) e (h x m create))))
        go (no d) =
            let off : f q ≡ false = on-aim x m ∙ ne_eqb aim x (λ e. d (sym e)) in
            subst (Follows (put ch aim q) (get_or (put ch aim q) x 0)) (sym (from-same f q n l off))
            (other ch aim q aim-before (omega arith) x rest d
            (λ e. clash create (rw e (set-not-create (record_at rs q) kind))) above above' (h x m create))

  -- any record
  pub linked-with :
      (ch : List ℕ) → n ≤ length ch → ByteLinkedFrom rs n (q + 1) ch → ByteLinkedFrom rs n q (linked_with rs ps q ch)
  unfolding linked_with
  linked-with ch fits h = go (decide (is_set (record_at rs q)))
    where
      go : (is_set (record_at rs q) ≡ true) ⊎ (is_set (record_at rs q) ≡ false) →
          ByteLinkedFrom rs n q (cond (is_set (record_at rs q) && ltb aim q) (put ch aim q) ch)
      go (inl set) = rw (set, lt-ltb aim q (aim-before set)) (linked set ch fits h)
      go (inr unset) = rw unset (not-linked rs n q ch l unset h)
