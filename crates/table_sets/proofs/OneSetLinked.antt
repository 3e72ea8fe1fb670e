-- One Set more is put before those that stand behind it: the chain of its Create starts with it then, and no other
-- chain changes. Assumes nothing.
use mathlib.Core.Path.{◌≡◌, sym, ap, subst, ◌∙◌}
use mathlib.Core.Bool.{Bool, true, false, ◌&&◌}
use mathlib.Core.List.{List, [], ◌∷◌}
use Prim.Native.Nat.{ℕ, ◌+◌, ◌-◌, ◌≤◌, ◌<◌}
use native.Mathlib.Omega.{arith}
use native.Mathlib.Decide.{ℕ_discrete}
use lib.ListN.{length, get_or, set, length-set}
use lib.Seq.{get_or-set_same, get_or-set_other}
use lib.Dec.{eqb}
use borrow.Author.Tests.{eq-eqb, ne_eqb}
use Rattle.math_lists.specs.NumbersBelow.{keep}
use Rattle.math_lists.proofs.Booleans.{clash}
use Rattle.edit_record.specs.Answer1.{is_create, is_set}
use Rattle.edit_record.proofs.WellFormed.{set-not-create}
use Rattle.edit_history.specs.EditsHeld.{record_at}
use Rattle.edit_walk.specs.WalkForms.{place_of, Indexed}
use Rattle.table_soundness.specs.SoundnessForms.{Targeted}
use Rattle.table_soundness.proofs.SetTallies.{aims-is}
use Rattle.table_index.specs.IndexForms.{is_on, places_on}
use Rattle.table_sets.specs.ChainForms.{Reaches, Chained}
use Rattle.group_named.proofs.NumbersFrom.{from, Above, from-above, from_first, from_more, from-same, from-none}

-- ---- what is written elsewhere

-- a place that stands before all that the chain goes through
stays :
    (ch : List ℕ) (a v x : ℕ) (l : List ℕ) → (x ≡ a → ⊥) → Above a l → Reaches ch x l → Reaches (set ch a v) x l
stays ch a v x [] d above r = tt
stays ch a v x (y ∷ l) d (h, above) (e, r) =
    (get_or-set_other ch a x v 0 d ∙ e, stays ch a v y l (λ z. omega arith) above r)

-- ---- the Set in place q put before those of the Create in place p, which stand behind it

abbrev pub put : List ℕ → ℕ → ℕ → List ℕ
put ch p q = set (set ch q (get_or ch p 0)) p q

module _ (ch : List ℕ) (p q : ℕ) (less : p < q) (fits : q < length ch) where
  -- another chain
  other :
      (x : ℕ) (l : List ℕ) → (x ≡ p → ⊥) → (x ≡ q → ⊥) → Above q l → Above p l → Reaches ch x l →
      Reaches (put ch p q) x l
  other x l d d' above above' r =
      stays (set ch q (get_or ch p 0)) p q x l d above' (stays ch q (get_or ch p 0) x l d' above r)

  behind : (l : List ℕ) → Above q l → Above p l → Reaches ch p l → Reaches (put ch p q) q l
  behind [] above above' r = tt
  behind (y ∷ l) (h, above) (h', above') (e, r) = (
    get_or-set_other (set ch q (get_or ch p 0)) p q q 0 (λ z. omega arith) ∙ get_or-set_same ch q (get_or ch p 0) 0 fits ∙ e,
    other y l (λ z. omega arith) (λ z. omega arith) above above' r,
  )

  own : (l : List ℕ) → Above q l → Above p l → Reaches ch p l → Reaches (put ch p q) p (q ∷ l)
  own l above above' r = (
    get_or-set_same (set ch q (get_or ch p 0)) p q 0 (simp length-set (omega arith)),
    behind l above above' r,
  )

-- ---- the chain from each Create through the Sets on it from place i on

abbrev pub LinkedFrom : List ℕ → ℕ → ℕ → List ℕ → Type 0
LinkedFrom rs n i ch =
    (x : ℕ) → x < n → is_create (record_at rs x) ≡ true → Reaches ch x (from (is_on rs x) i (n - i))

pub linked-none : (rs : List ℕ) (n : ℕ) (ch : List ℕ) → LinkedFrom rs n n ch
linked-none rs n ch x l create = rw (from-none (is_on rs x) n) tt

pub linked-all : (rs : List ℕ) (n i : ℕ) (ch : List ℕ) → i ≡ 0 → LinkedFrom rs n i ch → Chained rs n ch
unfolding places_on
linked-all rs n i ch e h x l create =
    let all : n - i ≡ n = omega arith in
    let f = is_on rs x in
    let whole : from f i (n - i) ≡ keep n f
    = ap (λ (j : ℕ). from f j (n - i)) e ∙ ap (from f 0) all ∙ from_first f n in
    subst (Reaches ch x) whole (h x l create)

-- a record that is no Set
pub not-linked :
    (rs : List ℕ) (n q : ℕ) (ch : List ℕ) → q < n → is_set (record_at rs q) ≡ false → LinkedFrom rs n (q + 1) ch →
    LinkedFrom rs n q ch
not-linked rs n q ch l unset h x m create =
    let f = is_on rs x in
    let none : f q ≡ false = rw unset in
    subst (Reaches ch x) (sym (from-same f q n l none)) (h x m create)

module _ (rs ps : List ℕ) (n : ℕ) (index : Indexed rs n ps) (targets : Targeted rs n) where
  -- a Set
  module _ (q : ℕ) (l : q < n) (kind : is_set (record_at rs q) ≡ true) where
    abbrev pub aim : ℕ
    aim = place_of ps (record_at rs q).tsite.0 (record_at rs q).tseq.0

    pub aim-before : aim < q
    aim-before =
        let (k, less, _, u, v) = targets q l kind in
        let e : aim ≡ k = rw (u, v) at (index k (omega arith)) in
        omega arith

    on-aim : (x : ℕ) → x < n → is_on rs x q ≡ eqb aim x
    on-aim x m = sym (aims-is rs ps n index targets x q m l) ∙ ap (λ (b : Bool). b && eqb aim x) kind

    pub linked :
        (ch : List ℕ) → n ≤ length ch → LinkedFrom rs n (q + 1) ch → LinkedFrom rs n q (put ch aim q)
    linked ch fits h x m create = go (ℕ_discrete x aim)
      where
        f : ℕ → Bool
        f = is_on rs x

        rest : List ℕ
        rest = from f (q + 1) (n - (q + 1))

        above : Above q rest
        above = from-above f q (q + 1) (n - (q + 1)) (omega arith)

        above' : Above aim rest
        above' = from-above f aim (q + 1) (n - (q + 1)) (omega (arith, aim-before))

        go : Dec (x ≡ aim) → Reaches (put ch aim q) x (from f q (n - q))
        go (yes e) =
            let on : f q ≡ true = on-aim x m ∙ eq-eqb aim x (sym e) in
            subst (Reaches (put ch aim q) x) (sym (from_more f q n l on))
            (subst (λ (z : ℕ). Reaches (put ch aim q) z (q ∷ rest)) (sym e)
            (own ch aim q aim-before (omega arith) rest above above'
            (subst (λ (z : ℕ). Reaches ch z rest) e (h x m create))))
        go (no d) =
            let off : f q ≡ false = on-aim x m ∙ ne_eqb aim x (λ e. d (sym e)) in
            subst (Reaches (put ch aim q) x) (sym (from-same f q n l off))
            (other ch aim q aim-before (omega arith) x rest d
            (λ e. clash create (rw e (set-not-create (record_at rs q) kind))) above above' (h x m create))
