-- The chain followed from a place: i places have been put down, and from the last of them it goes through the rest.
-- Assumes nothing.
use mathlib.Core.Path.{◌≡◌, sym, ap, subst, ◌∙◌}
use mathlib.Core.List.{List, ◌∷◌}
use Prim.Native.Nat.{ℕ, suc, ◌+◌, ◌<◌}
use native.Mathlib.Omega.{arith}
use native.Mathlib.Numerals.{add-one}
use lib.ListN.{length, get_or, take, drop, set}
use lib.Seq.{take-suc, take-suc-set, drop-cons, take_all}
use Rattle.table_sets.specs.ChainForms.{Reaches, AlongChain}

-- of any places l that the chain goes through from p, k of them: the first i are put down in ms, and the chain goes on
-- from x
abbrev pub FollowedTo : List ℕ → ℕ → ℕ → ℕ → ℕ → List ℕ → Type 0
FollowedTo ch p k i x ms =
    (l : List ℕ) → Reaches ch p l → length l ≡ k → (take i ms ≡ take i l) × Reaches ch x (drop i l)

pub followed-more :
    (ch : List ℕ) (p k i x y : ℕ) (ms : List ℕ) → i < k → i < length ms → y ≡ get_or ch x 0 →
    FollowedTo ch p k i x ms → FollowedTo ch p k (i + 1) y (set ms i y)
followed-more ch p k i x y ms few fits e h l r long =
    let (front, rest) = h l r long in
    let opened : drop i l ≡ get_or l i 0 ∷ drop (suc i) l = drop-cons l i 0 (omega arith) in
    let (here, more) = subst (Reaches ch x) opened rest in
    let same : y ≡ get_or l i 0 = e ∙ here in
    rw (add-one) (
      take-suc-set ms i y fits ∙ rw (front, same) (sym (take-suc l i 0 (omega arith))),
      rw same more,
    )

pub followed-all :
    (ch : List ℕ) (p k i x : ℕ) (ms : List ℕ) → i ≡ k → FollowedTo ch p k i x ms → AlongChain ch p k ms
followed-all ch p k i x ms e h l r long =
    ap (λ (j : ℕ). take j ms) (sym e) ∙ (h l r long).0 ∙ take_all i l (omega arith)
