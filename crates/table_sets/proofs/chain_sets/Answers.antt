-- `table_sets::chain_sets` meets its contract: the chain goes through the Sets that stand behind those still to come.
-- Assumes nothing.
use mathlib.Core.Path.{◌≡◌, refl, sym, ap, subst, ◌∙◌}
use mathlib.Core.Bool.{Bool, ◌||◌}
use mathlib.Core.List.{List}
use Prim.Native.Nat.{ℕ, ◌+◌, ◌-◌, ◌<◌}
use native.Mathlib.Omega.{arith}
use lib.Dec.{eqb}
use Rattle.edit_record.specs.Layout.{set_kind, limited_kind}
use Rattle.edit_record.specs.Answer1.{is_set}
use Rattle.edit_history.specs.EditsHeld.{record_at}
use Rattle.table_sets.proofs.OneSetLinked.{put, LinkedFrom, linked-none, linked-all, not-linked}
use Rattle.table_sets.proofs.OneSetLinked.{aim-before, linked}
use Rattle.table_sets.proofs.chain_sets.Goals as goal

-- what the byte of the kind tells
told :
    (rs : List ℕ) (q kind : ℕ) (b : Bool) → kind ≡ (record_at rs q).kind →
    b ≡ (eqb kind set_kind || eqb kind limited_kind) → is_set (record_at rs q) ≡ b
told rs q kind b e h = ap (λ (x : ℕ). eqb x set_kind || eqb x limited_kind) (sym e) ∙ sym h

-- from the place before i
before : (rs : List ℕ) (n i : ℕ) (ch : List ℕ) → 0 < i → LinkedFrom rs n i ch → LinkedFrom rs n ((i - 1) + 1) ch
before rs n i ch l h =
    let e : i ≡ (i - 1) + 1 = omega arith in
    subst (λ (j : ℕ). LinkedFrom rs n j ch) e h

pub loop-q-init : goal.loop-q-init
loop-q-init c =
    let a = c.args in
    (refl, linked-none a.recs.now a.n a.chain.now)

pub link-requires : goal.link-requires
link-requires c =
    let b = c in
    let l = b.loop-q in
    let s = b in
    let a = s.args in
    let q = l.q - 1 in
    let kind = told a.recs.now q _ _ b.kind_at-kind.ensures b.is_set_kind.ensures
    ∙ c.if-is_set_kind.true in
    let less = aim-before a.recs.now a.places.now a.n s.requires.2 s.requires.3 q (omega arith) kind in (
      omega (arith, c.target_place-p.ensures, less, l.invariant.0, s.requires.1),
      omega (arith, l.invariant.0, s.requires.1),
      omega (arith, s.requires.0),
    )

pub loop-q-preserved-then-is_set_kind : goal.loop-q-preserved-then-is_set_kind
loop-q-preserved-then-is_set_kind c =
    let b = c in
    let l = b.loop-q in
    let s = b in
    let a = s.args in
    let q = l.q - 1 in
    let rs = a.recs.now in
    let kind = told rs q _ _ b.kind_at-kind.ensures b.is_set_kind.ensures
    ∙ c.if-is_set_kind.true in
    let k = c.link in
    let next = linked rs a.places.now a.n s.requires.2 s.requires.3 q (omega arith) kind l.chain
    (omega (arith, l.invariant.0, s.requires.1)) (before rs a.n l.q l.chain (omega arith) l.invariant.1) in
    let made = k.ensures
    ∙ ap (λ (p : ℕ). put l.chain p q) c.target_place-p.ensures in
    (k.auto.chain ∙ l.invariant.0, subst (LinkedFrom rs a.n q) (sym made) next)

pub loop-q-preserved : goal.loop-q-preserved
loop-q-preserved c =
    let a = c.args in
    let l = c.loop-q in
    let q = l.q - 1 in
    let rs = a.recs.now in
    let kind = told rs q _ _ c.kind_at-kind.ensures c.is_set_kind.ensures ∙ c.if-is_set_kind.false in (
      l.invariant.0,
      not-linked rs a.n q l.chain (omega arith) kind
          (before rs a.n l.q l.chain (omega arith) l.invariant.1),
    )

pub shape_of-chain : goal.shape_of-chain
shape_of-chain c = c.loop-q.invariant.0

pub returns : goal.returns
returns c =
    let a = c.args in
    let l = c.loop-q in
    linked-all a.recs.now a.n l.q l.chain (omega arith) l.invariant.1
