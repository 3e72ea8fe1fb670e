-- The edit that decides where an object stands: it is the object's Create or a to-top on it, and those of two objects
-- never are one edit, so that one ranks before the other. Assumes that no identity stands twice and that of any two
-- edits one ranks before the other.
use mathlib.Core.Path.{◌≡◌, refl, sym, subst, ◌∙◌}
use mathlib.Core.Logic.{◌⊎◌, inl, inr}
use mathlib.Core.Bool.{Bool, true, false, cond}
use mathlib.Core.List.Memᴰ
use mathlib.Core.List.{List, [], ◌∷◌, map}
use Rattle.math_lists.specs.SortedLists.{filter, Asc}
use Rattle.math_lists.proofs.Booleans.{clash}
use Rattle.math_lists.proofs.PutInOrder.{OneWay, gathered-sorted}
use Rattle.edit_record.specs.declared.Edit.{Edit}
use Rattle.edit_record.specs.Answer1.{is_create, is_top}
use Rattle.edit_causal.specs.Causal.{same_edit}
use Rattle.edit_causal.specs.TotalOrder.{ranks_before}
use Rattle.edit_causal.proofs.Identities.{same_parts}
use Rattle.edit_causal.proofs.CausalLaws.{same-reflexive}
use Rattle.edit_history.specs.EditsHeld.{creates}
use Rattle.math_lists.specs.Rearranged.{Mem}
use Rattle.group_true.specs.Identities.{Differ, AllDiffer}
use Rattle.math_lists.proofs.Rearranged.{turned, same-members}
use Rattle.math_lists.proofs.ListMembers.{chosen_at, chosen_on}
use Rattle.math_lists.proofs.PairsInList.{pairs-two, pairs-chosen, pairs-weaken}
use Rattle.list_version.proofs.RanksStrict.{ranks-through}
use Rattle.list_order.specs.Layers.{is_on, in_order, last_on, deciding}
use Rattle.math_lists.proofs.Choices.{pairs-unmade}
use Rattle.math_lists.proofs.PutTogether.{gathered-rearranged}
use Rattle.list_order.proofs.Comparing.{one-way-turned, create-not-top}
use Rattle.list_order.proofs.Standing.{OneRanks}

-- ---- edits in the total order

abbrev pub Ranked : Edit → Edit → Type 0
Ranked a b = ranks_before a b ≡ true

abbrev pub AllRanked : List Edit → Type 0
AllRanked es = Asc (OneWay ranks_before) es

pub in-order-sorted : (es : List Edit) → AllRanked es → Asc Ranked (in_order es)
unfolding in_order
in-order-sorted es a =
    gathered-sorted ranks_before ranks-through [] es tt a (λ x y m w. absurd (Memᴰ.not-nil w))

-- the edits that pass a test, in the total order
module _ (counts : Edit → Bool) (es : List Edit) where
  pub counted-sorted : AllRanked es → Asc Ranked (in_order (filter counts es))
  counted-sorted ranked = in-order-sorted (filter counts es) (pairs-chosen (OneWay ranks_before) counts es ranked)

  pub counted-at : (e : Edit) → Mem e (in_order (filter counts es)) → Mem e es × (counts e ≡ true)
  unfolding in_order
  counted-at e m = chosen_at counts e es (same-members (gathered-rearranged ranks_before (filter counts es)) e m)

  pub counted-on : (e : Edit) → Mem e es → counts e ≡ true → Mem e (in_order (filter counts es))
  unfolding in_order
  counted-on e m h = same-members (turned (gathered-rearranged ranks_before (filter counts es))) e (chosen_on counts m h)

-- ---- the last edit on an object

last-cases :
    (c m : Edit) (ls : List Edit) →
    (last_on c m ls ≡ m) ⊎ (Mem (last_on c m ls) ls × (is_on c (last_on c m ls) ≡ true))
unfolding last_on
last-cases c m [] = inl refl
last-cases c m (e ∷ ls) = go (is_on c e) refl (last-cases c (cond (is_on c e) e m) ls)
  where
    go : (b : Bool) → is_on c e ≡ b →
        (last_on c (cond b e m) ls ≡ cond b e m)
        ⊎ (Mem (last_on c (cond b e m) ls) ls × (is_on c (last_on c (cond b e m) ls) ≡ true)) →
        (last_on c (cond b e m) ls ≡ m)
        ⊎ (Mem (last_on c (cond b e m) ls) (e ∷ ls) × (is_on c (last_on c (cond b e m) ls) ≡ true))
    go true h (inl q) = inr (Memᴰ.head q, rw q h)
    go false h (inl q) = inl q
    go b h (inr (k, on)) = inr (Memᴰ.tail k, on)

-- two objects that one edit is on are one
pub one-aim : (a b e : Edit) → is_on a e ≡ true → is_on b e ≡ true → same_edit a.site a.seq b.site b.seq ≡ true
one-aim a b e h k =
    let (p, q) = same_parts e.tsite e.tseq a.site a.seq h in
    let (r, s) = same_parts e.tsite e.tseq b.site b.seq k in
    rw (← p, ← q, ← r, ← s) (same-reflexive e.tsite e.tseq)

-- ---- what decides

module _ (es : List Edit) where
  -- the Create, or a to-top on the object
  abbrev pub Decides : Edit → Edit → Type 0
  Decides c d = (d ≡ c) ⊎ (Mem d es × (is_top d ≡ true) × (is_on c d ≡ true))

  pub deciding-cases : (c : Edit) → Decides c (deciding es c)
  unfolding deciding
  deciding-cases c = elim (last-cases c c (in_order (filter is_top es))) [
    | inl e ↦ inl e
    | inr (m, on) ↦ (let (k, h) = counted-at is_top es (last_on c c (in_order (filter is_top es))) m in inr (k, h, on))
  ]

  pub deciding-held : (c : Edit) → Mem c es → Mem (deciding es c) es
  deciding-held c m = elim (deciding-cases c) [ inl e ↦ rw e m | inr (k, h, on) ↦ k ]

  -- no to-top decides: the Create does
  pub rest-by-create : (c : Edit) → is_top (deciding es c) ≡ false → deciding es c ≡ c
  rest-by-create c h = elim (deciding-cases c) [ inl e ↦ e | inr (m, k, on) ↦ clash k h ]

  apart : (a b d : Edit) → is_create a ≡ true → is_create b ≡ true → Differ a b → Decides a d → Decides b d → ⊥
  apart a b d ca cb differ (inl p) (inl q) =
      let same : a ≡ b = sym p ∙ q in
      clash (same-reflexive b.site b.seq) (rw same at differ)
  apart a b d ca cb differ (inl p) (inr (m, k, on)) = clash (rw p at k) (create-not-top a ca)
  apart a b d ca cb differ (inr (m, k, on)) (inl q) = clash (rw q at k) (create-not-top b cb)
  apart a b d ca cb differ (inr (m, k, on)) (inr (n, l, at)) = clash (one-aim a b d on at) differ

  module _ (u : AllDiffer es) (ranked : AllRanked es) where
    pub deciding-ranked : Asc (OneRanks (deciding es)) (creates es)
    unfolding creates
    deciding-ranked =
        pairs-weaken Differ (OneRanks (deciding es)) (filter is_create es)
        (λ a b m k d.
        let (ma, ca) = chosen_at is_create a es m in
        let (mb, cb) = chosen_at is_create b es k in
        elim (pairs-two (OneWay ranks_before) one-way-turned es ranked (deciding es a) (deciding es b)
        (deciding-held a ma) (deciding-held b mb)) [
          | inl e ↦ absurd (apart a b (deciding es b) ca cb d (rw e at (deciding-cases a)) (deciding-cases b))
          | inr w ↦ w
        ])
        (pairs-chosen Differ is_create es u)

    -- ---- of objects by any names

    pub named-ranked :
        {A : Type 0} (create_of : A → Edit) (xs : List A) → map create_of xs ≡ creates es →
        Asc (OneRanks (λ x. deciding es (create_of x))) xs
    named-ranked create_of xs e =
        pairs-unmade create_of (OneRanks (deciding es)) xs
        (subst (λ (cs : List Edit). Asc (OneRanks (deciding es)) cs) (sym e) deciding-ranked)

  pub named-held :
      {A : Type 0} (create_of : A → Edit) (xs : List A) → map create_of xs ≡ creates es →
      (x : A) → Mem x xs → Mem (create_of x) (creates es)
  named-held create_of xs e x m = subst (λ (cs : List Edit). Mem (create_of x) cs) e (Memᴰ.map create_of m)
