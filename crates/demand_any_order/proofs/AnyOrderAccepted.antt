-- Demand 3, acceptance: a list of edits is accepted throughout exactly when it is settled and its order is causal; so
-- the records of an accepted replay are accepted in every causal order. Assumes at most 16 sites, and for a replay at
-- least 1.
use mathlib.Core.Path.{◌≡◌, refl, ap₂, ◌∙◌}
use mathlib.Core.Logic.{◌↔◌}
use mathlib.Core.List.{List, [], ◌∷◌, ◌++◌, map, map-append}
use Prim.Native.Nat.{ℕ, zero, suc, ◌≤◌}
use Rattle.edit_record.specs.declared.Edit.{Edit}
use Rattle.edit_record.specs.Layout.{most_sites}
use Rattle.edit_record.specs.RecordBytes.{decode_of}
use Rattle.table_given.specs.Replay.{replay_of, edits_in}
use Rattle.math_lists.specs.Rearranged.{Rearranged}
use Rattle.demand_any_order.specs.Records.{records_of}
use Rattle.demand_any_order.specs.Settled.{AllAccepted, Causal, Settled}
use Rattle.math_lists.proofs.Rearranged.{turned, same-members, made-rearranged}
use Rattle.demand_any_order.proofs.AcceptedSettled.{accepted-settled, accepted-causal}
use Rattle.demand_any_order.proofs.SettledAccepted.{settled-accepted}
use Rattle.demand_any_order.proofs.SettledAnyOrder.{settled-in-any-order}
use Rattle.demand_any_order.proofs.ReplayAccepted.{refuses-none-exactly}

-- ---- lists of edits

pub accepted-exactly : (n : ℕ) → n ≤ most_sites → (es : List Edit) → AllAccepted n es ↔ (Settled n es × Causal es)
accepted-exactly n few es = (
  (λ a. (accepted-settled n few es a, accepted-causal n few es a)),
  (λ (s, c). settled-accepted n few es s c),
)

any_order :
    (n : ℕ) → n ≤ most_sites → (es fs : List Edit) → Rearranged es fs → Causal fs → AllAccepted n es → AllAccepted n fs
any_order n few es fs r c a =
    settled-accepted n few fs
    (settled-in-any-order n few es fs r (accepted-settled n few es a) (accepted-causal n few es a) c) c

-- ---- records

edits-decoded : (rs : ℕ → List ℕ) (n : ℕ) → map decode_of (records_of rs n) ≡ edits_in rs n
unfolding records_of edits_in
edits-decoded rs zero = refl
edits-decoded rs (suc n) =
    map-append decode_of (records_of rs n) (rs n ∷ [])
    ∙ ap₂ (λ (es : List Edit) (e : Edit). es ++ (e ∷ [])) (edits-decoded rs n) refl

pub edits-rearranged :
    (rs rs' : ℕ → List ℕ) (n : ℕ) → Rearranged (records_of rs n) (records_of rs' n) →
    Rearranged (edits_in rs n) (edits_in rs' n)
edits-rearranged rs rs' n r = rw (← edits-decoded rs n, ← edits-decoded rs' n) (made-rearranged decode_of r)

-- the same records in another order, each after those that its author had seen, are accepted too
pub any-order-accepted :
    (sites : ℕ) → 1 ≤ sites → sites ≤ most_sites → (rs rs' : ℕ → List ℕ) (n : ℕ) →
    Rearranged (records_of rs n) (records_of rs' n) → Causal (edits_in rs' n) →
    (replay_of sites rs n).answer ≡ 0 → (replay_of sites rs' n).answer ≡ 0
any-order-accepted sites some few rs rs' n r c h =
    let (whole, all) = (refuses-none-exactly sites some few rs n).0 h in
    (refuses-none-exactly sites some few rs' n).1 (
      (λ b m. whole b (same-members (turned r) b m)),
      any_order sites few (edits_in rs n) (edits_in rs' n) (edits-rearranged rs rs' n r) c all,
    )
