-- Tables u of a later moment than t: the objects of t keep their numbers and their Creates, and the list of the Sets of
-- each only grows at its end, so that they keep their numbers too. Arrivals lead to such tables, and so does a replay
-- that goes on. Assumes that t is faithful.
use mathlib.Core.Path.{◌≡◌, refl, sym, ap, subst, ◌∙◌}
use mathlib.Core.Bool.{Bool, true, false, cond}
use mathlib.Core.List.{List, [], ◌∷◌, ◌++◌, append-nil, append_assoc}
use Prim.Native.Nat.{ℕ, zero, suc, ◌≤◌, ◌<◌}
use native.Mathlib.Omega.{arith}
use native.Mathlib.Decide.{dec_lt}
use lib.Dec.{eqb}
use Rattle.math_lists.proofs.GrownAtEnd.{filter-snoc}
use Rattle.edit_record.specs.declared.Edit.{Edit}
use Rattle.edit_record.specs.Layout.{most_sites}
use Rattle.edit_record.specs.RecordBytes.{decode_of}
use Rattle.edit_history.specs.EditsHeld.{is_set_on, sets_on}
use Rattle.table_drawing.specs.Tables.{Tables, held_by}
use Rattle.table_drawing.specs.AnswerNumbers.{Outcome, outcome_of}
use Rattle.table_soundness.proofs.SoundFacts.{sound-on}
use Rattle.table_arrival.specs.Answers6and7.{answer_to}
use Rattle.table_arrival.specs.Arrival.{taken, acceptance_of, arrival_of}
use Rattle.table_arrival.proofs.Faithful.{Faithful, acceptance-faithful}
use Rattle.table_given.specs.Replay.{one_more, replay_of}
use Rattle.table_given.proofs.ReplayFaithful.{replay-faithful}
use Rattle.list_objects.specs.Objects.{create_of, sets_for}
use Rattle.demand_list.specs.OtherBoxes.{own_of}
use Rattle.demand_list.proofs.OtherBoxes.{LeavesOthers, leaves}
use Rattle.demand_growth.specs.Versions.{arrivals}

pub record Later (t u : Tables) : Type 0 where
  pub objects : t.counters.objects ≤ u.counters.objects
  pub creates : (o : ℕ) → o < t.counters.objects → create_of u o ≡ create_of t o
  pub sets : (o : ℕ) → o < t.counters.objects → (more : List Edit) × (sets_for u o ≡ sets_for t o ++ more)

later-self : (t : Tables) → Later t t
later-self t = record {
  objects = omega arith;
  creates = λ o l. refl;
  sets = λ o l. ([], sym (append-nil (sets_for t o)));
}

later-then : {t u v : Tables} → Later t u → Later u v → Later t v
later-then {t} {u} {v} p q = record {
  objects = omega (arith, p.objects, q.objects);
  creates = λ o l. q.creates o (omega (arith, p.objects)) ∙ p.creates o l;
  sets = λ o l.
      let (more, e) = p.sets o l in
      let (most, f) = q.sets o (omega (arith, p.objects)) in
      (more ++ most, f ∙ ap (λ (ms : List Edit). ms ++ most) e ∙ append_assoc (sets_for t o) more most);
}

-- ---- one record

-- what an accepted edit leaves
left-later : (t u : Tables) (own : ℕ) (e : Edit) → LeavesOthers t u own e → Later t u
left-later t u own e l = record {
  objects = l.objects;
  creates = l.creates;
  sets = λ o m.
      let c = create_of t o in
      let f = is_set_on c.site c.seq in (
        cond (f e) (e ∷ []) [],
        ap (λ (d : Edit). sets_on d.site d.seq (held_by u)) (l.creates o m)
            ∙ ap (sets_on c.site c.seq) l.held
            ∙ (unfold sets_on in filter-snoc f (held_by t) e),
      );
}

-- accepted or refused
acceptance-later : (t : Tables) (b : List ℕ) → Faithful t → Later t (acceptance_of t b).after
acceptance-later t b f = unfold acceptance_of in go (eqb (answer_to t b) 0) refl
  where
    go : (x : Bool) → eqb (answer_to t b) 0 ≡ x →
        Later t (cond x (outcome_of 0 (taken t b)) (outcome_of (answer_to t b) t)).after
    go true h =
        let e : acceptance_of t b ≡ outcome_of 0 (taken t b) = unfold acceptance_of in rw h in
        subst (λ (a : Outcome). Later t a.after) e
        (left-later t (acceptance_of t b).after (own_of t b) (decode_of b)
        (leaves t f.kept b (ap (λ (a : Outcome). a.answer) e)))
    go false h = later-self t

-- at faithful tables an arrival is an acceptance
arrival-accepts : (t : Tables) (b : List ℕ) → Faithful t → arrival_of t b ≡ acceptance_of t b
unfolding arrival_of
arrival-accepts t b f = rw (sound-on t f.kept.is_sound)

-- ---- records one after another

pub arrivals-lead :
    (t : Tables) → Faithful t → (bs : List (List ℕ)) → Faithful (arrivals t bs) × Later t (arrivals t bs)
unfolding arrivals
arrivals-lead t f [] = (f, later-self t)
arrivals-lead t f (b ∷ bs) =
    let same : (acceptance_of t b).after ≡ (arrival_of t b).after
    = ap (λ (o : Outcome). o.after) (sym (arrival-accepts t b f)) in
    let next : Faithful (arrival_of t b).after = subst Faithful same (acceptance-faithful t b f) in
    let here : Later t (arrival_of t b).after = subst (Later t) same (acceptance-later t b f) in
    let (g, there) = arrivals-lead (arrival_of t b).after next bs in
    (g, later-then here there)

-- the first k of a file's records, and the first n of them
pub replay-leads :
    (sites : ℕ) → 1 ≤ sites → sites ≤ most_sites → (rs : ℕ → List ℕ) (k n : ℕ) → k ≤ n →
    Later (replay_of sites rs k).after (replay_of sites rs n).after
replay-leads sites some few rs k zero l =
    let e : k ≡ 0 = omega arith in
    rw e (later-self (replay_of sites rs 0).after)
replay-leads sites some few rs k (suc n) l = elim (dec_lt n k) [
  | yes m ↦ (let e : k ≡ suc n = omega arith in rw e (later-self (replay_of sites rs (suc n)).after))
  | no m ↦ later-then (replay-leads sites some few rs k n (omega arith)) one
]
  where
    one : Later (replay_of sites rs n).after (replay_of sites rs (suc n)).after
    one = unfold replay_of in go (eqb (replay_of sites rs n).answer 0)
      where
        go : (x : Bool) → Later (replay_of sites rs n).after
            (cond x (one_more rs n (replay_of sites rs n).after) (replay_of sites rs n)).after
        go true = acceptance-later (replay_of sites rs n).after (rs n) (replay-faithful sites some few rs n)
        go false = later-self (replay_of sites rs n).after
