-- Req 10: a version that was shown is not lost when more records arrive, accepted or refused. Assumes that the tables
-- at the earlier moment are faithful; those that arrivals or a file's records give from an empty drawing are.
use mathlib.Core.Path.{◌≡◌, ap, ◌∙◌}
use mathlib.Core.Bool.{true}
use mathlib.Core.List.{List, ◌++◌}
use Prim.Native.Nat.{ℕ, ◌≤◌, ◌<◌}
use native.Mathlib.Omega.{arith}
use Rattle.math_lists.specs.SortedLists.{elem}
use Rattle.math_lists.proofs.Elements.{elem→mem, mem→elem}
use Rattle.edit_record.specs.declared.Edit.{Edit}
use Rattle.edit_record.specs.Layout.{most_sites}
use Rattle.edit_causal.specs.ConflictForms.{NoneItself, Proper}
use Rattle.edit_causal.proofs.ConflictsAmongSets.{none-itself}
use Rattle.group_true.specs.TrueGroups.{groups_of, true_groups}
use Rattle.group_true.proofs.GroupsGrow.{lies-in-later, never-fewer-groups}
use Rattle.table_drawing.specs.Tables.{Tables, empty_drawing}
use Rattle.table_arrival.specs.Answers6and7.{row_of}
use Rattle.table_arrival.proofs.Faithful.{Faithful, empty-faithful}
use Rattle.table_arrival.proofs.ProperWith.{proper-held}
use Rattle.table_given.specs.Replay.{replay_of}
use Rattle.table_given.proofs.ReplayFaithful.{replay-faithful}
use Rattle.list_version.specs.Identifier.{identifier_of}
use Rattle.list_version.proofs.IdentifiersGrow.{NamesDiffer, members-grow, identifier-grows}
use Rattle.list_version.proofs.IdentifiersGrow.{members-never-in-one, identifiers-never-in-one}
use Rattle.list_version.proofs.NeverShared.{held-names-differ}
use Rattle.list_objects.specs.Objects.{create_of, sets_for}
use Rattle.demand_growth.specs.Versions.{arrivals, IsVersion, versions, identifier_at, Within}
use Rattle.demand_growth.specs.NothingLost.{Contains, NothingLost}
use Rattle.demand_growth.proofs.Later.{Later, arrivals-lead, replay-leads}

-- ---- between two moments

-- the row of an object is the groups of its Sets
row_is :
    (t : Tables) → Faithful t → (o : ℕ) → o < t.counters.objects →
    row_of t o ≡ groups_of (sets_for t o)
row_is t f o l = unfold true_groups in f.rows o l

module _ (t u : Tables) (f : Faithful t) (w : Faithful u) (r : Later t u) (o : ℕ) (l : o < t.counters.objects) where
  abbrev ms : List Edit
  ms = sets_for t o

  abbrev more : List Edit
  more = (r.sets o l).0

  abbrev grown : sets_for u o ≡ ms ++ more
  grown = (r.sets o l).1

  still : o < u.counters.objects
  still = omega (arith, r.objects)

  row-grown : row_of u o ≡ groups_of (ms ++ more)
  row-grown = row_is u w o still ∙ ap groups_of grown

  before : (g : ℕ) → IsVersion t o g → elem g (groups_of ms) ≡ true
  before g e = rw (row_is t f o l) at e

  after : (k : ℕ) → IsVersion u o k → elem k (groups_of (ms ++ more)) ≡ true
  after k e = rw row-grown at e

  differ : NamesDiffer (ms ++ more)
  differ = rw grown at (held-names-differ u w.kept.is_sound (create_of u o))

  -- at both moments the Sets are proper
  proper : Proper ms
  proper = proper-held t f.kept.is_sound (create_of t o).site (create_of t o).seq

  apart : NoneItself (ms ++ more)
  apart =
      none-itself (ms ++ more)
      (rw grown at (proper-held u w.kept.is_sound (create_of u o).site (create_of u o).seq))

  container : (g : ℕ) → IsVersion t o g → (k : ℕ) × IsVersion u o k × Contains t u o g k
  container g e =
      let (k, i, sub) = lies-in-later ms more apart g (before g e) in (
        k,
        rw row-grown i,
        record {
          group = λ x m. rw grown (members-grow ms more g k sub x m);
          identifier = λ x m. elem→mem x (identifier_at u o k)
              (rw grown (identifier-grows ms more g k sub x (mem→elem m)));
        },
      )

  nothing-lost-between : NothingLost t u o
  nothing-lost-between = record {
    same_object = (still, r.creates o l);
    later_version = container;
    apart_by_group = λ g h k eg eh ek p q.
        members-never-in-one ms more differ g h k (before g eg) (before h eh) (after k ek)
        (λ x m. rw grown at (p x m)) (λ x m. rw grown at (q x m));
    apart_by_identifier = λ g h k eg eh ek p q.
        let over : (g : ℕ) → Within (identifier_at t o g) (identifier_at u o k) → (x : ℕ) →
        elem x (identifier_of ms g) ≡ true → elem x (identifier_of (ms ++ more) k) ≡ true
        = λ g p x e. rw grown at (mem→elem (p x (elem→mem x (identifier_of ms g) e))) in
        identifiers-never-in-one ms more differ g h k (before g eg) (before h eh) (after k ek) proper (over g p)
        (over h q);
    never_fewer = rw (row_is t f o l, row-grown)
        (never-fewer-groups ms more apart);
  }

-- ---- records that arrive

-- the Sets of an object keep their numbers: their list only grows, at its end
pub sets-keep-their-numbers :
    (t : Tables) → Faithful t → (bs : List (List ℕ)) (o : ℕ) → o < t.counters.objects →
    (more : List Edit) × (sets_for (arrivals t bs) o ≡ sets_for t o ++ more)
sets-keep-their-numbers t f bs = (arrivals-lead t f bs).1.sets

pub nothing-lost :
    (t : Tables) → Faithful t → (bs : List (List ℕ)) (o : ℕ) → o < t.counters.objects →
    NothingLost t (arrivals t bs) o
nothing-lost t f bs =
    let (w, r) = arrivals-lead t f bs in
    nothing-lost-between t (arrivals t bs) f w r

-- since a drawing of so many sites was opened: bs had arrived, and then cs
pub nothing-lost-since-opening :
    (sites : ℕ) → 1 ≤ sites → sites ≤ most_sites → (bs cs : List (List ℕ)) (o : ℕ) →
    o < (arrivals (empty_drawing sites) bs).counters.objects →
    NothingLost (arrivals (empty_drawing sites) bs) (arrivals (arrivals (empty_drawing sites) bs) cs) o
nothing-lost-since-opening sites some few bs cs =
    let t = arrivals (empty_drawing sites) bs in
    nothing-lost t (arrivals-lead (empty_drawing sites) (empty-faithful sites some few) bs).0 cs

-- the first k of a file's records, and the first n of them
pub nothing-lost-in-a-file :
    (sites : ℕ) → 1 ≤ sites → sites ≤ most_sites → (rs : ℕ → List ℕ) (k n : ℕ) → k ≤ n → (o : ℕ) →
    o < (replay_of sites rs k).after.counters.objects →
    NothingLost (replay_of sites rs k).after (replay_of sites rs n).after o
nothing-lost-in-a-file sites some few rs k n m =
    nothing-lost-between (replay_of sites rs k).after (replay_of sites rs n).after
    (replay-faithful sites some few rs k) (replay-faithful sites some few rs n) (replay-leads sites some few rs k n m)

-- ---- what follows of the versions of an object

module _ {t u : Tables} {o : ℕ} (n : NothingLost t u o) where
  -- the later versions that contain two different versions are different
  pub differ-later :
      (g h k m : ℕ) → IsVersion t o g → IsVersion t o h → IsVersion u o k → Contains t u o g k → Contains t u o h m →
      (g ≡ h → ⊥) → k ≡ m → ⊥
  differ-later g h k m eg eh ek p q d same = d (n.apart_by_group g h k eg eh ek p.group (rw same q.group))

  -- a box that is in dispute stays so
  pub dispute-stays : 1 < versions t o → 1 < versions u o
  dispute-stays l = omega (arith, n.never_fewer)
