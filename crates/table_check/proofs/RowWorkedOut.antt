-- How one row is worked out: the groups of an object's Sets by one step after another, and the places of those Sets by
-- the chain. Assumes, where it is said, that no Set conflicts with itself.
use mathlib.Core.Path.{◌≡◌, sym, ap, subst, ◌∙◌}
use mathlib.Core.Bool.{Bool, true, false}
use mathlib.Core.List.{List, [], ◌∷◌, ◌++◌, map, map-append}
use Prim.Native.Nat.{ℕ, ◌+◌, ◌-◌, ◌*◌, ◌^◌, ◌≤◌, ◌<◌}
use native.Mathlib.Omega.{arith}
use native.Mathlib.Numerals.{add-one}
use lib.ListN.{length, get_or, take, drop, replicate}
use lib.Seq.{take-suc, take-add, take_at, take-take}
use borrow.Author.Tests.{ne_eqb, le-ltb}
use Rattle.math_lists.specs.NumbersBelow.{same_list}
use Rattle.math_lists.specs.SortedLists.{elem, Ascending}
use Rattle.math_lists.proofs.Booleans.{off-where}
use Rattle.math_contexts.specs.Box.{Lawful}
use Rattle.edit_record.specs.declared.Edit.{Edit}
use Rattle.edit_causal.specs.Conflict.{box_on, conflicts_in, conflicts_with}
use Rattle.edit_causal.specs.ConflictForms.{NoneItself}
use Rattle.edit_history.specs.EditsHeld.{record_at}
use Rattle.edit_history.proofs.EditsInPlaces.{sets-length}
use Rattle.group_limited.specs.LimitedForms.{named_in_turn}
use Rattle.group_sight.specs.SightForms.{sets_in}
use Rattle.math_maximal.specs.Groups.{every}
use Rattle.math_maximal.specs.Step.{step}
use Rattle.math_maximal.proofs.Groups.{groups-ascending, no-elements}
use Rattle.group_step.specs.GroupRows.{most_sets, most_groups, row, settled}
use Rattle.group_step.specs.StepForms.{Apart}
use Rattle.group_named.specs.NamedForms.{is_named_at}
use Rattle.table_drawing.specs.Tables.{Tables, held_by, place_at, sets_at, groups_at}
use Rattle.table_soundness.proofs.SoundFacts.{SoundBut}
use Rattle.table_index.specs.IndexForms.{places_on}
use Rattle.table_index.proofs.PlacesOfSets.{places-sets, places-length}
use Rattle.table_sets.specs.ChainForms.{Chained, AlongChain}
use Rattle.table_arrival.specs.Answers6and7.{row_of}
use Rattle.group_true.specs.TrueGroups.{groups_of, true_groups}
use Rattle.group_true.proofs.GroupsGrow.{is-maximal, none-part, never-fewer-groups, sets-step}
use Rattle.table_sets.specs.KeyForms.{TellsIn}
use Rattle.table_check.specs.CheckForms.{row_true, row_stands, groups_in, ProperInTurn}
use Rattle.table_check.proofs.SettledByRecords.{used-long}
use Rattle.table_check.proofs.SetsInTurn.{lawful-all, told-in-turn, named-on, named-turn, turn-named}

-- ---- one step after another

module _ (rs ms : List ℕ) where
  pub groups_none : groups_in rs ms 0 ≡ 0 ∷ []
  unfolding groups_in groups_of
  groups_none = no-elements (conflicts_in []) every

  groups-next :
      (i : ℕ) → i < length ms → NoneItself (sets_in rs ms (i + 1)) →
      step (conflicts_with (record_at rs (get_or ms i 0)) (sets_in rs ms i)) i (groups_in rs ms i) ≡ groups_in rs ms (i + 1)
  unfolding groups_in
  groups-next i l irr =
      let e = record_at rs (get_or ms i 0) in
      let more : sets_in rs ms (i + 1) ≡ sets_in rs ms i ++ (e ∷ [])
      = rw (add-one, take-suc ms i 0 l) (map-append (record_at rs) (take i ms) (get_or ms i 0 ∷ [])) in
      ap (λ (k : ℕ). step (conflicts_with e (sets_in rs ms i)) k (groups_of (sets_in rs ms i)))
      (sym (sets-length rs ms i (omega arith)))
      ∙ sets-step (sets_in rs ms i) e (rw more at irr)
      ∙ ap groups_of (sym more)

  -- the step for the Set e in the i-th place, whose conflicts are m, on the groups of those before it
  pub stepped-on :
      (i : ℕ) (l : List ℕ) → i < length ms → NoneItself (sets_in rs ms (i + 1)) → l ≡ groups_in rs ms i →
      (e : Edit) → e ≡ record_at rs (get_or ms i 0) → (m : ℕ) → m ≡ conflicts_with e (sets_in rs ms i) →
      step m i l ≡ groups_in rs ms (i + 1)
  stepped-on i l low irr h e q m d = rw (h, d, q) (groups-next i low irr)

  -- and on a row that has them
  pub stepped :
      (i n : ℕ) (gs : List ℕ) → i < length ms → NoneItself (sets_in rs ms (i + 1)) → take n gs ≡ groups_in rs ms i →
      (e : Edit) → e ≡ record_at rs (get_or ms i 0) → (m : ℕ) → m ≡ conflicts_with e (sets_in rs ms i) →
      step m i (take n gs) ≡ groups_in rs ms (i + 1)
  stepped i n gs = stepped-on i (take n gs)

  pub in-ascending : (i : ℕ) → Ascending (groups_in rs ms i)
  unfolding groups_in groups_of
  in-ascending i = groups-ascending (conflicts_in (sets_in rs ms i)) (length (sets_in rs ms i)) every

  pub in-below : (i : ℕ) → i ≤ length ms → (x : ℕ) → elem x (groups_in rs ms i) ≡ true → x < 2 ^ i
  unfolding groups_in
  in-below i l x h = rw (sets-length rs ms i l) at (is-maximal (sets_in rs ms i) x h).0

  pub in-apart : (i : ℕ) → Apart (groups_in rs ms i)
  unfolding groups_in
  in-apart i = none-part (sets_in rs ms i)

  in-longer :
      (i j : ℕ) → NoneItself (sets_in rs ms (i + j)) → length (groups_in rs ms i) ≤ length (groups_in rs ms (i + j))
  unfolding groups_in
  in-longer i j irr =
      let rest = take j (drop i ms) in
      let parts : sets_in rs ms (i + j) ≡ sets_in rs ms i ++ map (record_at rs) rest
      = rw (take-add i j ms) (map-append (record_at rs) (take i ms) rest) in
      rw parts (never-fewer-groups (sets_in rs ms i) (map (record_at rs) rest) (rw parts at irr))

  -- once they are many they stay so
  pub in-more : (i k : ℕ) → i ≤ k → NoneItself (sets_in rs ms k) → length (groups_in rs ms i) ≤ length (groups_in rs ms k)
  in-more i k l irr =
      let e : i + (k - i) ≡ k = omega arith in
      subst (λ (x : ℕ). length (groups_in rs ms i) ≤ length (groups_in rs ms x)) e
      (in-longer i (k - i) (subst (λ (x : ℕ). NoneItself (sets_in rs ms x)) (sym e) irr))

-- what a step leaves in a row that holds it
pub settled-front :
    (l before gs : List ℕ) (r : ℕ) → gs ≡ settled l before → r ≡ length l → r ≤ most_groups → take r gs ≡ l
unfolding settled
settled-front l before gs r e q few =
    let room : length l ≤ most_groups = omega arith in
    rw (e, le-ltb most_groups (length l) room) (take_at l (replicate (most_groups - length l) 0) r (sym q))

-- the groups in use of object o, as a part of the table
pub part-is :
    (gs : List ℕ) (o g : ℕ) → g ≤ most_groups →
    take ((o * most_groups + g) - o * most_groups) (drop (o * most_groups) gs) ≡ take g (row o gs)
part-is gs o g few =
    let e : (o * most_groups + g) - o * most_groups ≡ g = omega arith in
    rw e (sym (take-take g most_groups (drop (o * most_groups) gs) few))

-- ---- the row of object o, which has k Sets on the Create in place p

module _ (t : Tables) (s : SoundBut t) (o : ℕ) (l : o < t.counters.objects) (p k : ℕ)
    (ep : p ≡ place_at t.objects o) (ek : k ≡ sets_at t.objects o) where
  abbrev rs : List ℕ
  rs = t.records

  abbrev n : ℕ
  n = t.counters.records

  abbrev create : ℕ
  create = place_at t.objects o

  pub few-sets : k ≤ most_sets
  few-sets = omega (arith, (s.object o l).entry.few)

  -- what is gathered along the chain are the places of its Sets
  pub places-are : (ch ms : List ℕ) → Chained rs n ch → AlongChain ch p k ms → take k ms ≡ places_on rs n create
  places-are ch ms chained gathered =
      let x = (s.object o l).entry in
      gathered (places_on rs n create) (rw ep (chained create x.place x.create))
      (places-length rs create n ∙ sym x.sets ∙ sym ek)

  pub places-lawful :
      (ms : List ℕ) → k ≤ length ms → take k ms ≡ places_on rs n create → Lawful (box_on (sets_in rs ms k)) k
  places-lawful ms = lawful-all t s create ms k

  pub places-told : (ms : List ℕ) → k ≤ length ms → take k ms ≡ places_on rs n create → TellsIn rs ms k
  places-told ms = told-in-turn t s create ms k

  groups-are :
      (ms : List ℕ) → take k ms ≡ places_on rs n create → groups_in rs ms k ≡ true_groups (held_by t) (record_at rs create)
  unfolding groups_in true_groups
  groups-are ms e =
      ap (λ (qs : List ℕ). groups_of (map (record_at rs) qs)) e
      ∙ ap groups_of (places-sets rs create n)

  pub row-fits-in : o * most_groups + most_groups ≤ length t.groups
  row-fits-in = omega (arith, s.groups-long, s.few-objects)

  module _ (ms : List ℕ) (fits : k ≤ length ms) (e : take k ms ≡ places_on rs n create) where
    abbrev named? : Bool
    named? = is_named_at rs n create

    named-is : named? ≡ named_in_turn (sets_in rs ms k)
    named-is = named-on t s create ms k fits e (s.object o l).entry.create

    pub too_many :
        (ProperInTurn rs ms k → most_groups < length (groups_in rs ms k)) → false ≡ row_stands t o
    too_many more =
        let g = groups_at t.objects o in
        let few = (s.object o l).row.few in
        let long = used-long t.groups o g few row-fits-in in
        sym (off-where named? (row_true t o) (λ h.
        let turn = named-turn rs ms k fits (lawful-all t s create ms k fits e) (sym named-is ∙ h) in
        let many = more turn in
        rw
        (ne_eqb (length (row_of t o)) (length (true_groups (held_by t) (record_at rs create)))
        (λ h. omega (arith, ap length (groups-are ms e))))))

    pub row-decides :
        (gs : List ℕ) (r : ℕ) (b : Bool) → ProperInTurn rs ms k → take r gs ≡ groups_in rs ms k →
        b ≡ same_list (row_of t o) (take r gs) → b ≡ row_stands t o
    row-decides gs r b turn front h =
        rw (named-is, turn-named rs ms k fits turn) (h ∙ ap (same_list (row_of t o)) (front ∙ groups-are ms e))
