-- The Sets of an object of tables that are sound but for 16, taken one after another as a row is worked out: where 16
-- is given to none of those before a Set, they are proper, and its conflicts with them are what the code is told.
-- Assumes nothing.
use mathlib.Core.Path.{◌≡◌, sym, ap, subst, ◌∙◌}
use mathlib.Core.Bool.{true, false}
use mathlib.Core.List.{List, [], ◌∷◌, ◌++◌, map}
use Prim.Native.Nat.{ℕ, ◌+◌, ◌≤◌, ◌<◌}
use native.Mathlib.Omega.{arith}
use lib.ListN.{length, get_or, take}
use Rattle.math_lists.specs.SortedLists.{any}
use Rattle.math_lists.proofs.Booleans.{clash, off}
use Rattle.math_lists.proofs.ByPlaces.{any-place-on}
use Rattle.math_contexts.specs.Box.{Lawful}
use Rattle.math_contexts.specs.Contexts.{context}
use Rattle.math_contexts.specs.Versions.{AllNamed}
use Rattle.edit_record.specs.declared.Edit.{Edit}
use Rattle.edit_record.specs.RecordBytes.{no_edit}
use Rattle.edit_record.specs.Answer1.{is_create, is_limited}
use Rattle.edit_causal.specs.Conflict.{box_on, conflicts_with}
use Rattle.edit_causal.specs.ConflictForms.{plain_marks}
use Rattle.edit_causal.proofs.PlainMarks.{marks-are-all}
use Rattle.edit_history.specs.EditsHeld.{record_at, edits_of, sets_on}
use Rattle.edit_history.proofs.EditsInPlaces.{sets-length, set-place}
use Rattle.group_true.proofs.ProperSets.{in-order-table, named-version}
use Rattle.group_limited.specs.declared.Told.{Told}
use Rattle.group_limited.specs.LimitedForms.{ToldOf, named_in_turn}
use Rattle.group_sight.specs.SightForms.{sets_in}
use Rattle.group_limited.proofs.NamedInTurn.{nameless, proper-to, in-turn-on, in-turn-off}
use Rattle.group_limited.proofs.NamedInTurn.{passed-one-more}
use Rattle.group_named.specs.NamedForms.{is_named_at}
use Rattle.group_named.proofs.BoxesNamed.{plain-in-turn}
use Rattle.table_drawing.specs.Tables.{Tables}
use Rattle.table_soundness.proofs.SoundFacts.{SoundBut}
use Rattle.table_index.specs.IndexForms.{places_on}
use Rattle.table_index.proofs.PlacesOfSets.{places-sets}
use Rattle.table_sets.specs.KeyForms.{TellsIn}
use Rattle.table_sets.proofs.SetsTold.{passed-tells-in}
use Rattle.table_check.specs.CheckForms.{ProperInTurn}

-- ---- the Sets in the first k of the places ms, whose having seen goes through

module _ (rs ms : List ℕ) (k : ℕ) (fits : k ≤ length ms) where
  -- 16 is given to none of the first i after those before it: they are proper in turn
  pub turn-to :
      (i : ℕ) → i ≤ k → Lawful (box_on (sets_in rs ms k)) k → ((j : ℕ) → j < i → nameless rs ms j ≡ false) →
      ProperInTurn rs ms i
  turn-to i l law free = record {
    proper = λ j m. proper-to rs ms k fits j (omega arith) law (λ x o. free x (omega arith));
    named = free;
  }

  pub turn-named : ProperInTurn rs ms k → named_in_turn (sets_in rs ms k) ≡ true
  turn-named w = in-turn-on rs ms k fits w.named

  pub named-turn :
      Lawful (box_on (sets_in rs ms k)) k → named_in_turn (sets_in rs ms k) ≡ true → ProperInTurn rs ms k
  named-turn law h =
      turn-to k (omega arith) law (λ j l. off (nameless rs ms j) (λ t. clash h (in-turn-off rs ms k fits j l t)))

  pub none-limited-turn :
      Lawful (box_on (sets_in rs ms k)) k → any is_limited (sets_in rs ms k) ≡ false → ProperInTurn rs ms k
  none-limited-turn law h = named-turn law (plain-in-turn (sets_in rs ms k) h)

-- ---- the Sets on the Create in place p, whose places stand at the front of ms

module _ (t : Tables) (s : SoundBut t) (p : ℕ) (ms : List ℕ) (k : ℕ) (fits : k ≤ length ms)
    (e : take k ms ≡ places_on t.records t.counters.records p) where
  abbrev rs : List ℕ
  rs = t.records

  abbrev n : ℕ
  n = t.counters.records

  abbrev create : Edit
  create = record_at rs p

  sets-all : sets_in rs ms k ≡ sets_on create.site create.seq (edits_of rs n)
  sets-all = ap (map (record_at rs)) e ∙ places-sets rs p n

  pub lawful-all : Lawful (box_on (sets_in rs ms k)) k
  lawful-all =
      let order = in-order-table t.counters.sites s.few-sites rs n s.pass in
      subst (Lawful (box_on (sets_in rs ms k))) (sets-length rs ms k fits)
      (subst (λ (xs : List Edit). Lawful (box_on xs) (length xs)) (sym sets-all)
      (order.lawful create.site create.seq))

  pub named-on : is_create create ≡ true → is_named_at rs n p ≡ named_in_turn (sets_in rs ms k)
  unfolding is_named_at
  named-on h = rw h (ap named_in_turn (sym sets-all))

  -- each is told its conflicts with those before it
  pub told-in-turn : TellsIn rs ms k
  told-in-turn = passed-tells-in t s.few-sites s.pass create.site create.seq ms k fits sets-all

-- ---- the conflicts of the Set e in the i-th place with those before it

module _ (rs ms : List ℕ) (k : ℕ) (fits : k ≤ length ms) (i : ℕ) (l : i < k) (e : Edit)
    (own : e ≡ record_at rs (get_or ms i 0)) where
  -- where no Set is limited, document 01's are all
  pub plain-are-all :
      any is_limited (sets_in rs ms k) ≡ false → plain_marks e (sets_in rs ms i) ≡ conflicts_with e (sets_in rs ms i)
  plain-are-all h =
      let none : (j : ℕ) → j < k → is_limited (record_at rs (get_or ms j 0)) ≡ false
      = λ j m. off (is_limited (record_at rs (get_or ms j 0))) (λ t.
      clash
      (any-place-on is_limited no_edit (sets_in rs ms k) j (omega (arith, sets-length rs ms k fits))
      (rw (set-place rs ms k fits j m) t)) h) in
      sym
      (marks-are-all e (sets_in rs ms i)
      (λ j m. let b : j < i = omega (arith, sets-length rs ms i (omega arith)) in
      rw (set-place rs ms i (omega arith) j b) (none j (omega arith)))
      (rw own (none i l)))

-- ---- the next Set, which is told t

-- 16 is not given to it: those with it are proper in turn, and it is told its conflicts and its context
pub record TakenInTurn (rs ms : List ℕ) (i : ℕ) (t : Told) : Type 0 where
  pub free : (j : ℕ) → j < i + 1 → nameless rs ms j ≡ false
  pub turn : ProperInTurn rs ms (i + 1)
  pub conflicts : t.conflicts ≡ conflicts_with (record_at rs (get_or ms i 0)) (sets_in rs ms i)
  pub context :
      t.context ≡ context (box_on (sets_in rs ms i ++ (record_at rs (get_or ms i 0) ∷ []))) (length (sets_in rs ms i))

module _ (rs ms : List ℕ) (k : ℕ) (fits : k ≤ length ms) (i : ℕ) (l : i < k) (law : Lawful (box_on (sets_in rs ms k)) k)
    (before : (j : ℕ) → j < i → nameless rs ms j ≡ false) (t : Told)
    (told : ToldOf (sets_in rs ms i) (record_at rs (get_or ms i 0)) t) where
  abbrev xs : List Edit
  xs = sets_in rs ms i

  named : AllNamed (box_on xs) (length xs)
  named = (proper-to rs ms k fits i (omega arith) law before).named

  pub next-nameless : t.nameless ≡ nameless rs ms i
  next-nameless = told.nameless named

  pub taken : t.nameless ≡ false → TakenInTurn rs ms i t
  taken h =
      let own : nameless rs ms i ≡ false = sym next-nameless ∙ h in
      let free = passed-one-more rs ms i own before in
      record {
        free = free;
        turn = turn-to rs ms k fits (i + 1) (omega arith) law free;
        conflicts = told.conflicts named h;
        context = told.context named (named-version xs (record_at rs (get_or ms i 0)) own);
      }
