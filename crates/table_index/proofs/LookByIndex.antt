-- A record that is looked at by the index before it is taken: what its passing 1 to 5 says, and what a Set finds of its
-- object. Assumes that the records held pass and are within the limits.
use mathlib.Core.Path.{◌≡◌, sym, ap, subst, ◌∙◌}
use mathlib.Core.Bool.{Bool, true, false, not, ◌&&◌, ◌||◌, cond}
use mathlib.Core.List.{List}
use Prim.Native.Nat.{ℕ, ◌<◌}
use lib.Dec.{eqb, ltb}
use lib.ListN.{get_or}
use borrow.Author.Tests.{ltb-true, not-true, not-false}
use Rattle.math_lists.specs.SortedLists.{any}
use Rattle.math_lists.proofs.Booleans.{neither, then-off}
use Rattle.edit_record.specs.declared.Edit.{Edit}
use Rattle.edit_record.specs.Layout.{create_kind}
use Rattle.edit_record.specs.Answer1.{is_create, is_set, is_limited, is_aimed, unfit}
use Rattle.edit_record.proofs.WellFormed.{set-aimed}
use Rattle.edit_causal.specs.ConflictForms.{plain_marks}
use Rattle.edit_history.specs.EditsHeld.{edits_of, sets_on, is_target}
use Rattle.edit_history.specs.Answers2to5.{is_repeated, is_early, is_torn, is_astray, passes}
use Rattle.edit_history.specs.SurveyForms.{repeated_against, early_against}
use Rattle.edit_walk.specs.WalkForms.{place_of, torn_by_news, target_held, in_turn_against, passes_against}
use Rattle.group_step.specs.GroupRows.{most_objects, most_sets}
use Rattle.table_drawing.specs.declared.Counters.{Counters}
use Rattle.table_index.specs.IndexForms.{number_at, limit_at, marks_on, IndexOf, Holds, MetOf}
use Rattle.table_index.specs.IndexForms.{PassedOf, FitOf}
use Rattle.table_index.specs.declared.Looked.{Looked}
use Rattle.table_index.proofs.SurveyByIndex.{object-is, Aimed, aimed}

-- ---- what passing says

-- none of 1 to 3 is given to an edit that passes
pub turn-of :
    (sites : ℕ) (counts rs ps : List ℕ) (e : Edit) → passes_against sites counts rs ps e ≡ true →
    in_turn_against sites counts e ≡ true
unfolding passes_against in_turn_against
turn-of sites counts rs ps e h =
    let three = unfit sites e || repeated_against counts e || early_against counts e in
    let torn = torn_by_news rs ps e.vector e.site in
    let astray = is_aimed e && not (target_held counts rs ps e) in
    let (four, _) = neither (three || torn) astray (not-true (three || torn || astray) h) in
    rw (neither three torn four).0

-- the target of a Set that passes is held
pub target-of :
    (sites : ℕ) (es : List Edit) (e : Edit) → passes sites es e ≡ true → is_set e ≡ true → any (is_target e) es ≡ true
unfolding passes is_astray
target-of sites es e h k =
    let four = unfit sites e || is_repeated es e || is_early es e || is_torn es e in
    let astray = is_aimed e && not (any (is_target e) es) in
    not-false (any (is_target e) es)
    (then-off (is_aimed e) (not (any (is_target e) es)) (set-aimed e k)
    (neither four astray (not-true (four || astray) h)).1)

-- the test of room for a Create
pub create-room-of :
    (e : Edit) (m : ℕ) → (not (eqb e.kind create_kind) || ltb m most_objects) ≡ true → is_create e ≡ true →
    m < most_objects
create-room-of e m h k = ltb-true m most_objects (rw k at h)

-- ---- what a Set finds

-- an entry that is 0 or 1, by the test for 0
pub told : (b : Bool) (k : ℕ) → k ≡ cond b 1 0 → not (eqb k 0) ≡ b
told true k e = rw e
told false k e = rw e

module _
    (c : Counters)
    (rs : List ℕ)
    (h : Holds c rs)
    (n : ℕ)
    (count : c.records ≡ n)
    (ps ns cs hs : List ℕ)
    (x : IndexOf rs n ps ns cs hs)
    (e : Edit)
    (held : any (is_target e) (edits_of rs n) ≡ true) where
  abbrev q : ℕ
  q = place_of ps e.tsite.0 e.tseq.0

  abbrev own : IndexOf rs c.records ps ns cs hs
  own = subst (λ (k : ℕ). IndexOf rs k ps ns cs hs) (sym count) x

  pub target : Aimed c rs h ps ns cs hs own e q
  target = aimed c rs h ps ns cs hs own e (rw count held)

  pub met_of :
      (r : Looked) → r.object ≡ get_or ns q 0 → r.sets ≡ get_or cs r.object 0 →
      r.limited ≡ not (eqb (get_or hs (limit_at r.object) 0) 0) → r.conflicts ≡ marks_on rs n q e →
      r.sets < most_sets → MetOf rs n ps ns cs e r
  met_of r o k limits marks few =
      let t = target in
      let is : r.object ≡ number_at rs q = o ∙ t.number in
      record {
        object = is ∙ sym (rw count at (object-is c rs h e q t.low t.target));
        number = o;
        count = k;
        sets = k ∙ ap (λ (i : ℕ). get_or cs i 0) is ∙ rw count at t.count;
        room = few;
        conflicts = marks ∙ ap (plain_marks e) (rw count at t.sets);
        limited =
            limits
            ∙ told (any is_limited (sets_on e.tsite e.tseq (edits_of rs n))) (get_or hs (limit_at r.object) 0)
            (ap (λ (i : ℕ). get_or hs (limit_at i) 0) is ∙ rw count at t.limits);
      }

-- ---- a record that is not limited, nor another Set of its object

pub fit_of :
    (sites n m : ℕ) (rs ps ns cs : List ℕ) (e : Edit) (r : Looked) → PassedOf sites n m rs ps ns cs e r →
    is_limited e ≡ false → r.limited ≡ false → FitOf sites n m rs ps ns cs e r
fit_of sites n m rs ps ns cs e r p plain none =
    record {
      plain = plain;
      pass = p.pass;
      create-room = p.create-room;
      set =
          λ k. let x = p.set k in
          record {
            object = x.object;
            number = x.number;
            count = x.count;
            sets = x.sets;
            room = x.room;
            conflicts = x.conflicts;
            unlimited = sym x.limited ∙ none;
          };
    }
