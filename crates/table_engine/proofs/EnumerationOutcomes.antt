-- The outcomes of the enumeration, one for each place where the code ends: the first refusal that applies, and what the
-- search gives where none does. Assumes nothing.
use mathlib.Core.Path.{◌≡◌, refl, ◌∙◌}
use mathlib.Core.Bool.{Bool, true, false, not, cond}
use mathlib.Core.List.{List}
use Prim.Native.Nat.{ℕ, ◌≤◌, ◌<◌}
use native.Mathlib.Omega.{arith}
use lib.ListN.{length}
use lib.Dec.{eqb, ltb}
use borrow.Author.Tests.{eqb-true, eq-eqb, lt-ltb, le-ltb, ltb-false}
use Rattle.edit_record.specs.declared.Site.{Site}
use Rattle.edit_record.specs.declared.Seq.{Seq}
use Rattle.edit_record.specs.declared.Edit.{Edit}
use Rattle.edit_history.specs.EditsHeld.{sets_on}
use Rattle.edit_object.specs.CreateHeld.{is_held}
use Rattle.group_step.specs.GroupRows.{most_groups, settled}
use Rattle.group_true.specs.TrueGroups.{groups_on}
use Rattle.group_engine.specs.SearchForms.{count_told}
use Rattle.table_drawing.specs.Tables.{Tables, held_by}
use Rattle.table_soundness.specs.Sound.{sound}
use Rattle.table_engine.specs.Enumeration.{most_decided, Enumeration, enumeration, enumeration_in, enumeration_of}
use Rattle.table_engine.specs.EngineForms.{refusal_of, found_as}

-- ---- where the edits es are held, and the output is as long as it must be

module _ (es : List Edit) (s : Site) (q : Seq) (out : List ℕ) where
  pub no-create : is_held es s q ≡ false → enumeration 5 0 out ≡ enumeration_in es s q out
  unfolding enumeration_in
  no-create h = rw h

  pub too-many-sets :
      is_held es s q ≡ true → most_decided < length (sets_on s q es) → enumeration 18 0 out ≡ enumeration_in es s q out
  unfolding enumeration_in
  too-many-sets h l = rw (h, lt-ltb most_decided (length (sets_on s q es)) l)

-- ---- the search found r of the groups gs

module _ (gs out after : List ℕ) (r : ℕ) (count : r ≡ count_told gs) (given : after ≡ settled gs out) where
  pub too-many-groups : most_groups < r → enumeration 7 0 after ≡ found_as gs out
  unfolding found_as settled
  too-many-groups l = rw (given, lt-ltb most_groups (length gs) (omega (arith, count)))

  pub all-given : r ≤ most_groups → enumeration 0 r after ≡ found_as gs out
  unfolding found_as settled
  all-given l =
      let e : r ≡ length gs = omega (arith, count) in
      rw (given, le-ltb most_groups (length gs) (omega (arith, count)), e)

-- ---- the refusals by the tests that they stand for

abbrev first : Bool → Bool → Bool → Bool → ℕ
first a b c d = cond (not a) 8 (cond (not b) 11 (cond (not c) 5 (cond d 18 0)))

none_first :
    (a b c d : Bool) → first a b c d ≡ 0 → (a ≡ true) × (b ≡ true) × (c ≡ true) × (d ≡ false)
none_first false b c d h = absurd (omega (arith, h))
none_first true false c d h = absurd (omega (arith, h))
none_first true true false d h = absurd (omega (arith, h))
none_first true true true true h = absurd (omega (arith, h))
none_first true true true false h = (refl, refl, refl, refl)

some_first :
    (a b c d : Bool) (out : List ℕ) (x : Enumeration) → (first a b c d ≡ 0 → ⊥) →
    enumeration (first a b c d) 0 out
    ≡ cond (not a) (enumeration 8 0 out)
    (cond (not b) (enumeration 11 0 out) (cond (not c) (enumeration 5 0 out) (cond d (enumeration 18 0 out) x)))
some_first false b c d out x h = refl
some_first true false c d out x h = refl
some_first true true false d out x h = refl
some_first true true true true out x h = refl
some_first true true true false out x h = absurd (h refl)

-- where none is left, all that they ask holds
pub none_left :
    (named : Bool) (long : ℕ) (held : Bool) (k : ℕ) → refusal_of named long held k ≡ 0 →
    (named ≡ true) × (long ≡ most_groups) × (held ≡ true) × (k ≤ most_decided)
unfolding refusal_of
none_left named long held k h =
    let (a, b, c, d) = none_first named (eqb long most_groups) held (ltb most_decided k) h in
    (a, eqb-true long most_groups b, c, ltb-false most_decided k d)

-- ---- at any tables, with any output

module _ (t : Tables) (s : Site) (q : Seq) (out : List ℕ) where
  pub right-length :
      sound t ≡ true → length out ≡ most_groups → (e : Enumeration) → e ≡ enumeration_in (held_by t) s q out →
      e ≡ enumeration_of t s q out
  unfolding enumeration_of
  right-length h l e given = rw (h, eq-eqb (length out) most_groups l) given

  -- the first that applies
  abbrev refused? : ℕ
  refused? = refusal_of (sound t) (length out) (is_held (held_by t) s q) (length (sets_on s q (held_by t)))

  pub refused-with : (a : ℕ) → a ≡ refused? → (a ≡ 0 → ⊥) → enumeration a 0 out ≡ enumeration_of t s q out
  unfolding enumeration_of enumeration_in refusal_of found_as
  refused-with a e d =
      rw e
      (some_first (sound t) (eqb (length out) most_groups) (is_held (held_by t) s q)
      (ltb most_decided (length (sets_on s q (held_by t)))) out (found_as (groups_on (held_by t) s q) out)
      (λ z. d (e ∙ z)))

  pub found-with : refused? ≡ 0 → found_as (groups_on (held_by t) s q) out ≡ enumeration_of t s q out
  unfolding enumeration_of enumeration_in found_as
  found-with z =
      let k = length (sets_on s q (held_by t)) in
      let (a, b, c, d) = none_left (sound t) (length out) (is_held (held_by t) s q) k z in
      rw (a, eq-eqb (length out) most_groups b, c, le-ltb most_decided k d)
