-- `table_soundness::objects::row_sound` meets its contract: `sound` is the test of the first i places, of which those
-- from g on are unused. Assumes nothing.
use mathlib.Core.Path.{◌≡◌, refl, sym, ap, ◌∙◌}
use mathlib.Core.Bool.{Bool, true, false, ◌&&◌, ◌||◌}
use mathlib.Core.List.{List}
use Prim.Native.Nat.{ℕ, suc, ◌+◌, ◌-◌, ◌*◌, ◌^◌, ◌≤◌, ◌<◌}
use native.Mathlib.Numerals.{add-one}
use native.Mathlib.Omega.{arith}
use lib.Dec.{eqb, leb, ltb}
use lib.ListN.{length, get_or, take, drop, length-drop}
use lib.Seq.{length-take-le, get_or-take, get_or-drop}
use borrow.Author.Tests.{not-true, not-false}
use Rattle.math_lists.specs.NumbersBelow.{all}
use Rattle.group_step.specs.GroupRows.{most_objects, most_groups}
use Rattle.table_drawing.specs.Tables.{groups_length}
use Rattle.table_soundness.specs.Sound.{slot_sound, row_sound}
use Rattle.table_soundness.proofs.SoundTests.{unused-place, few-groups}
use Rattle.table_soundness.proofs.objects.row_sound.Goals as goal

pub returns-then-not-g : goal.returns-then-not-g
unfolding row_sound
returns-then-not-g c =
    let g = c.args.g in
    let k : (leb 1 g && leb g most_groups) ≡ false = not-true (leb 1 g && leb g most_groups) c.if-not-g.true-raw in
    rw k

pub loop-i-init : goal.loop-i-init
unfolding all
loop-i-init c = (few-groups c.args.g c.if-not-g.false-raw, refl)

pub loop-i-preserved : goal.loop-i-preserved
unfolding all
loop-i-preserved c =
    let l = c.loop-i in
    (l.invariant.0, rw (add-one, l.invariant.1, c.slot_sound-sound.ensures))

-- ---- the places that are not used

module _ (gs : List ℕ) (o g : ℕ) where
  abbrev start : ℕ
  start = o * most_groups + g

  abbrev rest : List ℕ
  rest = take ((o + 1) * most_groups - start) (drop start gs)

  rest-length : o < most_objects → g ≤ most_groups → length gs ≡ groups_length → length rest ≡ most_groups - g
  rest-length few small long =
      length-take-le ((o + 1) * most_groups - start) (drop start gs) (omega (arith, length-drop start gs))
      ∙ omega arith

  rest-at : (i : ℕ) → i < most_groups - g → get_or rest i 0 ≡ get_or gs (o * most_groups + (g + i)) 0
  rest-at i l =
      get_or-take ((o + 1) * most_groups - start) (drop start gs) i 0 (omega arith)
      ∙ get_or-drop start gs i 0
      ∙ ap (λ (p : ℕ). get_or gs p 0) (omega arith)

pub loop-unused-init : goal.loop-unused-init
loop-unused-init c =
    let l = c.loop-i in
    let e : l.i ≡ c.args.g + 0 = omega arith in
    (l.invariant.0, rw e at l.invariant.1)

pub loop-unused-preserved : goal.loop-unused-preserved
unfolding all
loop-unused-preserved c =
    let a = c.args in
    let l = c.loop-unused in
    let gs = a.groups.now in
    let p = a.g + l.unused-index in
    let at = a.o * most_groups + p in
    let here = get_or gs at 0 in
    let few : l.unused-index < most_groups - a.g
    = omega (arith, rest-length gs a.o a.g c.requires.0 l.invariant.0 c.requires.1) in
    let next : a.g + (l.unused-index + 1) ≡ suc p = omega arith in (
      l.invariant.0,
      rw (next, rest-at gs a.o a.g l.unused-index few, l.invariant.1)
          (ap (λ (b : Bool). all p (slot_sound gs a.o a.k a.g) && b)
          (sym (unused-place a.g p (eqb here 0) (ltb here (2 ^ a.k))
          (leb a.g (p + 1) || ltb here (get_or gs (at + 1) 0)) (omega arith)))),
    )

pub returns : goal.returns
unfolding row_sound
returns c =
    let a = c.args in
    let g = a.g in
    let l = c.loop-unused in
    let k : g + l.unused-index ≡ most_groups
    = omega (arith, rest-length a.groups.now a.o g c.requires.0 l.invariant.0 c.requires.1) in
    let t : (leb 1 g && leb g most_groups) ≡ true
    = not-false (leb 1 g && leb g most_groups) c.if-not-g.false-raw in
    rw (l.invariant.1, k, t)
