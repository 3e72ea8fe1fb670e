-- `group_sight::marks_of` meets its contract: those that were seen, and of the others those that conflict.
-- Assumes nothing.
use mathlib.Core.Path.{◌≡◌, sym, ap₂, subst, ◌∙◌}
use mathlib.Core.Bool.{◌&&◌}
use Prim.Native.Nat.{ℕ, ◌-◌, ◌^◌, ◌≤◌, ◌<◌}
use native.Mathlib.Omega.{arith}
use lib.Bits.{bit_and}
use lib.ListN.{length, get_or}
use lib.Pow.{pow_mono}
use Rattle.math_maximal.specs.Groups.{bit}
use Rattle.edit_record.specs.declared.Edit.{Edit}
use Rattle.edit_record.specs.RecordBytes.{decode_of, no_edit}
use Rattle.edit_history.proofs.EditsInPlaces.{sets-length, set-place}
use Rattle.group_sight.specs.SightForms.{sets_in, NameOf, NamesOf, is_foe}
use Rattle.group_sight.proofs.FoesConflict.{foe-conflicts}
use Rattle.group_sight.proofs.SeenThrough.{plain-of-others}
use Rattle.group_sight.proofs.marks_of.Goals as goal

pub foes_among-plain-requires : goal.foes_among-plain-requires
foes_among-plain-requires c =
    let s = c in
    let places : 2 ^ s.args.k ≤ 2 ^ length s.args.places.now = pow_mono s.requires.1 in
    let names : 2 ^ s.args.k ≤ 2 ^ length s.args.names.now = pow_mono s.requires.2 in
    let small = c.first-all.ensures.0 in
    rw c.without-others.ensures (omega (arith, small, places), omega (arith, small, names))

pub returns : goal.returns
returns c =
    let s = c in
    let a = s.args in
    let rs = a.recs.now in
    let ps = a.places.now in
    let ns = a.names.now in
    let e = decode_of a.rec.now in
    let ms = sets_in rs ps a.k in
    let fits : a.k ≤ length ps = s.requires.1 in
    let size : length ms ≡ a.k = sets-length rs ps a.k fits in
    let all = c.first-all in
    let others = c.without-others in
    let own = c.name_of-own in
    let side = c.side_of-side in
    let plain = c.foes_among-plain in
    let part : plain.result ≤ all.result - bit_and all.result c.seen_of-seen.result
    = rw others.ensures at plain.ensures.0 in
    let names : NamesOf ns ms
    = λ i l. let m : i < a.k = omega (arith, size) in
    subst (NameOf (get_or ns i 0)) (sym (set-place rs ps a.k fits i m)) (s.requires.4 i m) in (
      omega (arith, part, all.ensures.0),
      λ tell law.
          let seen = c.seen_of-seen.ensures ms e size names own.ensures
          (sym c.vector_in-v.ensures) tell law in
          ap₂ (λ (p q : ℕ). record { plain = p; seen = q })
          (plain-of-others ms e all.result _ plain.result (rw size all.ensures.0)
          (λ j l. all.ensures.1 j (omega (arith, size))) seen part
          (λ j. is_foe (get_or ns j 0) side.result (get_or ms j no_edit))
          (λ j l. plain.ensures.1 j
          ∙ ap₂ (λ (x : ℕ) (y : Edit). bit x j && is_foe (get_or ns j 0) side.result y) others.ensures
          (sym (set-place rs ps a.k fits j (omega (arith, size)))))
          (λ j l. foe-conflicts (get_or ns j 0) side.result (get_or ms j no_edit) e (names j l)
          (side.ensures own.ensures)))
          seen,
    )
