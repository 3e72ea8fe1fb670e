-- `list_version::values::put_stamps` meets its contract: the stamps of the Sets passed stand at the front, and it is
-- noted which keys they have. Assumes nothing.
use mathlib.Core.Path.{◌≡◌, refl, ap, subst, ◌∙◌}
use Prim.Native.Nat.{◌<◌}
use native.Mathlib.Omega.{arith}
use lib.ListN.{length, length-set}
use Rattle.list_version.specs.VersionForms.{KeyedBy}
use Rattle.list_version.proofs.StampsByKey.{keyed-none}
use Rattle.list_version.proofs.ValuesByStamps.{stamp-more, stamps-all}
use Rattle.list_version.proofs.values.put_stamps.Goals as goal

pub loop-i-init : goal.loop-i-init
loop-i-init c =
    let start = c in
    let a = start.args in (
      refl,
      refl,
      refl,
      λ j l. absurd (omega arith),
      keyed-none a.out.now a.keyed.now _ start.requires.3,
    )

pub note-peaks-requires : goal.note-peaks-requires
note-peaks-requires c =
    let looped = c in
    let p = looped.requires in
    let l = looped.loop-i in
    (omega (arith, p.2), l.invariant.1 ∙ ap length p.3, l.invariant.2)

pub loop-i-preserved : goal.loop-i-preserved
loop-i-preserved c =
    let noted = c in
    let made = noted in
    let looped = made in
    let start = looped in
    let a = start.args in
    let l = looped.loop-i in
    let n = noted.note-peaks in
    let s = made.stamp_at-s in
    let fits : l.i < length l.out = omega (arith, start.requires.1, l.invariant.0) in (
      length-set l.out l.i s.result ∙ l.invariant.0,
      n.auto.keyed ∙ l.invariant.1,
      n.auto.tops ∙ l.invariant.2,
      stamp-more a.recs.now a.places.now l.out l.i _ fits l.invariant.3 s.ensures,
      n.ensures l.out fits l.invariant.4,
    )

pub returns : goal.returns
returns c =
    let l = c.loop-i in
    let a = c.args in
    let done : l.i ≡ a.t = omega arith in (
      stamps-all a.recs.now a.places.now l.out a.t (omega arith) (λ j low. l.invariant.3 j (omega arith)),
      subst (KeyedBy l.out l.keyed l.peaks) done l.invariant.4.keyed,
    )
