-- `list_line::put_settings` meets its contract: the settings of the keys passed stand behind the first n bytes.
-- Assumes nothing.
use mathlib.Core.Path.{◌≡◌, refl, sym, ◌∙◌}
use native.Mathlib.Omega.{arith}
use lib.ListN.{take}
use Rattle.edit_record.specs.Layout.{keys}
use Rattle.list_line.proofs.LineTurns.{no_keys, key_more}
use Rattle.list_line.proofs.put_settings.Goals as goal

pub loop-k-init : goal.loop-k-init
loop-k-init c =
    let start = c in
    let a = start.args in
    (omega arith, refl, start.requires.1, no_keys _ a.g (take a.n a.out.now), λ i x l e. e)

pub last_of-s-requires : goal.last_of-s-requires
last_of-s-requires c =
    let p = c.requires in
    (p.2, p.3, omega arith, p.4, p.5)

pub put_setting-w-requires : goal.put_setting-w-requires
put_setting-w-requires c =
    let looped = c in
    let l = looped.loop-k in
    let p = looped.requires in
    (omega arith, omega (arith, p.0, l.invariant.0, l.invariant.1), l.invariant.2)

pub loop-k-preserved : goal.loop-k-preserved
loop-k-preserved c =
    let s8 = c in
    let found = s8 in
    let looped = found in
    let l = looped.loop-k in
    let a = looped.args in
    let put = s8.put_setting-w in (
      omega (arith, put.ensures.1, l.invariant.0),
      put.auto.out ∙ l.invariant.1,
      put.ensures.2,
      key_more _ a.g l.k _ (take a.n a.out.now) (take l.w l.out) _ l.invariant.3
          found.last_of-s.ensures put.ensures.0,
      λ i x low e. put.ensures.3 i x low (l.invariant.4 i x low e),
    )

pub shape_of-out : goal.shape_of-out
shape_of-out c = c.loop-k.invariant.1

pub shape_of-texts : goal.shape_of-texts
shape_of-texts c =
    let looped = c in
    let start = looped in
    looped.loop-k.invariant.2.texts-long ∙ sym start.requires.1.texts-long

pub shape_of-lens : goal.shape_of-lens
shape_of-lens c =
    let looped = c in
    let start = looped in
    looped.loop-k.invariant.2.lens-long ∙ sym start.requires.1.lens-long

pub shape_of-told : goal.shape_of-told
shape_of-told c =
    let looped = c in
    let start = looped in
    looped.loop-k.invariant.2.told-long ∙ sym start.requires.1.told-long

pub returns : goal.returns
returns c =
    let l = c.loop-k in
    let done : l.k ≡ keys = omega arith in
    (rw (← done) l.invariant.3, omega (arith, l.invariant.0), l.invariant.2, l.invariant.4)
