-- `list_line::alone::put_lone_settings` meets its contract: the settings of the keys passed stand behind the first n
-- bytes. Assumes nothing.
use mathlib.Core.Path.{◌≡◌, refl, ◌∙◌}
use native.Mathlib.Omega.{arith}
use lib.ListN.{take}
use Rattle.edit_record.specs.Layout.{keys}
use Rattle.list_line.proofs.LineTurns.{no_keys, key_more}
use Rattle.list_line.proofs.alone.put_lone_settings.Goals as goal

pub loop-k-init : goal.loop-k-init
loop-k-init c =
    let a = c.args in
    (omega arith, refl, no_keys _ a.g (take a.n a.out.now))

pub last_of-s-requires : goal.last_of-s-requires
last_of-s-requires c =
    let p = c.requires in
    (p.1, p.2, omega arith, p.3, p.4)

pub put_lone_setting-w-requires : goal.put_lone_setting-w-requires
put_lone_setting-w-requires c =
    let l = c.loop-k in
    let p = c.requires in
    (omega arith, omega (arith, p.0, l.invariant.0, l.invariant.1))

pub loop-k-preserved : goal.loop-k-preserved
loop-k-preserved c =
    let l = c.loop-k in
    let a = c.args in
    let put = c.put_lone_setting-w in (
      omega (arith, put.ensures.1, l.invariant.0),
      put.auto.out ∙ l.invariant.1,
      key_more _ a.g l.k _ (take a.n a.out.now) (take l.w l.out) _ l.invariant.2
          c.last_of-s.ensures put.ensures.0,
    )

pub returns : goal.returns
returns c =
    let l = c.loop-k in
    let done : l.k ≡ keys = omega arith in
    (rw (← done) l.invariant.2, omega (arith, l.invariant.0))
