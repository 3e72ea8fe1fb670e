-- `list_line::put_setting` meets its contract: a setting that is kept, one formed anew, or nothing. Assumes nothing.
use mathlib.Core.Path.{sym, ◌∙◌}
use mathlib.Core.List.{append-nil}
use Prim.Native.Nat.{◌<◌}
use native.Mathlib.Omega.{arith}
use borrow.Author.Tests.{eq-eqb}
use Rattle.list_line.specs.LineForms.{pieces}
use Rattle.list_line.proofs.KeptPieces.{stands}
use Rattle.list_line.proofs.put_setting.Goals as goal

pub returns-then-s-eq0 : goal.returns-then-s-eq0
returns-then-s-eq0 c =
    let s = c in
    (rw (eq-eqb s.args.s 0 c.if-s-eq0.true) (sym (append-nil _)), omega arith, s.requires.2, λ i x l e. e)

pub is_kept-requires : goal.is_kept-requires
is_kept-requires c =
    let kept = c.requires.2 in (
      omega (arith, c.requires.0, kept.lens-long),
      omega
          (arith, c.requires.0, kept.told-long),
    )

pub put_piece-requires : goal.put_piece-requires
put_piece-requires c =
    let s = c in
    let kept = s.requires.2 in
    let low : s.args.key < pieces = omega (arith, s.requires.0) in
    (low, kept.texts-long, kept.lens-long, omega (arith, kept.few s.args.key s.requires.0), s.requires.1)

pub returns-then-is_kept : goal.returns-then-is_kept
returns-then-is_kept c =
    let s = c in
    let a = s.args in
    let kept = s.requires.2 in
    let here = stands kept a.key a.s s.requires.0 (sym c.is_kept.ensures ∙ c.if-is_kept.true) in
    let put = c.put_piece in (
      put.ensures.0 ∙ rw here,
      omega (arith, put.ensures.1, kept.few a.key s.requires.0),
      kept,
      λ i x l e. e,
    )

pub put_anew-requires : goal.put_anew-requires
put_anew-requires c =
    let s = c in (
      s.requires.0,
      omega (arith, c.if-s-eq0.false),
      s.requires.1,
      s.requires.2,
    )

pub returns : goal.returns
returns c = c.put_anew.ensures
