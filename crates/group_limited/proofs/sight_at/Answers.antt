-- `group_limited::sight_at` meets its contract. Assumes nothing.
use mathlib.Core.Path.{sym, subst}
use mathlib.Core.List.{List}
use Prim.Native.Nat.{ℕ, ◌*◌, ◌-◌}
use native.Mathlib.Omega.{arith}
use lib.ListN.{length, drop, length-drop, drop_of_length-le}
use lib.Seq.{take_all}
use Rattle.edit_record.specs.Layout.{place_length}
use Rattle.edit_record.specs.RecordBytes.{decode_of}
use Rattle.group_limited.specs.LimitedForms.{SightOf}
use Rattle.group_sight.specs.SightForms.{sets_in, SightedTo}
use Rattle.group_limited.proofs.sight_at.Goals as goal

pub returns-then-at-recs : goal.returns-then-at-recs
returns-then-at-recs c =
    let a = c.args in
    let rs = a.recs.now in
    let at = a.p * place_length in
    let ms = sets_in rs a.places.now a.k in
    let s = c.sight_of in (
      s.ensures.0,
      subst
          (λ (l : List ℕ). SightedTo ms (decode_of l) a.sees.now (SightOf ms (decode_of l) s.result))
          (take_all (length rs - at) (drop at rs) (simp length-drop (omega arith))) s.ensures.1,
    )

pub returns-else-at-recs : goal.returns-else-at-recs
returns-else-at-recs c =
    let a = c.args in
    let rs = a.recs.now in
    let ms = sets_in rs a.places.now a.k in
    let s = c.sight_of-else-at-recs in (
      s.ensures.0,
      subst
          (λ (l : List ℕ). SightedTo ms (decode_of l) a.sees.now (SightOf ms (decode_of l) s.result))
          (sym (drop_of_length-le rs {i = a.p * place_length} (omega arith))) s.ensures.1,
    )
