-- `group_limited::sight_of` meets its contract. Assumes nothing.
use mathlib.Core.Path.{◌≡◌, ap}
use mathlib.Core.List.{List}
use Prim.Native.Nat.{ℕ, ◌-◌}
use native.Mathlib.Omega.{arith}
use lib.Dec.{eqb}
use lib.ListN.{length, take, drop}
use lib.Seq.{take_all}
use Rattle.edit_record.specs.Layout.{limited_kind}
use Rattle.edit_history.proofs.EditsInPlaces.{sets-length}
use Rattle.group_sight.specs.declared.Marks.{Marks}
use Rattle.group_sight.proofs.NamesOfSets.{names-there}
use Rattle.group_limited.proofs.sight_of.Goals as goal

-- the whole of what is lent is lent on as a part
whole : (s : List ℕ) → take (length s - 0) (drop 0 s) ≡ s
whole s = take_all (length s - 0) s (omega arith)

pub returns : goal.returns
returns c =
    let s = c in
    let a = s.args in
    let rs = a.recs.now in
    let ps = a.places.now in
    let size = sets-length rs ps a.k s.requires.1 in
    let marks = c.marks_of-m.ensures in
    let listed = rw (whole a.names.now, whole a.rec.now) at c.list_of-l.ensures in (
      marks.0,
      λ tell law.
          let m = marks.1 tell law in
          let l = listed _ size (names-there rs ps a.k s.requires.1 a.names.now s.requires.4)
          (ap (λ (x : Marks). x.seen) m) in
          record {
            plain = ap (λ (x : Marks). x.plain) m;
            seen = ap (λ (x : Marks). x.seen) m;
            named = l.0;
            limited = ap (λ (x : ℕ). eqb x limited_kind) c.byte_at.ensures;
            strange = l.1;
          },
    )
