-- `table_engine::enumerate_groups` meets its contract. Assumes nothing.
use mathlib.Core.Path.{refl, sym, ap, ◌∙◌}
use mathlib.Core.List.{List}
use Prim.Native.Nat.{ℕ}
use native.Mathlib.Omega.{arith}
use lib.ListN.{length}
use Rattle.std.proofs.lemmas.Result.{err_from_is_err_and}
use Rattle.edit_causal.proofs.ConflictsAmongSets.{none-itself}
use Rattle.edit_history.specs.EditsHeld.{sets_on}
use Rattle.edit_object.specs.CreateHeld.{is_held}
use Rattle.table_drawing.specs.Tables.{tables_of, held_by}
use Rattle.table_drawing.proofs.RefusalNumbers.{refused}
use Rattle.table_soundness.specs.Sound.{sound}
use Rattle.table_soundness.proofs.SoundFacts.{sound-at}
use Rattle.table_arrival.proofs.ProperWith.{proper-held}
use Rattle.table_engine.specs.EngineForms.{found_as}
use Rattle.table_engine.proofs.MasksOfSets.{masks-fit, masks-groups}
use Rattle.table_engine.proofs.EnumerationOutcomes.{none_left, refused-with, found-with}
use Rattle.table_engine.proofs.enumerate_groups.Goals as goal

pub returns-in_err-k : goal.returns-in_err-k
returns-in_err-k c =
    let a = c.args in
    let t = tables_of a.c a.records.now a.objects.now a.groups.now in
    let p = err_from_is_err_and c.from_residual.result c.from_residual.ensures.1 in
    rw (p.1, p.2)
    (refused-with t a.site a.seq a.out.now _ c.in_err-k.ensures.refused (refused c.in_err-k.field-0.0))

pub search-requires : goal.search-requires
search-requires c =
    let p = c.in_ok-k.ensures in
    let a = c.args in
    let t = tables_of a.c a.records.now a.objects.now a.groups.now in
    let xs = sets_on a.site a.seq (held_by t) in
    let many = p.counted _ refl in
    let (on, long, _, few) =
    none_left (sound t) (length a.out.now) (is_held (held_by t) a.site a.seq) (length xs) (sym p.refused) in (
      omega (arith, many, few),
      omega (arith, many, few, c.prepare.auto.masks),
      long,
      masks-fit xs _ many _ (p.masked _ refl) (none-itself xs (proper-held t (sound-at t on) a.site a.seq)),
    )

pub returns : goal.returns
returns c =
    let p = c.in_ok-k.ensures in
    let a = c.args in
    let t = tables_of a.c a.records.now a.objects.now a.groups.now in
    let xs = sets_on a.site a.seq (held_by t) in
    c.search.ensures
    ∙ ap (λ (gs : List ℕ). found_as gs a.out.now)
    (masks-groups xs c.in_ok-k.k (p.counted _ refl) c.prepare.new.masks (p.masked _ refl))
    ∙ found-with t a.site a.seq a.out.now (sym p.refused)
