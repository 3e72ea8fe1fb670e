-- `table_engine::put_masks` meets its contract. Assumes nothing.
use mathlib.Core.Path.{◌≡◌, sym, subst, ◌∙◌}
use mathlib.Core.Bool.{false}
use mathlib.Core.List.{List}
use Prim.Native.Nat.{◌≤◌}
use native.Mathlib.Omega.{arith}
use lib.ListN.{length}
use Rattle.math_lists.specs.SortedLists.{Asc, any}
use Rattle.edit_record.specs.declared.Edit.{Edit}
use Rattle.edit_record.specs.Answer1.{is_limited}
use Rattle.group_sight.specs.SightForms.{sets_in}
use Rattle.table_sets.specs.KeyForms.{Tells}
use Rattle.table_engine.specs.Enumeration.{most_decided}
use Rattle.table_engine.specs.EngineForms.{MasksTell}
use Rattle.table_engine.proofs.BoxPrepared.{few-of, told_of}
use borrow.Author.Rules.{rules}
use Rattle.table_engine.proofs.put_masks.Goals as goal
use Rattle.table_engine.proofs.put_masks.Goals.{After-are_all_named-named}

-- what `put_plainly` asks, where no Set is limited and they are few enough
asked : (y : After-are_all_named-named) →
    let a = y.args in
    let sets = sets_in a.recs.now a.members.now a.k in
    a.k ≤ most_decided →
    (a.k ≤ length a.members.now)
    × (a.k ≤ most_decided)
    × (a.k ≤ length a.masks.now)
    × (any is_limited sets ≡ false)
    × Asc Tells sets
asked y few =
    let x = y in
    let s = x in
    let a = s.args in
    let most = few-of a.c a.recs.now a.index.now a.p a.k s.requires.0 in (
      omega (arith, most, s.requires.1),
      few,
      omega (arith, few, s.requires.2),
      sym x.is_any_limited-limited.ensures ∙ y.if-limited.false,
      told_of a.c a.recs.now a.index.now a.p a.k s.requires.0 a.members.now s.requires.3,
    )

pub is_any_limited-limited-requires : goal.is_any_limited-limited-requires
is_any_limited-limited-requires c =
    let s = c in
    let a = s.args in
    let few = few-of a.c a.recs.now a.index.now a.p a.k s.requires.0 in
    search (rules, few)

pub put_plainly-requires : goal.put_plainly-requires
put_plainly-requires c = asked (goal.at.put_plainly-requires c).After-are_all_named-named (omega arith)

pub returns-then-k-eq-DECIDED : goal.returns-then-k-eq-DECIDED
returns-then-k-eq-DECIDED c =
    let x = c in
    let s = x in
    let a = s.args in
    let b = s.requires.0 in
    let m = c.put_plainly in
    record {
      decides = x.are_all_named-named.ensures a.c.sites b.holds.few-sites b.holds.pass b.indexed;
      masked = λ on few.
          subst (λ (xs : List Edit). MasksTell a.k xs m.new.masks) s.requires.3 m.ensures;
    }

pub put_plainly-requires-then-k-lt-DECIDED : goal.put_plainly-requires-then-k-lt-DECIDED
put_plainly-requires-then-k-lt-DECIDED c = asked (goal.at.put_plainly-requires-then-k-lt-DECIDED c).After-are_all_named-named (omega arith)

pub returns-then-k-lt-DECIDED : goal.returns-then-k-lt-DECIDED
returns-then-k-lt-DECIDED c =
    let x = c in
    let s = x in
    let a = s.args in
    let b = s.requires.0 in
    let m = c.put_plainly-then-k-lt-DECIDED in
    record {
      decides = x.are_all_named-named.ensures a.c.sites b.holds.few-sites b.holds.pass b.indexed;
      masked = λ on few.
          subst (λ (xs : List Edit). MasksTell a.k xs m.new.masks) s.requires.3 m.ensures;
    }

pub returns : goal.returns
returns c =
    let x = c in
    let s = x in
    let a = s.args in
    let b = s.requires.0 in
    record {
      decides = x.are_all_named-named.ensures a.c.sites b.holds.few-sites b.holds.pass b.indexed;
      masked = λ on few. absurd (omega arith);
    }
