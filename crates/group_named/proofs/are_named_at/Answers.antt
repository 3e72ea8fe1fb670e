-- `group_named::are_named_at` meets its contract: the Sets in the places that are gathered are those on the Create.
-- Assumes nothing.
use mathlib.Core.Path.{◌≡◌, sym, ap, subst, ◌∙◌}
use mathlib.Core.Bool.{true, ◌||◌}
use mathlib.Core.List.{List}
use native.Mathlib.Omega.{arith}
use lib.ListN.{length}
use borrow.Author.Tests.{eq-eqb, ne_eqb, not-true}
use Rattle.math_lists.specs.SortedLists.{any}
use Rattle.math_lists.proofs.Booleans.{clash, neither}
use Rattle.math_contexts.specs.Box.{Lawful}
use Rattle.edit_record.specs.declared.Edit.{Edit}
use Rattle.edit_record.specs.Layout.{create_kind}
use Rattle.edit_record.specs.Answer1.{is_create, is_limited}
use Rattle.edit_causal.specs.Conflict.{box_on}
use Rattle.edit_history.specs.EditsHeld.{record_at, edits_of, sets_on}
use Rattle.edit_history.proofs.EditsInPlaces.{sets-length}
use Rattle.group_limited.specs.LimitedForms.{named_in_turn}
use Rattle.group_named.specs.NamedForms.{is_named_at}
use Rattle.group_named.proofs.SetsGathered.{gathered, told_of}
use Rattle.group_named.proofs.BoxesNamed.{plain-in-turn}
use Rattle.group_named.proofs.are_named_at.Goals as goal

pub returns-then-kind_at-ne-CREATE : goal.returns-then-kind_at-ne-CREATE
unfolding is_named_at
returns-then-kind_at-ne-CREATE c chained law =
    let a = c.args in
    let kind = (record_at a.recs.now a.p).kind in
    let none = ne_eqb kind create_kind (λ q. c.if-kind_at-ne-CREATE.true (c.kind_at.ensures ∙ q)) in
    (rw none, λ asked h create. clash create none)

pub is_any_limited-limited-requires : goal.is_any_limited-limited-requires
is_any_limited-limited-requires c =
    let back = c in
    let g = c.gather_sets-k in
    let s = back in
    omega (arith, g.ensures.0, g.auto.out, s.requires.3)

pub returns-then-not-limited-asked : goal.returns-then-not-limited-asked
unfolding is_named_at
returns-then-not-limited-asked c chained law =
    let g = c.gather_sets-k in
    let y = c in
    let s = y in
    let a = s.args in
    let rs = a.recs.now in
    let e = record_at rs a.p in
    let ms = sets_on e.site e.seq (edits_of rs a.n) in
    let create : is_create e ≡ true
    = eq-eqb e.kind create_kind (sym y.kind_at.ensures ∙ y.if-kind_at-ne-CREATE.false) in
    let same = gathered rs a.p a.n g.result a.chain.now g.new.out s.requires.1 create chained
    (s.requires.2 e.site e.seq) g.ensures.1 in
    let i = c.is_any_limited-limited in
    let (none, plainly) = neither i.result a.asked (not-true (i.result || a.asked) c.if-not-limited-asked.true-raw) in (
      rw create (sym (plain-in-turn ms (sym (ap (any is_limited) same) ∙ sym i.ensures ∙ none))),
      λ asked. clash asked plainly,
    )

pub are_named-requires : goal.are_named-requires
are_named-requires c =
    let y = c in
    let g = y.gather_sets-k in
    let s = y in (
      g.ensures.0,
      omega (arith, g.ensures.0, g.auto.out, s.requires.3),
      omega (arith, g.ensures.0, s.requires.7),
      omega (arith, g.ensures.0, s.requires.4),
      omega (arith, g.ensures.0, s.requires.5),
      omega (arith, g.ensures.0, s.requires.6),
    )

pub returns : goal.returns
unfolding is_named_at
returns c chained law =
    let back = c in
    let far = back in
    let named = back.are_named in
    let y = far in
    let g = y.gather_sets-k in
    let z = y in
    let s = z in
    let a = s.args in
    let rs = a.recs.now in
    let e = record_at rs a.p in
    let ms = sets_on e.site e.seq (edits_of rs a.n) in
    let create : is_create e ≡ true
    = eq-eqb e.kind create_kind (sym z.kind_at.ensures ∙ z.if-kind_at-ne-CREATE.false) in
    let same = gathered rs a.p a.n g.result a.chain.now g.new.out s.requires.1 create chained
    (s.requires.2 e.site e.seq) g.ensures.1 in
    let size : length ms ≡ g.result
    = ap length (sym same)
    ∙ sets-length rs g.new.out g.result (omega (arith, g.ensures.0, g.auto.out, s.requires.3)) in
    let lawful = subst (λ (m : List Edit). Lawful (box_on m) g.result) (sym same)
    (subst (Lawful (box_on ms)) size (law e.site e.seq)) in
    let by = named.ensures.1 lawful in (
      rw create (by.named ∙ ap named_in_turn same),
      λ asked h create.
          told_of rs g.new.out g.result ms same size named.result _ _ _ _ named.ensures.0 by h,
    )
