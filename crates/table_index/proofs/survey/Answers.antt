-- `table_index::survey` meets its contract. Assumes nothing.
use mathlib.Core.Path.{◌≡◌, sym, ◌∙◌}
use mathlib.Core.Bool.{false}
use borrow.Author.Tests.{not-true, not-false}
use Rattle.std.proofs.lemmas.Option.{none-some, same_Some}
use Rattle.table_index.proofs.survey.Goals as goal

pub aim_of-a-requires : goal.aim_of-a-requires
aim_of-a-requires c =
    let s = c in
    (s.requires.0, s.requires.2.indexed, s.requires.3, s.requires.4, s.requires.5)

pub returns-then-not-a : goal.returns-then-not-a
returns-then-not-a c =
    let a = c.aim_of-a in
    let off : a.result.held ≡ false = not-true a.result.held c.if-not-a.true in
    record { torn = a.ensures.0; found = sym off ∙ a.ensures.1; whole = λ h y. absurd (none-some h y) }

pub survey_held-held-requires : goal.survey_held-held-requires
survey_held-held-requires c =
    let a = c.aim_of-a in
    let z = c in
    let s = z in (
      s.requires.0,
      s.requires.1,
      s.requires.2,
      s.requires.3,
      s.requires.4,
      sym a.ensures.1 ∙ not-false a.result.held c.if-not-a.false,
    )

pub returns : goal.returns
returns c =
    let a = c.aim_of-a in
    record {
      torn = a.ensures.0;
      found = sym (not-false a.result.held c.if-not-a.false) ∙ a.ensures.1;
      whole = λ h y. sym (same_Some _ h y) ∙ c.survey_held-held.ensures;
    }
