-- `table_soundness::is_sound_with` meets its contract: 16 is the last of the tests. Assumes nothing.
use mathlib.Core.Path.{refl, sym, ◌∙◌}
use Rattle.math_lists.proofs.Booleans.{clash}
use Rattle.table_drawing.specs.Tables.{Tables, tables_of}
use Rattle.table_soundness.proofs.SoundFacts.{but-at, but-off, named-decides, entered}
use Rattle.table_soundness.proofs.ObjectsByNumber.{entered-sets-few}
use Rattle.table_soundness.proofs.is_sound_with.Goals as goal
use Rattle.table_soundness.proofs.is_sound_with.Goals.{Start}

abbrev tables-of : Start → Tables
tables-of s = tables_of s.args.c s.args.records.now s.args.objects.now s.args.groups.now

pub returns-then-not-is_sound_but_named : goal.returns-then-not-is_sound_but_named
returns-then-not-is_sound_but_named c =
    let y = c.is_sound_but_named in
    let t = tables-of (goal.at.returns-then-not-is_sound_but_named c).Start in
    (but-off t y.result y.ensures.0 (c.if-not-is_sound_but_named.true), λ z. clash z refl)

pub are_all_named-requires : goal.are_all_named-requires
are_all_named-requires c =
    let y = c.is_sound_but_named in
    let t = tables-of (goal.at.are_all_named-requires c).Start in
    let s = but-at t (sym y.ensures.0 ∙ c.if-not-is_sound_but_named.false) in
    (s.few-records, entered-sets-few t (entered t s))

pub returns : goal.returns
returns c =
    let y = c.is_sound_but_named in
    let back = c in
    let t = tables-of (goal.at.returns c).Start in
    let yes = c.if-not-is_sound_but_named.false in
    let s = but-at t (sym y.ensures.0 ∙ yes) in
    let indexed = y.ensures.1 yes in
    let named = c.are_all_named.ensures t.counters.sites s.few-sites s.pass indexed in
    (named-decides t y.result c.are_all_named.result y.ensures.0 yes named, λ z. indexed)
