-- `table_soundness::is_sound_within` meets its contract: what is gathered tells all but 16. Assumes nothing.
use mathlib.Core.Path.{refl, sym}
use native.Mathlib.Omega.{arith}
use Rattle.math_lists.proofs.Booleans.{clash}
use Rattle.table_drawing.specs.Tables.{tables_of}
use Rattle.table_soundness.proofs.SoundTests.{few, few-sites, record-room, not_right}
use Rattle.table_soundness.proofs.is_sound_within.Goals as goal

pub gather-requires : goal.gather-requires
gather-requires c =
    let s = c in
    let a = s.args in
    let (n, _) = few a.c s.requires.1 in
    let long = record-room a.records.now a.objects.now a.groups.now s.requires.0 in
    (few-sites a.c s.requires.1, s.requires.2, n, omega (arith, long, n), s.requires.3, refl, refl)

pub returns-in_default : goal.returns-in_default
returns-in_default c =
    let a = c.args in
    let t = tables_of a.c a.records.now a.objects.now a.groups.now in
    (sym (not_right t c.in_default.ensures), λ h. clash h refl)

pub rest_sound-requires : goal.rest_sound-requires
rest_sound-requires c = record {
  lengths = c.requires.0;
  limits = c.requires.1;
  gathered = c.in-Some.ensures.0;
}

pub returns : goal.returns
returns c = (c.rest_sound.ensures, λ h. c.in-Some.ensures.1)
