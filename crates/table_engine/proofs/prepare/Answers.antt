-- `table_engine::prepare` meets its contract. Assumes nothing.
use mathlib.Core.Path.{refl, sym, subst, ◌∙◌}
use mathlib.Core.Bool.{Bool}
use Rattle.edit_history.specs.EditsHeld.{edits_of}
use Rattle.table_drawing.specs.Tables.{tables_of}
use Rattle.table_soundness.specs.Sound.{sound}
use Rattle.table_soundness.proofs.SoundFacts.{but-at, but-off, named-decides}
use Rattle.table_arrival.proofs.CodeInHand.{but-holds}
use Rattle.table_engine.specs.EngineForms.{PreparedFor}
use Rattle.table_engine.proofs.BoxPrepared.{unsound-prepared}
use Rattle.table_engine.proofs.prepare.Goals as goal

pub returns-then-not-is_sound_but_named : goal.returns-then-not-is_sound_but_named
returns-then-not-is_sound_but_named c =
    let a = c.args in
    let t = tables_of a.c a.records.now a.objects.now a.groups.now in
    let s = c.is_sound_but_named in
    unsound-prepared (sound t)
    (sym (but-off t s.result s.ensures.0 c.if-not-is_sound_but_named.true)) _ _ _ _ _

pub prepare_held-requires : goal.prepare_held-requires
prepare_held-requires c =
    let x = c in
    let a = x.args in
    let t = tables_of a.c a.records.now a.objects.now a.groups.now in
    let s = c.is_sound_but_named in
    let on = c.if-not-is_sound_but_named.false in
    (but-holds t (but-at t (sym s.ensures.0 ∙ on)), s.ensures.1 on, x.requires)

pub returns : goal.returns
returns c =
    let p = c.prepare_held in
    let x = c in
    let a = x.args in
    let t = tables_of a.c a.records.now a.objects.now a.groups.now in
    let es = edits_of a.records.now a.c.records in
    let ms = p.new.masks in
    let s = x.is_sound_but_named in
    let on = c.if-not-is_sound_but_named.false in
    subst (λ (b : Bool). PreparedFor b es a.site a.seq a.long ms p.result)
    (named-decides t s.result _ s.ensures.0 on refl) p.ensures
