-- `table_soundness::rest_sound` meets its contract. Assumes nothing.
use borrow.Author.Rules.{rules}
use Rattle.table_drawing.specs.Tables.{tables_of}
use Rattle.table_soundness.proofs.SoundTests.{counts-agree, few, group-room, rest-is}
use Rattle.table_soundness.proofs.rest_sound.Goals as goal

pub objects_sound-each-requires : goal.objects_sound-each-requires
objects_sound-each-requires c =
    let s = c in
    let a = s.args in
    let (_, m) = few a.c s.requires.limits in
    let room = group-room a.records.now a.objects.now a.groups.now s.requires.lengths in
    (m, room, s.requires.gathered.numbered, s.requires.gathered.tallied)

pub unused_zero-zero-requires : goal.unused_zero-zero-requires
unused_zero-zero-requires c =
    let s = c in
    few s.args.c s.requires.limits

pub returns : goal.returns
returns c =
    let x = c in
    let s = x in
    let a = s.args in
    let t = tables_of a.c a.records.now a.objects.now a.groups.now in
    rw (
      c.unused_zero-zero.ensures,
      c.objects_sound-each.ensures,
      s.requires.gathered.made,
      s.requires.gathered.sum,
      counts-agree t.counters.held a.g.held (search rules) (search rules) _ c.eq-agree.ensures,
    )
    (rest-is t _ _ _ s.requires)
