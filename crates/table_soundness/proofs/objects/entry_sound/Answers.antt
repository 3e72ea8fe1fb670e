-- `table_soundness::objects::entry_sound` meets its contract: what the numbers and the tallies say counts only where p
-- is the place of a record. Assumes nothing.
use mathlib.Core.Path.{◌∙◌}
use lib.Dec.{eqb, leb, ltb}
use lib.ListN.{length}
use borrow.Author.Tests.{ltb-true}
use Rattle.edit_record.specs.Answer1.{is_create}
use Rattle.edit_history.specs.EditsHeld.{record_at, edits_of, creates, sets_on}
use Rattle.group_step.specs.GroupRows.{most_sets}
use Rattle.table_soundness.specs.Sound.{entry_sound}
use Rattle.table_soundness.proofs.SoundTests.{where-first}
use Rattle.table_soundness.proofs.objects.entry_sound.Goals as goal

pub returns : goal.returns
unfolding entry_sound
returns c =
    let s = c in
    let a = s.args in
    let rs = a.recs.now in
    let e = record_at rs a.p in
    rw c.kind_at-kind.ensures
    (where-first (ltb a.p a.n) (is_create e) (eqb c.byte_at-number.result a.o)
    (eqb a.k c.byte_at-tally.result) (eqb (length (creates (edits_of rs a.p))) a.o)
    (eqb a.k (length (sets_on e.site e.seq (edits_of rs a.n)))) (leb a.k most_sets)
    (λ h. rw (c.byte_at-number.ensures ∙ s.requires.1 a.p (ltb-true a.p a.n h)))
    (λ h. rw (c.byte_at-tally.ensures ∙ s.requires.2 a.p (ltb-true a.p a.n h))))
