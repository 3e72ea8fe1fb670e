-- `edit_next::whole::is_passing_with` meets its contract: where all is seen, 1 and 5 decide. Assumes nothing.
use Rattle.edit_record.specs.RecordBytes.{decode_of}
use Rattle.edit_next.proofs.AllSeen.{all-tells}
use Rattle.edit_next.proofs.whole.is_passing_with.Goals as goal

pub returns-then-all : goal.returns-then-all
returns-then-all c =
    let s = c in
    all-tells s.args.sites s.requires.3 (decode_of s.args.rec.now) (s.requires.4 c.if-all.true)
    c.is_fit_and_aimed.ensures
