-- `edit_record::writing::encode_fields` meets its contract: each part of the record stands behind those before it.
-- Assumes nothing.
use mathlib.Core.Path.{sym, ◌∙◌}
use lib.ListN.{take}
use Rattle.edit_record.specs.Layout.{value_at}
use Rattle.edit_record.proofs.Encoding.{four-of-counts, parts-in-turn}
use Rattle.edit_record.proofs.writing.encode_fields.Goals as goal

pub returns : goal.returns
returns c =
    c.with_four.ensures
    ∙ sym (four-of-counts (take value_at c.with_count-named.result) c.args.e.value)
    ∙ rw (
      c.with_count-named.ensures,
      c.with_two-target.ensures,
      c.with_vector-seen.ensures,
      c.with_count-own.ensures,
      c.with_two-author.ensures,
    )
    (parts-in-turn c.args.e)
