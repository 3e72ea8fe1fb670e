-- The bytes of a record by themselves. No one need believe it: laws in proofs/ tie it to the record where it stands.
-- Assumes nothing.
use Rattle.std.specs.Prelude.{◌≡◌, List, ℕ, ◌+◌, ◌<◌, get_or, drop}
use Rattle.edit_record.specs.declared.Edit.{Edit}
use Rattle.edit_record.specs.Layout.{most_sites, site_at, seq_at, vector_at, key_at, value_at, record_length}
use Rattle.edit_record.specs.RecordBytes.{two, four, counts}

-- b are the bytes of a record that stand in rs from `at` on
abbrev pub Copied : List ℕ → List ℕ → ℕ → Type 0
Copied b rs at = (i : ℕ) → i < record_length → get_or b i 0 ≡ get_or rs (at + i) 0

-- b has the fields of the Set e
pub record HasFields (b : List ℕ) (e : Edit) : Type 0 where
  pub site : get_or b site_at 0 ≡ e.site.0
  pub seq : two b seq_at ≡ e.seq.0
  pub vector : counts most_sites (drop vector_at b) ≡ e.vector
  pub key : get_or b key_at 0 ≡ e.key
  pub value : four b value_at ≡ e.value
