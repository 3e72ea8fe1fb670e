-- The fields of a record by its bytes copied out of the table. Assumes nothing.
use mathlib.Core.Path.{◌≡◌, sym, ap, ap₂, ◌∙◌}
use mathlib.Core.List.{List}
use Prim.Native.Nat.{ℕ, ◌+◌, ◌-◌, ◌*◌, ◌≤◌, ◌<◌}
use native.Mathlib.Omega.{arith}
use lib.Dec.{lit<}
use lib.ListN.{length, get_or, take, drop}
use lib.Seq.{ext_get_or, get_or-take, get_or-drop}
use Rattle.edit_record.specs.Layout.{most_sites, site_at, seq_at, vector_at, key_at, value_at, record_length, place_length}
use Rattle.edit_record.specs.RecordBytes.{two, four, counts}
use Rattle.edit_record.proofs.NumbersInBytes.{counts-length, entry-in-record}
use Rattle.edit_history.specs.EditsHeld.{record_at}
use Rattle.edit_history.proofs.FieldsInPlace.{site-in-place, seq-in-place, key-in-place, entry-in-place}
use Rattle.table_sets.specs.FieldForms.{Copied, HasFields}
use Rattle.table_sets.proofs.MarksByKey.{value-in-place}

two-copied :
    (b rs : List ℕ) (at i : ℕ) → Copied b rs at → i + 1 < record_length → two b i ≡ two rs (at + i)
two-copied b rs at i h l =
    ap₂ (λ (x y : ℕ). x + y * 256) (h i (omega arith)) (h (i + 1) l ∙ ap (λ (k : ℕ). get_or rs k 0) (omega arith))

pub fields_copied : (b rs : List ℕ) (p : ℕ) → Copied b rs (p * place_length) → HasFields b (record_at rs p)
fields_copied b rs p h =
    let at = p * place_length in
    let v = (record_at rs p).vector in
    let one : (i : ℕ) → i < most_sites → get_or (counts most_sites (drop vector_at b)) i 0 ≡ get_or v i 0
    = λ i l.
    entry-in-record b i l
    ∙ two-copied b rs at (vector_at + 2 * i) h (omega arith)
    ∙ ap (two rs) (omega arith)
    ∙ sym (entry-in-place rs p i l) in
    let long = counts-length most_sites (drop vector_at b) in
    let same = long ∙ sym (counts-length most_sites (drop vector_at (drop at rs))) in
    let value : four b value_at ≡ four rs (at + value_at)
    = ap₂ (λ (x y : ℕ). x + y * 65536) (two-copied b rs at value_at h (lit< tt))
    (two-copied b rs at (value_at + 2) h (lit< tt) ∙ ap (two rs) (omega arith)) in
    record {
      site = h site_at (lit< tt) ∙ sym (site-in-place rs p);
      seq = two-copied b rs at seq_at h (lit< tt) ∙ sym (seq-in-place rs p);
      vector = ext_get_or 0 (counts most_sites (drop vector_at b)) v same (λ i l. one i (omega (arith, long)));
      key = h key_at (lit< tt) ∙ sym (key-in-place rs p);
      value = value ∙ sym (value-in-place rs p);
    }

-- the bytes where they stand, all of them there
pub fields-in-part :
    (rs : List ℕ) (p : ℕ) → p * place_length + record_length ≤ length rs →
    HasFields (take (p * place_length + record_length - p * place_length) (drop (p * place_length) rs)) (record_at rs p)
fields-in-part rs p l =
    let at = p * place_length in
    fields_copied (take (at + record_length - at) (drop at rs)) rs p
    (λ i m. get_or-take (at + record_length - at) (drop at rs) i 0 (omega arith) ∙ get_or-drop at rs i 0)
