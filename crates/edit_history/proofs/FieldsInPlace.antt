-- An edit by the bytes of its record, and its fields as the bytes where they stand in the table. Assumes nothing.
use mathlib.Core.Path.{◌≡◌, sym, ap, ◌∙◌}
use mathlib.Core.List.{List}
use Prim.Native.Nat.{ℕ, ◌+◌, ◌-◌, ◌*◌, ◌≤◌, ◌<◌}
use native.Mathlib.Omega.{arith}
use lib.ListN.{length, get_or, drop, length-drop}
use lib.Seq.{length-take-le, get_or-drop, get_or-take}
use Rattle.edit_record.specs.Layout.{most_sites, kind_at, site_at, seq_at, vector_at, target_at, key_at, target_seq_at}
use Rattle.edit_record.specs.Layout.{place_length, most_members}
use Rattle.edit_record.specs.RecordBytes.{two, decode_of, span_of}
use Rattle.edit_record.proofs.AgreeingBytes.{decode-agree}
use Rattle.edit_record.proofs.NumbersInBytes.{two-drop, counts-at}
use Rattle.edit_record.proofs.RecordSpans.{span-most, span-own}
use Rattle.edit_history.specs.EditsHeld.{bytes_at, record_at}

-- a record's own bytes give its edit
pub bytes-decoded : (rs : List ℕ) (p : ℕ) → decode_of (bytes_at rs p) ≡ record_at rs p
bytes-decoded rs p =
    let d = drop (p * place_length) rs in
    sym (decode-agree d (bytes_at rs p) (λ i l. sym (get_or-take (span_of d) d i 0 l)))

-- and they are a whole record, where the place is there and the members that are listed have room in it
pub bytes_whole :
    (rs : List ℕ) (p : ℕ) → p * place_length + place_length ≤ length rs → (record_at rs p).count ≤ most_members →
    length (bytes_at rs p) ≡ span_of (bytes_at rs p)
bytes_whole rs p there few =
    let d = drop (p * place_length) rs in
    let long : length d ≡ length rs - p * place_length = length-drop (p * place_length) rs in
    length-take-le (span_of d) d (omega (arith, span-most d few)) ∙ sym (span-own d)

pub kind-in-place : (rs : List ℕ) (p : ℕ) → (record_at rs p).kind ≡ get_or rs (p * place_length + kind_at) 0
kind-in-place rs p = get_or-drop (p * place_length) rs kind_at 0

pub site-in-place : (rs : List ℕ) (p : ℕ) → (record_at rs p).site.0 ≡ get_or rs (p * place_length + site_at) 0
site-in-place rs p = get_or-drop (p * place_length) rs site_at 0

pub seq-in-place : (rs : List ℕ) (p : ℕ) → (record_at rs p).seq.0 ≡ two rs (p * place_length + seq_at)
seq-in-place rs p = two-drop (p * place_length) rs seq_at

pub key-in-place : (rs : List ℕ) (p : ℕ) → (record_at rs p).key ≡ get_or rs (p * place_length + key_at) 0
key-in-place rs p = get_or-drop (p * place_length) rs key_at 0

pub target-in-place : (rs : List ℕ) (p : ℕ) → (record_at rs p).tsite.0 ≡ get_or rs (p * place_length + target_at) 0
target-in-place rs p = get_or-drop (p * place_length) rs target_at 0

pub target-seq-in-place :
    (rs : List ℕ) (p : ℕ) → (record_at rs p).tseq.0 ≡ two rs (p * place_length + target_seq_at)
target-seq-in-place rs p = two-drop (p * place_length) rs target_seq_at

pub entry-in-place :
    (rs : List ℕ) (p s : ℕ) → s < most_sites →
    get_or (record_at rs p).vector s 0 ≡ two rs (p * place_length + vector_at + 2 * s)
entry-in-place rs p s l =
    counts-at most_sites (drop vector_at (drop (p * place_length) rs)) s l
    ∙ two-drop vector_at (drop (p * place_length) rs) (2 * s)
    ∙ two-drop (p * place_length) rs (vector_at + 2 * s)
    ∙ ap (two rs) (omega arith)
