-- What is written: the block in a part that is lent, and the outcomes of writing. Assumes nothing.
use mathlib.Core.Path.{◌≡◌, sym, ap, ap₂, ◌∙◌}
use mathlib.Core.Bool.{true, false}
use mathlib.Core.List.{List, ◌++◌, append_assoc}
use Prim.Native.Nat.{ℕ, zero, suc, ◌+◌, ◌-◌, ◌*◌, ◌≤◌, ◌<◌}
use native.Mathlib.Omega.{arith}
use lib.ListN.{length, take, drop, length-append, length-drop}
use lib.Seq.{take_all, take_at, drop_at, drop-drop}
use lib.Dec.{leb}
use borrow.Rule.Slice.PartMut.{mid_of, put_mid}
use Rattle.edit_record.specs.Layout.{place_length}
use Rattle.edit_record.specs.RecordBytes.{span_of}
use Rattle.edit_record.proofs.RecordSpans.{span-most, span-own}
use Rattle.edit_form.specs.OldForm.{chained}
use Rattle.edit_history.specs.EditsHeld.{bytes_at}
use Rattle.edit_history.proofs.FieldsInPlace.{bytes_whole}
use Rattle.edit_sum.specs.WordSum.{ListsFit}
use Rattle.table_drawing.specs.Tables.{Tables}
use Rattle.table_soundness.specs.Sound.{sound}
use Rattle.block_trailer.proofs.TrailerBytes.{trailer-long}
use Rattle.block_trailer.specs.Trailer.{trailer_length, trailer_of}
use Rattle.block_store.specs.Writing.{record_bytes, block_of, writing_of}
use Rattle.table_output.specs.Output.{writing}
use Rattle.table_output.proofs.OutputOutcomes.{lent_back, not-put, put_whole}

-- ---- the block

module _ (rs : List ℕ) (n : ℕ) (there : n * place_length ≤ length rs) (fit : ListsFit rs n) where
  -- the bytes of each record that is held, from its place
  pub held_whole : (p : ℕ) → p < n → length (bytes_at rs p) ≡ span_of (bytes_at rs p)
  held_whole p l = bytes_whole rs p (omega arith) (fit p l)

  module _ (p : ℕ) (l : p < n) (w : ℕ) where
    abbrev lent : List ℕ
    lent = take (length rs - p * place_length) (drop (p * place_length) rs)

    abbrev place : List ℕ
    place = drop (p * place_length) rs

    lent_is : lent ≡ place
    lent_is = take_all (length rs - p * place_length) place (simp length-drop (omega arith))

    pub place-there : w ≡ span_of lent → w ≤ length lent
    place-there h =
        rw (h, lent_is) (omega (arith, length-drop (p * place_length) rs, span-most place (fit p l)))

    pub held-long : w ≡ span_of lent → length (bytes_at rs p) ≡ w
    held-long h = held_whole p l ∙ span-own place ∙ sym (h ∙ ap span_of lent_is)

    pub held-is : w ≡ span_of lent → take w lent ≡ bytes_at rs p
    held-is h = ap (λ (k : ℕ). take k lent) h ∙ rw lent_is

    pub held_next :
        w ≡ span_of lent → (k : ℕ) → k ≡ length (chained (bytes_at rs) p) → k + w ≡ length (chained (bytes_at rs) (suc p))
    unfolding chained
    held_next h k e =
        ap₂ (λ (x y : ℕ). x + y) e (sym (held-long h)) ∙ sym (length-append (chained (bytes_at rs) p) (bytes_at rs p))

  -- so many bytes are few
  pub held-most : (k : ℕ) → k ≤ n → length (chained (bytes_at rs) k) ≤ k * place_length
  unfolding chained
  held-most zero l = omega arith
  held-most (suc k) l =
      omega (
        arith,
        held-most k (omega arith),
        length-append (chained (bytes_at rs) k) (bytes_at rs k),
        held_whole k l,
        span-own (drop (k * place_length) rs),
        span-most (drop (k * place_length) rs) (fit k l),
      )

block-long : (t : Tables) → length (block_of t) ≡ length (record_bytes t) + trailer_length
unfolding block_of
block-long t =
    let n = t.counters.records in
    let sites = t.counters.sites in
    length-append (record_bytes t) (trailer_of n sites (length (record_bytes t)))
    ∙ rw (trailer-long n sites (length (record_bytes t)))

-- bytes that stand in front leave an output as long as it was
pub as_long :
    (out front : List ℕ) (e : ℕ) {o : List ℕ} → length front ≡ e → e ≤ length out → o ≡ front ++ drop e out →
    length o ≡ length out
as_long out front e long room h =
    ap length h ∙ omega (arith, length-append front (drop e out), length-drop e out)

-- b is put behind e bytes that stand in front
pub block-put :
    (out front b : List ℕ) (e k : ℕ) {o r : List ℕ} → length front ≡ e → o ≡ front ++ drop e out →
    r ≡ b ++ drop k (mid_of e (length o - e) o) →
    put_mid e (length o - e) o r ≡ (front ++ b) ++ drop (e + k) out
block-put out front b e k {o} long p q =
    let before : take e o ≡ front = rw p (take_at front (drop e out) e long) in
    let behind : drop (e + k) o ≡ drop (e + k) out =
    rw p
    (sym (drop-drop k e (front ++ drop e out))
    ∙ ap (λ (x : List ℕ). drop k x) (drop_at front (drop e out) e long) ∙ drop-drop k e out) in
    lent_back o e k b q ∙ rw (before, behind) (sym (append_assoc front b (drop (e + k) out)))

-- ---- the outcomes

module _ (t : Tables) (out : List ℕ) (start : ℕ) where
  pub unsound-refused : sound t ≡ false → writing 8 0 out ≡ writing_of t out start
  unfolding writing_of
  unsound-refused h = rw h

  abbrev bytes : ℕ
  bytes = length (record_bytes t) + trailer_length

  module _ (ok : sound t ≡ true) where
    pub no_room : leb (start + bytes) (length out) ≡ false → writing 11 0 out ≡ writing_of t out start
    unfolding writing_of
    no_room h = rw ok (not-put out (block_of t) start bytes (block-long t) h)

    pub written :
        {r : List ℕ} → leb (start + bytes) (length out) ≡ true →
        r ≡ block_of t ++ drop bytes (mid_of start (length out - start) out) →
        writing 0 bytes (put_mid start (length out - start) out r) ≡ writing_of t out start
    unfolding writing_of
    written h e = rw ok (put_whole out (block_of t) start bytes (block-long t) h e)
