-- The table of records with one record more: the places before it hold what they held, and the edits held are those
-- before and the new one. Assumes that its place has room for it.
use mathlib.Core.Path.{◌≡◌, refl, sym, ap, ◌∙◌}
use mathlib.Core.Bool.{true}
use mathlib.Core.List.{List, [], ◌∷◌, ◌++◌}
use Prim.Native.Nat.{ℕ, suc, ◌+◌, ◌*◌, ◌≤◌, ◌<◌}
use native.Mathlib.Omega.{arith}
use lib.ListN.{length, get_or, take, drop, length-drop}
use lib.Seq.{get_or-take, get_or-drop, length-take-le, ext_get_or, take_at}
use Rattle.math_lists.proofs.ReplacedPart as parts
use Rattle.edit_record.specs.Layout.{place_length, most_members}
use Rattle.edit_record.specs.RecordBytes.{decode_of, span_of}
use Rattle.edit_record.proofs.AgreeingBytes.{Agree, agree-append, decode-agree, decode-place}
use Rattle.edit_record.proofs.RecordSpans.{span-most, span_agree, span-front}
use Rattle.edit_history.specs.EditsHeld.{bytes_at, record_at, edits_of}
use Rattle.table_soundness.specs.Sound.{zero_from, rest_zero}
use Rattle.table_soundness.proofs.SoundFacts.{zero-on}
use Rattle.edit_history.proofs.EditsHeld.{edits-same}
use Rattle.table_arrival.specs.Arrival.{put_record}

-- ---- one record more

-- a whole record, for which its place has room, and the place is there
pub record Room (rs : List ℕ) (n : ℕ) (b : List ℕ) : Type 0 where
  pub whole : length b ≡ span_of b
  pub short : span_of b ≤ place_length
  pub there : n * place_length + place_length ≤ length rs

module _ (rs : List ℕ) (n : ℕ) (b : List ℕ) (room : Room rs n b) where
  abbrev after : List ℕ
  after = put_record rs n b

  -- what stood behind the new record
  abbrev behind : List ℕ
  behind = drop (n * place_length + length b) rs

  fits : n * place_length + length b ≤ length rs
  fits = omega (arith, room.whole, room.short, room.there)

  pub put-long : length after ≡ length rs
  put-long = parts.put-long rs (n * place_length) (length b) b refl fits

  -- the bytes before the new record, and those behind it, are as they were
  put_front : (i : ℕ) → i < n * place_length → get_or after i 0 ≡ get_or rs i 0
  put_front = parts.put-before rs (n * place_length) (length b) b refl fits

  pub put-after : (i : ℕ) → n * place_length + place_length ≤ i → get_or after i 0 ≡ get_or rs i 0
  put-after i l =
      parts.put-after rs (n * place_length) (length b) b refl fits i (omega (arith, room.whole, room.short))

  put-from : drop (n * place_length) after ≡ b ++ behind
  put-from = parts.put-from rs (n * place_length) (length b) b refl fits

  -- the places before it hold the same bytes
  put-place : (p : ℕ) → p < n → Agree place_length (drop (p * place_length) after) (drop (p * place_length) rs)
  put-place p l i k =
      get_or-drop (p * place_length) after i 0 ∙ put_front (p * place_length + i) (omega arith)
      ∙ sym (get_or-drop (p * place_length) rs i 0)

  -- ---- each place

  pub put-rest-before : (p : ℕ) → p < n → rest_zero after p ≡ rest_zero rs p
  unfolding rest_zero
  put-rest-before p l =
      ap (λ (place : List ℕ). zero_from place (span_of place))
      (ext_get_or 0 (take place_length (drop (p * place_length) after)) (take place_length (drop (p * place_length) rs))
      (held after (omega (arith, put-long)) ∙ sym (held rs (omega arith)))
      (λ i k.
      let m : i < place_length = omega (arith, held after (omega (arith, put-long))) in
      get_or-take place_length (drop (p * place_length) after) i 0 m ∙ put-place p l i m
      ∙ sym (get_or-take place_length (drop (p * place_length) rs) i 0 m)))
    where
      held : (l : List ℕ) → p * place_length + place_length ≤ length l →
          length (take place_length (drop (p * place_length) l)) ≡ place_length
      held l k = length-take-le place_length (drop (p * place_length) l) (omega (arith, length-drop (p * place_length) l))

  -- the new one is zero past its record where zeros stood
  pub put-rest-here :
      ((i : ℕ) → n * place_length ≤ i → i < length rs → get_or rs i 0 ≡ 0) → rest_zero after n ≡ true
  unfolding rest_zero
  put-rest-here zeros =
      let d = drop (n * place_length) after in
      let place = take place_length d in
      let same : span_of place ≡ length b
      = span_agree b place (λ i k.
      get_or-take place_length d i 0 (omega (arith, room.short))
      ∙ rw put-from (agree-append (span_of b) b behind (omega (arith, room.whole)) i k))
      ∙ sym room.whole in
      rw same (zero-on place (length b) (λ i l k.
      let long : length place ≡ place_length
      = length-take-le place_length d (omega (arith, put-long, length-drop (n * place_length) after, room.there)) in
      let m : i < place_length = omega arith in
      get_or-take place_length d i 0 m
      ∙ get_or-drop (n * place_length) after i 0
      ∙ parts.put-after rs (n * place_length) (length b) b refl fits (n * place_length + i) (omega arith)
      ∙ zeros (n * place_length + i) (omega arith) (omega (arith, room.there))))

  -- ---- the edits

  pub put-before : (p : ℕ) → p < n → record_at after p ≡ record_at rs p
  put-before p l =
      decode-place (drop (p * place_length) after) (drop (p * place_length) rs) (put-place p l)

  pub put-here : record_at after n ≡ decode_of b
  put-here =
      ap decode_of put-from
      ∙ sym (decode-agree b (b ++ behind) (λ i k.
      sym (agree-append (span_of b) b behind (omega (arith, room.whole)) i k)))

  pub put-edits-before : (p : ℕ) → p ≤ n → edits_of after p ≡ edits_of rs p
  put-edits-before p l = edits-same after rs p (λ q k. put-before q (omega arith))

  pub put-edits : edits_of after (suc n) ≡ edits_of rs n ++ (decode_of b ∷ [])
  unfolding edits_of
  put-edits = rw (put-edits-before n (omega arith), put-here)

  -- ---- the bytes of each record

  pub put-bytes-here : bytes_at after n ≡ b
  put-bytes-here = rw (put-from, span-front b behind room.whole) (take_at b behind (length b) refl)

  -- where the record before has room in its place
  pub put-bytes-before :
      (p : ℕ) → p < n → (record_at rs p).count ≤ most_members → bytes_at after p ≡ bytes_at rs p
  put-bytes-before p l few =
      let d = drop (p * place_length) after in
      let e = drop (p * place_length) rs in
      let w = span_of e in
      let same : span_of d ≡ w = span_agree e d (λ i k. put-place p l i (omega (arith, span-most e few))) in
      let dl : w ≤ length d
      = omega (arith, put-long, length-drop (p * place_length) after, span-most e few, room.there) in
      let el : w ≤ length e = omega (arith, length-drop (p * place_length) rs, span-most e few, room.there) in
      rw same
      (ext_get_or 0 (take w d) (take w e)
      (length-take-le w d dl ∙ sym (length-take-le w e el))
      (λ i k.
      let m : i < w = omega (arith, length-take-le w d dl) in
      get_or-take w d i 0 m ∙ put-place p l i (omega (arith, span-most e few)) ∙ sym (get_or-take w e i 0 m)))
