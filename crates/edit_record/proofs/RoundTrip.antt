-- Decoding undoes encoding, for every edit whose fields are values of their types and that lists no more than its
-- count; encoding undoes decoding, for every record's bytes with no more members than a list may have; what is decoded
-- from bytes is such an edit; and what a place holds is the record's bytes, then zeros. Assumes nothing.
use mathlib.Core.Path.{◌≡◌, refl, ap, ap₂, ◌∙◌, sym}
use mathlib.Core.Bool.{false, cond}
use mathlib.Core.Logic.{inl, inr}
use mathlib.Core.List.{List, [], ◌∷◌, ◌++◌, append_assoc, append-nil}
use Prim.Native.Nat.{ℕ, suc, ◌+◌, ◌*◌, ◌-◌, ◌/◌, ◌%◌, ◌^◌, ◌≤◌, ◌<◌}
use native.Mathlib.Omega.{arith}
use lib.ListN.{length, get_or, take, drop, replicate, length-append, length-take, length-drop, length-replicate}
use lib.ListN.{take-append-drop}
use lib.Seq.{drop-cons, drop-drop, drop_at, take-add, get_or-append-add, get_or-drop, get_or-take, ext_get_or}
use lib.Seq.{length-take-le}
use Rattle.edit_record.specs.Layout.{most_sites, seq_at, vector_at, target_at, target_seq_at, value_at, record_length}
use Rattle.edit_record.specs.Layout.{count_at, members_at, most_members, place_length, two_bytes}
use Rattle.edit_record.specs.RecordBytes.{two, four, counts, count_bytes, first_fours, four_bytes, limits}
use Rattle.edit_record.specs.RecordBytes.{decode_of, field_bytes, encode_of, placed, span_of}
use Rattle.edit_record.specs.Answer1.{is_limited}
use Rattle.edit_record.specs.declared.Edit.{Edit}
use Rattle.edit_record.proofs.NumbersInBytes.{Bytes, Counts, two-drop, two-below, counts-length, counts-below}
use Rattle.edit_record.proofs.NumbersInBytes.{bytes_drop, count-back, value-back, counts-back, count_bytes-length}
use Rattle.edit_record.proofs.NumbersInBytes.{low_half, high_half, bytes_back}
use Rattle.edit_record.proofs.FoursInBytes.{Fours, four-drop, four_below, fours-length, fours-below, fours-past}
use Rattle.edit_record.proofs.FoursInBytes.{four_bytes-append, four_bytes-length, four_bytes-zeros, fours-back}
use Rattle.edit_record.proofs.FoursInBytes.{half_back, fours-are, fours-kept}
use Rattle.edit_record.proofs.AgreeingBytes.{span-limited, span-plain}
use Rattle.math_lists.proofs.Booleans.{decide}
use Rattle.math_lists.proofs.ByPlaces.{zero-anywhere}

-- the fields are values of their types; there is a count in a limited Set alone, and past it no member
pub record FieldsFit (e : Edit) : Type 0 where
  pub kind : e.kind < 256
  pub site : e.site.0 < 256
  pub seq : e.seq.0 < 65536
  pub long : length e.vector ≡ most_sites
  pub vector : Counts e.vector
  pub tsite : e.tsite.0 < 256
  pub key : e.key < 256
  pub tseq : e.tseq.0 < 65536
  pub value : e.value < 2 ^ 32
  pub count : e.count < 2 ^ 32
  pub plain : is_limited e ≡ false → e.count ≡ 0
  pub room : length e.members ≡ most_members
  pub members : Fours e.members
  pub past : (i : ℕ) → e.count % two_bytes ≤ i → get_or e.members i 0 ≡ 0

count_fits : (s : List ℕ) → Bytes s → (decode_of s).count < 2 ^ 32
count_fits s h = elim (decide (limits s)) [
  | inl on ↦ rw on (four_below s h count_at)
  | inr off ↦ rw off (omega arith)
]

past_fits : (s : List ℕ) → Bytes s → (i : ℕ) → (decode_of s).count % two_bytes ≤ i → get_or (decode_of s).members i 0 ≡ 0
past_fits s h i l = elim (decide (limits s)) [
  | inl on ↦
      let k : four s count_at % two_bytes ≤ i = (rw on at l) in
      let low = low_half (two s count_at) (two s (count_at + 2)) (two-below s h count_at) in
      rw on (fours-past most_members (two s count_at) (drop members_at s) i (omega arith))
  | inr off ↦ rw off (fours-past most_members 0 (drop members_at s) i (omega arith))
]

pub decoded-fits : (s : List ℕ) → Bytes s → FieldsFit (decode_of s)
decoded-fits s h =
    record {
      kind = h 0;
      site = h 1;
      seq = two-below s h seq_at;
      long = counts-length most_sites (drop vector_at s);
      vector = counts-below most_sites (drop vector_at s) (bytes_drop vector_at s h);
      tsite = h target_at;
      key = h (target_at + 1);
      tseq = two-below s h target_seq_at;
      value = four_below s h value_at;
      count = count_fits s h;
      plain = λ off. rw off;
      room = fours-length most_members (cond (limits s) (two s count_at) 0) (drop members_at s);
      members = fours-below most_members (cond (limits s) (two s count_at) 0) (drop members_at s)
          (bytes_drop members_at s h);
      past = past_fits s h;
    }

-- ---- written and read back

-- an edit of its fields
abbrev edit : ℕ → ℕ → ℕ → List ℕ → ℕ → ℕ → ℕ → ℕ → ℕ → List ℕ → Edit
edit k s q v t y p x c m =
    record {
      kind = k;
      site = record { 0 = s };
      seq = record { 0 = q };
      vector = v;
      tsite = record { 0 = t };
      key = y;
      tseq = record { 0 = p };
      value = x;
      count = c;
      members = m;
    }

same-edit :
    (k s : ℕ) {q q' t t' y y' p p' x x' c c' : ℕ} {v v' m m' : List ℕ} →
    q ≡ q' → v ≡ v' → t ≡ t' → y ≡ y' → p ≡ p' → x ≡ x' → c ≡ c' → m ≡ m' →
    edit k s q v t y p x c m ≡ edit k s q' v' t' y' p' x' c' m'
same-edit k s hq hv ht hy hp hx hc hm = rw (hq, hv, ht, hy, hp, hx, hc, hm)

behind : (a b c d : List ℕ) → ((a ++ b) ++ c) ++ d ≡ a ++ (b ++ (c ++ d))
behind a b c d = simp append_assoc

-- what stands n places into the second of two lists
past : (f l : List ℕ) (k : ℕ) → length f ≡ k → (n : ℕ) → get_or (f ++ l) (k + n) 0 ≡ get_or l n 0
past f l k e n = rw (← e) (get_or-append-add f l n 0)

fields-length : (e : Edit) → length e.vector ≡ most_sites → length (field_bytes e) ≡ record_length
unfolding count_bytes
fields-length e long = simp length-append (omega (arith, count_bytes-length e.vector, long))

-- what a limited Set lists, and what every other does not
list_back :
    (e : Edit) (rest : List ℕ) → FieldsFit e →
    (cond (is_limited e) (four (encode_of e ++ rest) count_at) 0 ≡ e.count)
    × (first_fours most_members (cond (is_limited e) (two (encode_of e ++ rest) count_at) 0)
    (drop members_at (encode_of e ++ rest)) ≡ e.members)
list_back e rest h = elim (decide (is_limited e)) [
  | inr off ↦
      let zero = h.plain off in
      rw off (
        sym zero,
        fours-are most_members 0 (drop members_at (field_bytes e ++ [] ++ rest)) e.members h.room
            (λ i l k. absurd (omega arith)) (λ i l. h.past i (omega arith)),
      )
  | inl on ↦
      let n = e.count in
      let m = e.members in
      let list = four_bytes (n ∷ take n m) in
      let s = (field_bytes e ++ list) ++ rest in
      let from : drop count_at s ≡ list ++ rest = rw (append_assoc (field_bytes e) list rest)
      (drop_at (field_bytes e) (list ++ rest) count_at (fields-length e h.long)) in
      let count : four s count_at ≡ n = sym (four-drop count_at s 0)
      ∙ rw from (fours-back (n ∷ take n m) rest 0 h.count (omega arith)) in
      let half : two s count_at ≡ n % 65536 = sym (two-drop count_at s 0) ∙ rw from (half_back n (take n m) rest) in
      let members : drop members_at s ≡ four_bytes (take n m) ++ rest = sym (drop-drop 4 count_at s)
      ∙ rw from (unfold four_bytes count_bytes in refl) in
      let each : (i : ℕ) → i < most_members → i < n % 65536 → four (four_bytes (take n m) ++ rest) (4 * i) ≡ get_or m i 0
      = λ i l k.
      let same = get_or-take n m i 0 (omega arith) in
      fours-back (take n m) rest i (rw same (h.members i)) (simp length-take (omega (arith, h.room))) ∙ same in
      let all = fours-are most_members (n % 65536) (four_bytes (take n m) ++ rest) m h.room each h.past in
      rw on (count, rw (half, members) all)
]

pub decode-undoes-encode : (e : Edit) (rest : List ℕ) → FieldsFit e → decode_of (encode_of e ++ rest) ≡ e
unfolding count_bytes
decode-undoes-encode e rest h =
    let v = e.vector in
    let x = e.value in
    let front = e.kind ∷ e.site.0 ∷ count_bytes (e.seq.0 ∷ v) in
    let back = e.tsite.0 ∷ e.key ∷ count_bytes (e.tseq.0 ∷ x % 65536 ∷ x / 65536 ∷ []) in
    let list = cond (is_limited e) (four_bytes (e.count ∷ take e.count e.members)) [] in
    let long : length front ≡ target_at = omega (arith, count_bytes-length v, h.long) in
    let whole = behind front back list rest in
    let at : (n : ℕ) → get_or (encode_of e ++ rest) (target_at + n) 0 ≡ get_or (back ++ (list ++ rest)) n 0
    = λ n. rw whole (past front (back ++ (list ++ rest)) target_at long n) in
    let (c, m) = list_back e rest h in
    same-edit e.kind e.site.0 (count-back e.seq.0 h.seq)
    (rw (behind (count_bytes v) back list rest, ← h.long) (counts-back v (back ++ (list ++ rest)) h.vector))
    (at 0)
    (at 1)
    (rw (at 2, at 3) (count-back e.tseq.0 h.tseq))
    (rw (at 4, at 5, at 6, at 7, count-back (x % 65536) (omega arith), count-back (x / 65536) (omega (arith, h.value)))
    (value-back x))
    c
    m

-- ---- read and written back

-- two bytes, and the counts that follow them
pair-back :
    (n i : ℕ) (s : List ℕ) → i + 2 + 2 * n ≤ length s → Bytes s
    → get_or s i 0 ∷ get_or s (suc i) 0 ∷ count_bytes (counts n (drop (suc (suc i)) s)) ≡ take (2 + 2 * n) (drop i s)
pair-back n i s l h =
    let k : i < length s = omega arith in
    let m : suc i < length s = omega arith in
    let e : 2 + 2 * n ≡ suc (suc (2 * n)) = omega arith in
    let r = drop (suc (suc i)) s in
    rw (e, drop-cons s i 0 k, drop-cons s (suc i) 0 m)
    (ap (λ (t : List ℕ). get_or s i 0 ∷ get_or s (suc i) 0 ∷ t)
    (bytes_back n r (simp length-drop (omega arith)) (bytes_drop (suc (suc i)) s h)))

fields_back : (s : List ℕ) → record_length ≤ length s → Bytes s → field_bytes (decode_of s) ≡ take record_length s
fields_back s l h =
    let front : two s seq_at ∷ counts most_sites (drop vector_at s) ≡ counts (suc most_sites) (drop seq_at s)
    = unfold counts in rw (two-drop seq_at s 0, drop-drop 2 seq_at s) in
    let back :
    two s target_seq_at ∷ two s value_at ∷ two s (value_at + 2) ∷ [] ≡ counts 3 (drop target_seq_at s)
    = unfold counts in
    rw (
      drop-drop 2 target_seq_at s,
      drop-drop 2 value_at s,
      two-drop target_seq_at s 0,
      two-drop value_at s 0,
      two-drop (value_at + 2) s 0,
    ) in
    let a = two s value_at in
    let b = two s (value_at + 2) in
    rw (low_half a b (two-below s h value_at), high_half a b (two-below s h value_at), front, back)
    (ap₂ (λ (x y : List ℕ). x ++ y) (pair-back (suc most_sites) 0 s (omega arith) h)
    (pair-back 3 target_at s (omega arith) h)
    ∙ sym (take-add target_at 8 s))

-- the count and the members
list-kept :
    (k : ℕ) (s : List ℕ) → four s count_at ≡ k → k ≤ most_members → members_at + 4 * k ≤ length s → Bytes s →
    four_bytes (k ∷ take k (first_fours most_members k (drop members_at s))) ≡ take (4 * suc k) (drop count_at s)
unfolding first_fours
list-kept k s e few l h =
    let t = drop count_at s in
    ap₂ (λ (x : ℕ) (r : List ℕ). four_bytes (x ∷ take k (first_fours most_members k r)))
    (sym e ∙ sym (four-drop count_at s 0))
    (sym (drop-drop 4 count_at s))
    ∙ fours-kept (suc most_members) (suc k) t (omega arith) (simp length-drop (omega arith)) (bytes_drop count_at s h)

pub encode-undoes-decode :
    (s : List ℕ) → span_of s ≤ length s → (decode_of s).count ≤ most_members → Bytes s →
    encode_of (decode_of s) ≡ take (span_of s) s
encode-undoes-decode s l few h = elim (decide (limits s)) [
  | inr off ↦
      let w = span-plain s off in
      rw (off, w) (append-nil (field_bytes (decode_of s)) ∙ fields_back s (omega arith) h)
  | inl on ↦
      let k = two s count_at in
      let w = span-limited s on in
      let few : four s count_at ≤ most_members = (rw on at few) in
      let same : four s count_at ≡ k = omega arith in
      let list = list-kept k s same (omega arith) (omega arith) h in
      let e : members_at + k * 4 ≡ count_at + 4 * suc k = omega arith in
      rw (on, w, same, e)
      (ap₂ (λ (x y : List ℕ). x ++ y) (fields_back s (omega arith) h) list ∙ sym (take-add count_at (4 * suc k) s))
]

-- ---- in a place

pub placed-encoded :
    (e : Edit) → FieldsFit e → e.count ≤ most_members →
    placed e ≡ encode_of e ++ replicate (place_length - length (encode_of e)) 0
placed-encoded e h few = elim (decide (is_limited e)) [
  | inr off ↦
      let f = field_bytes e in
      rw off
      (ap (λ (k : ℕ). f ++ replicate (place_length - k) 0) (sym (fields-length e h.long))
      ∙ ap (λ (l : List ℕ). l ++ replicate (place_length - length l) 0) (sym (append-nil f)))
  | inl on ↦
      let n = e.count in
      let m = e.members in
      let list = four_bytes (n ∷ take n m) in
      let left = most_members - n in
      let none : List ℕ = replicate left 0 in
      let z : List ℕ = replicate (4 * left) 0 in
      let zeros : drop n m ≡ none = ext_get_or 0 (drop n m) none
      (length-drop n m ∙ rw h.room (sym (length-replicate left 0)))
      (λ i l. get_or-drop n m i 0 ∙ h.past (n + i) (omega arith) ∙ sym (zero-anywhere left i)) in
      let whole : four_bytes (n ∷ m) ≡ list ++ z
      = ap (λ (r : List ℕ). four_bytes (n ∷ r)) (sym (take-append-drop n m) ∙ ap (λ (r : List ℕ). take n m ++ r) zeros)
      ∙ four_bytes-append (n ∷ take n m) none
      ∙ ap (λ (r : List ℕ). list ++ r) (four_bytes-zeros left) in
      let long : place_length - length (field_bytes e ++ list) ≡ 4 * left = rw (
        length-append (field_bytes e) list,
        fields-length e h.long,
        four_bytes-length (n ∷ take n m),
        length-take-le n m (omega (arith, h.room)),
      )
      (omega arith) in
      rw (on, long, whole) (sym (append_assoc (field_bytes e) list z))
]
