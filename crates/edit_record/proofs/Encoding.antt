-- A record is written front to back: two bytes more, a count more, the counts of a vector of any length. Assumes
-- nothing.
use mathlib.Core.Path.{◌≡◌, refl, ap, sym, ◌∙◌}
use mathlib.Core.List.{List, [], ◌∷◌, ◌++◌, append_assoc}
use Prim.Native.Nat.{ℕ, suc, ◌+◌, ◌/◌, ◌%◌, ◌<◌}
use native.Mathlib.Omega.{arith}
use lib.ListN.{length, get_or, set, take, length-set}
use lib.Seq.{take-suc, take-suc-set}
use Rattle.edit_record.specs.RecordBytes.{count_bytes, four_bytes, field_bytes}
use Rattle.edit_record.specs.declared.Edit.{Edit}
use Rattle.edit_record.proofs.FoursInBytes.{four_bytes-append}

pub two-more :
    (b : List ℕ) (i x y : ℕ) → i + 1 < length b → take (i + 2) (set (set b i x) (i + 1) y) ≡ take i b ++ (x ∷ y ∷ [])
two-more b i x y h =
    let e : i + 2 ≡ suc (suc i) = omega arith in
    let f : i + 1 ≡ suc i = omega arith in
    let l : suc i < length (set b i x) = simp length-set (omega arith) in
    rw (e, f)
    (take-suc-set (set b i x) (suc i) y l
    ∙ ap (λ (t : List ℕ). t ++ (y ∷ [])) (take-suc-set b i x (omega arith))
    ∙ append_assoc (take i b) (x ∷ []) (y ∷ []))

pub count_bytes-append : (v w : List ℕ) → count_bytes (v ++ w) ≡ count_bytes v ++ count_bytes w
unfolding count_bytes
count_bytes-append [] w = refl
count_bytes-append (n ∷ v) w = rw (count_bytes-append v w)

-- after the bytes f, the first i counts of v; and then one count more
pub one-count-more :
    (f v : List ℕ) (i : ℕ) → i < length v
    → (f ++ count_bytes (take i v)) ++ count_bytes (get_or v i 0 ∷ []) ≡ f ++ count_bytes (take (suc i) v)
one-count-more f v i h =
    append_assoc f (count_bytes (take i v)) (count_bytes (get_or v i 0 ∷ []))
    ∙ ap (λ (l : List ℕ). f ++ l)
    (sym (count_bytes-append (take i v) (get_or v i 0 ∷ [])) ∙ ap count_bytes (sym (take-suc v i 0 h)))

-- ---- four bytes

-- the four bytes of a number are those of two counts
pub four-of-counts :
    (f : List ℕ) (n : ℕ) →
    (f ++ count_bytes (n % 65536 ∷ [])) ++ count_bytes (n / 65536 ∷ []) ≡ f ++ four_bytes (n ∷ [])
unfolding count_bytes four_bytes
four-of-counts f n = append_assoc f (count_bytes (n % 65536 ∷ [])) (count_bytes (n / 65536 ∷ []))

-- after the bytes f, the first i numbers of v; and then one number more
pub one-four-more :
    (f v : List ℕ) (i : ℕ) → i < length v
    → (f ++ four_bytes (take i v)) ++ four_bytes (get_or v i 0 ∷ []) ≡ f ++ four_bytes (take (suc i) v)
one-four-more f v i h =
    append_assoc f (four_bytes (take i v)) (four_bytes (get_or v i 0 ∷ []))
    ∙ ap (λ (l : List ℕ). f ++ l)
    (sym (four_bytes-append (take i v) (get_or v i 0 ∷ [])) ∙ ap four_bytes (sym (take-suc v i 0 h)))

-- the bytes of a number, then those of others
pub count-first :
    (f v : List ℕ) (n : ℕ) → (f ++ four_bytes (n ∷ [])) ++ four_bytes v ≡ f ++ four_bytes (n ∷ v)
count-first f v n =
    append_assoc f (four_bytes (n ∷ [])) (four_bytes v)
    ∙ ap (λ (l : List ℕ). f ++ l) (sym (four_bytes-append (n ∷ []) v))

-- ---- the fields

four-more : (f a b c d : List ℕ) → (((f ++ a) ++ b) ++ c) ++ d ≡ f ++ (a ++ (b ++ (c ++ d)))
four-more f a b c d = simp append_assoc

-- the parts that a record of every kind has, each put behind those before it
pub parts-in-turn :
    (e : Edit) →
    (((((((e.kind ∷ e.site.0 ∷ []) ++ count_bytes (e.seq.0 ∷ [])) ++ count_bytes e.vector)
    ++ (e.tsite.0 ∷ e.key ∷ []))
    ++ count_bytes (e.tseq.0 ∷ []))
    ++ count_bytes (e.value % 65536 ∷ []))
    ++ count_bytes (e.value / 65536 ∷ []))
    ≡ field_bytes e
unfolding count_bytes
parts-in-turn e =
    four-more (e.kind ∷ e.site.0 ∷ count_bytes (e.seq.0 ∷ e.vector)) (e.tsite.0 ∷ e.key ∷ [])
    (count_bytes (e.tseq.0 ∷ []))
    (count_bytes (e.value % 65536 ∷ []))
    (count_bytes (e.value / 65536 ∷ []))
