-- The sum over a list of edits: it is the sum of the words of their records, and the sum of two lists one after the
-- other is the wrapped sum of the two. Assumes nothing.
use Rattle.std.proofs.Common.{◌≡◌, ℕ, zero, suc, ◌+◌, ◌-◌, ◌*◌, ◌/◌, ◌≤◌, true, List, [], ◌∷◌, ◌++◌, get_or, drop, refl, ap, ◌∙◌, inl, inr, arith, get_or-drop}
use Rattle.math_lists.specs.NumbersBelow.{sum}
use Rattle.math_lists.proofs.Booleans.{decide}
use Rattle.math_lists.proofs.NumbersBelow.{sum_same}
use Rattle.edit_record.specs.declared.Edit.{Edit}
use Rattle.edit_record.specs.Layout.{record_length, count_at, members_at, most_members, place_length}
use Rattle.edit_record.specs.RecordBytes.{two, four, counts, first_fours, limits, decode_of, span_of}
use Rattle.edit_record.proofs.FoursInBytes.{fours-at, fours-past}
use Rattle.edit_record.proofs.AgreeingBytes.{span-limited, span-plain}
use Rattle.edit_history.specs.EditsHeld.{record_at, edits_of}
use Rattle.edit_history.specs.Answers2to5.{records_pass}
use Rattle.edit_history.proofs.RecordsPassed.{few-at}
use Rattle.edit_sum.specs.WordSum.{word_length, record_words, word_at, wrapped, sum_of, words_at, sum_held, ListsFit}
use Rattle.edit_sum.specs.SumOfEdits.{field_words, words_in, words_over, sum_over}
use Rattle.edit_sum.proofs.WordsAdded.{both-early, words-add}

-- ---- lists one after the other

words-joined : (es fs : List Edit) → words_over (es ++ fs) ≡ words_over es + words_over fs
unfolding words_over
words-joined [] fs = omega arith
words-joined (e ∷ es) fs = rw (words-joined es fs) (omega arith)

-- so a join of drawings that have no record in common has the wrapped sum of the two
pub joined-sum : (es fs : List Edit) → sum_over (es ++ fs) ≡ wrapped (sum_over es + sum_over fs)
unfolding sum_over
joined-sum es fs = ap wrapped (words-joined es fs) ∙ both-early (words_over es) (words_over fs)

-- ---- the words of records

-- those that a record of every kind has
field-words : (s : List ℕ) → sum (record_length / word_length) (word_at s) ≡ field_words (decode_of s)
unfolding sum counts
field-words s = simp get_or-drop (omega arith)

one_word : (n : ℕ) (s : List ℕ) → sum (suc n) (word_at s) ≡ sum n (word_at s) + word_at s n
unfolding sum
one_word n s = refl

no_words : (s : List ℕ) → sum 0 (word_at s) ≡ 0
unfolding sum
no_words s = refl

-- of k numbers and then zeros
first-sum : (k m : ℕ) (f : ℕ → ℕ) → ((i : ℕ) → k ≤ i → f i ≡ 0) → sum (k + m) f ≡ sum k f
unfolding sum
first-sum k zero f h =
    let e : k + 0 ≡ k = omega arith in
    rw e
first-sum k (suc m) f h =
    let e : k + suc m ≡ suc (k + m) = omega arith in
    rw (e, first-sum k m f h, h (k + m) (omega arith)) (omega arith)

-- the k members that are stored, where there are places for them
members-sum :
    (n k : ℕ) (s : List ℕ) → k ≤ n → sum n (λ i. get_or (first_fours n k s) i 0) ≡ sum k (word_at s)
members-sum n k s l =
    let e : n ≡ k + (n - k) = omega arith in
    let f : ℕ → ℕ = λ i. get_or (first_fours n k s) i 0 in
    ap (λ (j : ℕ). sum j f) e
    ∙ first-sum k (n - k) f (λ i m. fours-past n k s i m)
    ∙ sum_same k f (word_at s) (λ i m. fours-at n k s i (omega arith) m ∙ ap (four s) (omega arith))

-- a record's words, where no more members are listed than there are places for
record-words :
    (s : List ℕ) → (decode_of s).count ≤ most_members → sum (record_words s) (word_at s) ≡ words_in (decode_of s)
unfolding words_in
record-words s few = elim (decide (limits s)) [
  | inr off ↦
      let none = members-sum most_members 0 (drop members_at s) (omega arith) in
      rw (off, span-plain s off, none, field-words s, no_words (drop members_at s)) (omega arith)
  | inl on ↦
      let k = two s count_at in
      let few : four s count_at ≤ most_members = (rw on at few) in
      let words : span_of s / word_length ≡ members_at / word_length + k = omega (arith, span-limited s on) in
      let members = members-sum most_members k (drop members_at s) (omega arith) in
      let fields = one_word (record_length / word_length) s in
      rw (on, words, words-add (members_at / word_length) k s, members, fields, field-words s)
]

held-words : (rs : List ℕ) (n : ℕ) → ListsFit rs n → sum n (words_at rs) ≡ words_over (edits_of rs n)
unfolding sum words_over edits_of
held-words rs zero fit = refl
held-words rs (suc n) fit =
    rw (
      words-joined (edits_of rs n) (record_at rs n ∷ []),
      held-words rs n (λ p l. fit p (omega arith)),
      record-words (drop (n * place_length) rs) (fit n (omega arith)),
    ) (omega arith)

-- the sum of the words of the first n records is the sum over their edits
pub held-sum : (rs : List ℕ) (n : ℕ) → ListsFit rs n → sum_held n rs ≡ sum_over (edits_of rs n)
unfolding sum_held sum_over
held-sum rs n fit = ap wrapped (held-words rs n fit)

pub record-sum :
    (b : List ℕ) → (decode_of b).count ≤ most_members → sum_of (record_words b) b ≡ sum_over (decode_of b ∷ [])
unfolding sum_of sum_over words_over
record-sum b few = ap wrapped (record-words b few ∙ omega arith)

-- records that pass 1 to 5 list no more
pub passing-fit : (sites : ℕ) (rs : List ℕ) (n : ℕ) → records_pass sites rs n ≡ true → ListsFit rs n
passing-fit = few-at
