-- Forms that the code uses. No one need believe them: laws in proofs/ tie them to `Enumeration`. Assumes nothing.
use Rattle.std.specs.Prelude.{◌≡◌, Bool, true, not, cond, List, ◌++◌, ℕ, ◌-◌, ◌≤◌, ◌<◌, eqb, ltb, length, get_or, replicate, Result, Ok}
use Rattle.math_lists.specs.NumbersBelow.{mask}
use Rattle.edit_record.specs.declared.Site.{Site}
use Rattle.edit_record.specs.declared.Seq.{Seq}
use Rattle.edit_record.specs.declared.Edit.{Edit}
use Rattle.edit_record.specs.Answer1.{is_create}
use Rattle.edit_causal.specs.Conflict.{conflicts_in}
use Rattle.edit_history.specs.EditsHeld.{record_at, edits_of, sets_on}
use Rattle.edit_history.specs.Answer16.{records_named}
use Rattle.edit_walk.specs.WalkForms.{Indexed}
use Rattle.edit_object.specs.CreateHeld.{is_held}
use Rattle.group_step.specs.GroupRows.{most_groups}
use Rattle.table_drawing.specs.declared.Counters.{Counters}
use Rattle.table_drawing.specs.declared.Refusal.{Refusal}
use Rattle.table_drawing.specs.AnswerNumbers.{answer_of}
use Rattle.table_index.specs.IndexForms.{Holds}
use Rattle.table_engine.specs.Enumeration.{most_decided, Enumeration, enumeration}

-- ---- which of the Sets of a box conflict

-- number i of ms tells, for each i below n, which of the Sets xs conflict with the i-th
abbrev pub MasksTell : ℕ → List Edit → List ℕ → Type 0
MasksTell n xs ms = (i : ℕ) → i < n → get_or ms i 0 ≡ mask (length xs) (conflicts_in xs i)

-- the same of the first n alone, and of their conflicts with one another
abbrev pub MaskedFirst : ℕ → List Edit → List ℕ → Type 0
MaskedFirst n xs ms = (i : ℕ) → i < n → get_or ms i 0 ≡ mask n (conflicts_in xs i)

-- named says whether 16 is given to none of the first n records; if so, and where they are few enough, the numbers ms
-- tell which of the k Sets xs conflict
pub record MaskedWhere (rs : List ℕ) (n k : ℕ) (xs : List Edit) (ms : List ℕ) (named : Bool) : Type 0 where
  pub decides : named ≡ records_named rs n
  pub masked : named ≡ true → k ≤ most_decided → MasksTell k xs ms

-- ---- a box by the place of its Create

-- the Sets, among the first n records, on the Create in place p
abbrev pub sets_of : List ℕ → ℕ → ℕ → List Edit
sets_of rs n p = sets_on (record_at rs p).site (record_at rs p).seq (edits_of rs n)

-- the records that the counters c count have the index ps; in place p is a Create, and it has k Sets
pub record BoxIn (c : Counters) (rs ps : List ℕ) (p k : ℕ) : Type 0 where
  pub holds : Holds c rs
  pub indexed : Indexed rs c.records ps
  pub below : p < c.records
  pub create : is_create (record_at rs p) ≡ true
  pub many : k ≡ length (sets_of rs c.records p)

-- ---- what is found before the search, and by it

-- the first of 8, 11, 5 and 18 that applies
unfoldable pub refusal_of : Bool → ℕ → Bool → ℕ → ℕ
refusal_of sound long held k =
    cond (not sound) 8
    (cond (not (eqb long most_groups)) 11
    (cond (not held) 5
    (cond (ltb most_decided k) 18 0)))

-- of the box whose Create is s.q, where the edits es are held: how many Sets it has, or why it is refused
pub record PreparedFor (sound : Bool) (es : List Edit) (s : Site) (q : Seq) (long : ℕ) (ms : List ℕ)
    (r : Result ℕ Refusal) : Type 0 where
  pub refused : answer_of r ≡ refusal_of sound long (is_held es s q) (length (sets_on s q es))
  pub counted : (k : ℕ) → r ≡ Ok k → k ≡ length (sets_on s q es)
  pub masked : (k : ℕ) → r ≡ Ok k → MasksTell k (sets_on s q es) ms

-- the groups gs are given, or are too many
unfoldable pub found_as : List ℕ → List ℕ → Enumeration
found_as gs out =
    cond (ltb most_groups (length gs)) (enumeration 7 0 out)
    (enumeration 0 (length gs) (gs ++ replicate (most_groups - length gs) 0))
