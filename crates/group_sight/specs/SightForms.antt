-- Forms that the code uses: the Sets in some places of the records, their names, and what is asked of those before a
-- Set. No one need believe them: laws in proofs/ tie them to `Conflict` of `edit_causal` and to `Answer16` of
-- `edit_history`. Assumes nothing.
use Rattle.std.specs.Prelude.{◌≡◌, Bool, true, not, ◌&&◌, cond, List, [], ◌∷◌, ◌++◌, map, ℕ, suc, ◌+◌, ◌/◌, ◌%◌, ◌^◌, ◌≤◌, ◌<◌, eqb, leb, length, get_or, take}
use Rattle.math_lists.specs.NumbersBelow.{sum, mask}
use Rattle.math_maximal.specs.Groups.{bit}
use Rattle.math_maximal.specs.Step.{compatible}
use Rattle.math_contexts.specs.Box.{Lawful}
use Rattle.edit_record.specs.declared.Edit.{Edit}
use Rattle.edit_record.specs.Layout.{two_bytes}
use Rattle.edit_record.specs.RecordBytes.{no_edit}
use Rattle.edit_record.specs.Answer1.{is_set, name_of}
use Rattle.edit_causal.specs.Conflict.{lists, box_on}
use Rattle.edit_causal.specs.ConflictForms.{plain_marks, saw}
use Rattle.edit_causal.specs.ShownValue.{shown_value}
use Rattle.edit_history.specs.EditsHeld.{record_at}
use Rattle.group_sight.specs.declared.Marks.{Marks}
use Rattle.group_sight.specs.declared.Side.{Side}

-- the Sets in the first k of the places ps
abbrev pub sets_in : List ℕ → List ℕ → ℕ → List Edit
sets_in rs ps k = map (record_at rs) (take k ps)

-- ---- the marks of the Sets before e

-- those that its author had seen, and those that it lists: bit i stands for the i-th
unfoldable pub seen_marks : Edit → List Edit → ℕ
seen_marks e ms = mask (length ms) (λ i. saw e (get_or ms i no_edit))

unfoldable pub named_marks : Edit → List Edit → ℕ
named_marks e ms = mask (length ms) (λ i. lists e (get_or ms i no_edit))

abbrev pub marks_on : Edit → List Edit → Marks
marks_on e ms = record { plain = plain_marks e ms; seen = seen_marks e ms }

-- x is the name of e, and tells its site and its sequence number
pub record NameOf (x : ℕ) (e : Edit) : Type 0 where
  pub whole : x ≡ name_of e
  pub site : x / two_bytes % 256 ≡ e.site.0
  pub seq : x % two_bytes ≡ e.seq.0

-- ns has the names of the Sets ms
abbrev pub NamesOf : List ℕ → List Edit → Type 0
NamesOf ns ms = (i : ℕ) → i < length ms → NameOf (get_or ns i 0) (get_or ms i no_edit)

-- of those in the first k of the places ps
abbrev pub NamesIn : List ℕ → List ℕ → ℕ → List ℕ → Type 0
NamesIn rs ps k ns = (i : ℕ) → i < k → NameOf (get_or ns i 0) (record_at rs (get_or ps i 0))

-- s tells what of e is held against the Sets that its author had not seen
pub record SideOf (s : Side) (e : Edit) : Type 0 where
  pub set : s.set ≡ is_set e
  pub name : NameOf s.name e
  pub site : s.aim % 256 ≡ e.tsite.0
  pub key : s.aim / 256 % 256 ≡ e.key
  pub seq : s.aim / two_bytes ≡ e.tseq.0
  pub shown : s.shown ≡ shown_value e.key e.value

-- the edit a, whose name is x, conflicts by document 01's rule with that of s, if its author had not seen it
abbrev pub is_foe : ℕ → Side → Edit → Bool
is_foe x s a =
    is_set a && s.set
    && not (eqb x s.name)
    && not (leb (s.name % two_bytes) (get_or a.vector (s.name / two_bytes % 256) 0))
    && (eqb a.tsite.0 (s.aim % 256) && eqb a.tseq.0 (s.aim / two_bytes) && eqb a.key (s.aim / 256 % 256))
    && not (eqb (shown_value a.key a.value) s.shown)

-- where ns has the names of the first k Sets: those whose name is x, and that it is none of the members of `seen`
abbrev pub marks_of_name : List ℕ → ℕ → ℕ → ℕ
marks_of_name ns k x = mask k (λ i. eqb (get_or ns i 0) x)

-- the sum of their numbers, and of so much for each of them
abbrev pub found : ℕ
found = 65536

unfoldable pub sum_of_name : List ℕ → ℕ → ℕ → ℕ
sum_of_name ns k x = sum k (λ i. cond (eqb (get_or ns i 0) x) (found + i) 0)

abbrev pub is_unseen : List ℕ → ℕ → ℕ → ℕ → Bool
is_unseen ns k seen x = compatible seen (marks_of_name ns k x)

-- ---- the rows

-- of so many Sets, the last ones, it is kept what their authors had seen
abbrev pub most_recent : ℕ
most_recent = 16

-- for each of the last of the Sets ms, `sees` has those before it that its author had seen
abbrev pub SeesTell : List Edit → List ℕ → Type 0
SeesTell ms sees =
    (i : ℕ) → i < length ms → length ms ≤ i + most_recent →
    get_or sees (i % most_recent) 0 ≡ mask i (λ j. saw (get_or ms i no_edit) (get_or ms j no_edit))

-- the members of r are Sets before the i-th of ms that its author had seen
pub record SeenBefore (ms : List Edit) (i r : ℕ) : Type 0 where
  pub small : r < 2 ^ i
  pub each : (j : ℕ) → bit r j ≡ true → (j < i) × (saw (get_or ms i no_edit) (get_or ms j no_edit) ≡ true)

-- P, where `sees` tells this and having seen goes through to e, which comes after the Sets ms
abbrev pub SightedTo : List Edit → Edit → List ℕ → Type 0 → Type 0
SightedTo ms e sees P = SeesTell ms sees → Lawful (box_on (ms ++ (e ∷ []))) (suc (length ms)) → P
