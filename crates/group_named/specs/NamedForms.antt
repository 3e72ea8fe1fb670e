-- Forms that the code uses. No one need believe them: laws in proofs/ tie them to `Answer16` of `edit_history`.
-- Assumes nothing.
use Rattle.std.specs.Prelude.{◌≡◌, Bool, true, not, ◌||◌, cond, List, ℕ, ◌≤◌, eqb, length}
use Rattle.math_contexts.specs.Box.{Lawful}
use Rattle.edit_record.specs.declared.Site.{Site}
use Rattle.edit_record.specs.declared.Seq.{Seq}
use Rattle.edit_record.specs.declared.Edit.{Edit}
use Rattle.edit_record.specs.Answer1.{is_create}
use Rattle.edit_causal.specs.Conflict.{box_on}
use Rattle.edit_history.specs.EditsHeld.{record_at, edits_of, sets_on}
use Rattle.group_step.specs.GroupRows.{most_sets}
use Rattle.group_limited.specs.LimitedForms.{RowsTell, named_in_turn}
use Rattle.group_sight.specs.SightForms.{sets_in, NamesIn, SeesTell}

-- no Create has more Sets among the edits es than an object may have
abbrev pub FewSets : List Edit → Type 0
FewSets es = (s : Site) (q : Seq) → length (sets_on s q es) ≤ most_sets

-- having seen goes through among the Sets on each Create
abbrev pub LawfulSets : List Edit → Type 0
LawfulSets es = (s : Site) (q : Seq) → Lawful (box_on (sets_on s q es)) (length (sets_on s q es))

-- the edit in place p is no Create, or 16 is given to none of the Sets on it among the first n records
unfoldable pub is_named_at : List ℕ → ℕ → ℕ → Bool
is_named_at rs n p =
    let a = record_at rs p in
    not (is_create a) || named_in_turn (sets_on a.site a.seq (edits_of rs n))

-- the number i, where a and b have changed places
unfoldable pub swap_of : ℕ → ℕ → ℕ → ℕ
swap_of a b i = cond (eqb i a) b (cond (eqb i b) a i)

-- what is put down of the Sets ms: their places, their names, their rows and what the authors of the last of them had
-- seen
pub record SetsTold (rs : List ℕ) (ms : List Edit) (ps ns plains cs sees : List ℕ) : Type 0 where
  pub sets : sets_in rs ps (length ms) ≡ ms
  pub names : NamesIn rs ps (length ms) ns
  pub rows : RowsTell ms plains cs
  pub seen : SeesTell ms sees

-- of those on the Create in place p, among the first n records
abbrev pub BoxTold : List ℕ → ℕ → ℕ → List ℕ → List ℕ → List ℕ → List ℕ → List ℕ → Type 0
BoxTold rs n p ps ns plains cs sees =
    is_create (record_at rs p) ≡ true →
    SetsTold rs (sets_on (record_at rs p).site (record_at rs p).seq (edits_of rs n)) ps ns plains cs sees
