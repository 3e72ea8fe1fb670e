-- Forms that the code uses. No one need believe them: laws in proofs/ tie each one to the definitions of `EditsHeld`
-- and `Answers2to5`. Assumes nothing.
use Rattle.std.specs.Prelude.{ℕ, ◌+◌, ◌<◌, ◌≡◌, List, Bool, not, ◌&&◌, ◌||◌, get_or, set, length, eqb, leb, ltb, Some, is_some}
use Rattle.math_lists.specs.NumbersBelow.{some}
use Rattle.math_lists.specs.SortedLists.{any}
use Rattle.edit_record.specs.declared.Site.{Site}
use Rattle.edit_record.specs.declared.Edit.{Edit}
use Rattle.edit_record.specs.Layout.{most_sites}
use Rattle.edit_record.specs.Answer1.{is_limited, entry_of}
use Rattle.edit_causal.specs.ConflictForms.{plain_marks}
use Rattle.edit_history.specs.EditsHeld.{count_from, sets_on, is_target, object_of}
use Rattle.edit_history.specs.Answers2to5.{is_torn}
use Rattle.edit_history.specs.declared.Held.{Held}
use Rattle.edit_history.specs.declared.Surveyed.{Surveyed}

-- ---- counts held in a list

-- one edit more of site s; nothing where the list has no entry for it
abbrev pub bump : List ℕ → Site → List ℕ
bump v s = set v s.0 (get_or v s.0 0 + 1)

-- the entries are the counts of the edits es
abbrev pub Counted : List ℕ → List Edit → Type 0
Counted counts es = (s : ℕ) → s < most_sites → get_or counts s 0 ≡ count_from s es

-- an entry of v other than site s's is above that of counts
unfoldable pub ahead_elsewhere : List ℕ → List ℕ → Site → Bool
ahead_elsewhere counts v s = some most_sites (λ t. not (eqb t s.0) && ltb (get_or counts t 0) (get_or v t 0))

-- 2 and 3 against counts
abbrev pub repeated_against : List ℕ → Edit → Bool
repeated_against counts e = leb e.seq.0 (entry_of counts e.site).0

abbrev pub early_against : List ℕ → Edit → Bool
early_against counts e =
    ltb ((entry_of counts e.site).0 + 1) e.seq.0 || ahead_elsewhere counts e.vector e.site

-- ---- all that an arriving edit asks of the edits held

-- the bits of the number that marks conflicts
abbrev pub mark_bits : ℕ
mark_bits = 64

-- what an edit whose target is held asks of them
unfoldable pub survey_of : List Edit → Edit → Held
survey_of es e =
    record {
      object = object_of e es;
      sets = length (sets_on e.tsite e.tseq es);
      plain = plain_marks e (sets_on e.tsite e.tseq es);
      limited = any is_limited (sets_on e.tsite e.tseq es);
    }

-- v is right for e: an edit whose target is not held asks no more than whether 4 applies
pub record SurveyedOf (es : List Edit) (e : Edit) (v : Surveyed) : Type 0 where
  pub torn : v.torn ≡ is_torn es e
  pub found : is_some v.held ≡ any (is_target e) es
  pub whole : (h : Held) → v.held ≡ Some h → h ≡ survey_of es e
