-- The groups of a box worked out with no arrival order (document 02, Req 07). The refusals, in this order: 8; 11 unless
-- the output is 32 numbers; 5 when no such Create is held; 18 above 20 Sets; 7 when more than 32 groups exist. Else the
-- groups by their definition, ascending, with zeros after. Assumes nothing.
use Rattle.std.specs.Prelude.{not, cond, List, ◌++◌, ℕ, ◌-◌, length, replicate, eqb, ltb}
use Rattle.edit_record.specs.declared.Site.{Site}
use Rattle.edit_record.specs.declared.Seq.{Seq}
use Rattle.edit_record.specs.declared.Edit.{Edit}
use Rattle.edit_history.specs.EditsHeld.{sets_on}
use Rattle.edit_object.specs.CreateHeld.{is_held}
use Rattle.group_step.specs.GroupRows.{most_groups}
use Rattle.group_true.specs.TrueGroups.{groups_on}
use Rattle.table_drawing.specs.Tables.{Tables, held_by}
use Rattle.table_soundness.specs.Sound.{sound}

-- the Sets of a box that the engine decides at most
abbrev pub most_decided : ℕ
most_decided = 20

-- the answer, how many groups there are (0 when refused), and the output after
pub record Enumeration : Type 0 where
  pub answer : ℕ
  pub count : ℕ
  pub after : List ℕ

abbrev pub enumeration : ℕ → ℕ → List ℕ → Enumeration
enumeration a n out = record { answer = a; count = n; after = out }

-- of the box whose Create is s.q, where the edits es are held
unfoldable pub enumeration_in : List Edit → Site → Seq → List ℕ → Enumeration
enumeration_in es s q out =
    let gs = groups_on es s q in
    cond (not (is_held es s q)) (enumeration 5 0 out)
    (cond (ltb most_decided (length (sets_on s q es))) (enumeration 18 0 out)
    (cond (ltb most_groups (length gs)) (enumeration 7 0 out)
    (enumeration 0 (length gs) (gs ++ replicate (most_groups - length gs) 0))))

unfoldable pub enumeration_of : Tables → Site → Seq → List ℕ → Enumeration
enumeration_of t s q out =
    cond (not (sound t)) (enumeration 8 0 out)
    (cond (not (eqb (length out) most_groups)) (enumeration 11 0 out) (enumeration_in (held_by t) s q out))
