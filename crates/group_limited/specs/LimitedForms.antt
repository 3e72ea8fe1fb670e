-- Forms that the code uses: what the rows of numbers tell of the Sets in some places of the records, and what is told
-- of a Set by those before it. No one need believe them: laws in proofs/ tie them to `Conflict` of `edit_causal` and to
-- `Answer16` of `edit_history`. Assumes nothing.
use Rattle.std.specs.Prelude.{◌≡◌, Bool, true, false, not, cond, List, [], ◌∷◌, ◌++◌, ℕ, suc, ◌^◌, ◌<◌, length, get_or, take}
use Rattle.std.specs.Int.Bits.{bit_or}
use Rattle.math_lists.specs.NumbersBelow.{all}
use Rattle.math_lists.specs.SortedLists.{any}
use Rattle.math_maximal.specs.Groups.{bit}
use Rattle.math_contexts.specs.Box.{Lawful}
use Rattle.math_contexts.specs.Contexts.{contexts, context}
use Rattle.math_contexts.specs.Versions.{AllNamed}
use Rattle.math_contexts.specs.NamedVersions.{names_none}
use Rattle.edit_record.specs.declared.Edit.{Edit}
use Rattle.edit_record.specs.RecordBytes.{no_edit}
use Rattle.edit_record.specs.Answer1.{is_limited}
use Rattle.edit_causal.specs.Conflict.{listed_by, box_on, conflicts_with}
use Rattle.edit_causal.specs.ConflictForms.{Proper, plain_marks}
use Rattle.edit_history.specs.Answer16.{is_strange, nameless_among}
use Rattle.group_context.specs.RowsOfBox.{PlainRows}
use Rattle.group_limited.specs.declared.Sight.{Sight}
use Rattle.group_limited.specs.declared.Told.{Told}
use Rattle.group_limited.specs.declared.Judged.{Judged}
use Rattle.group_sight.specs.SightForms.{seen_marks, named_marks, SeesTell}

-- ---- the marks of the Sets before e

-- all that is asked of them, but that a name which is strange is asked about only where e is limited
pub record SightOf (ms : List Edit) (e : Edit) (s : Sight) : Type 0 where
  pub plain : s.plain ≡ plain_marks e ms
  pub seen : s.seen ≡ seen_marks e ms
  pub named : s.named ≡ named_marks e ms
  pub limited : s.limited ≡ is_limited e
  pub strange : is_limited e ≡ true → s.strange ≡ any (is_strange ms e) (listed_by e)

-- ---- the rows

-- the number g of Set i, with Set n marked in it if i is a member of `row`
abbrev pub with_mark : ℕ → ℕ → ℕ → ℕ → ℕ
with_mark n row i g =
    cond (bit row i) (bit_or g (2 ^ n)) g

-- the rows tell the conflicts of the Sets ms by document 01's rule and nothing else, and their contexts
pub record RowsTell (ms : List Edit) (plains cs : List ℕ) : Type 0 where
  pub plainly : PlainRows (box_on ms) (length ms) plains
  pub narrow : (i : ℕ) → i < length ms → get_or plains i 0 < 2 ^ length ms
  pub held : take (length ms) cs ≡ contexts (box_on ms) (length ms)

-- what is told of a Set e that comes after the Sets ms, by rows that tell of these; whether it names a version, its
-- context if it does, and its conflicts, where those before it name theirs
pub record ToldOf (ms : List Edit) (e : Edit) (t : Told) : Type 0 where
  pub row : t.row ≡ plain_marks e ms
  pub seen : t.seen ≡ seen_marks e ms
  pub nameless : AllNamed (box_on ms) (length ms) → t.nameless ≡ nameless_among ms e
  pub context :
      AllNamed (box_on ms) (length ms) → names_none (box_on (ms ++ (e ∷ []))) (length ms) ≡ false →
      t.context ≡ context (box_on (ms ++ (e ∷ []))) (length ms)
  pub conflicts : AllNamed (box_on ms) (length ms) → t.nameless ≡ false → t.conflicts ≡ conflicts_with e ms

-- what is judged of a Set e that comes after the Sets ms, where these are proper and having seen goes through to it
pub record JudgedOf (ms : List Edit) (e : Edit) (j : Judged) : Type 0 where
  pub nameless :
      Proper ms → Lawful (box_on (ms ++ (e ∷ []))) (suc (length ms)) → j.nameless ≡ nameless_among ms e
  pub conflicts :
      Proper ms → Lawful (box_on (ms ++ (e ∷ []))) (suc (length ms)) → j.nameless ≡ false →
      j.conflicts ≡ conflicts_with e ms

-- the same, but that the conflicts are asked for only where `found` holds, and 16 of a limited Set too
pub record JudgedWhere (found : Bool) (ms : List Edit) (e : Edit) (j : Judged) : Type 0 where
  pub nameless :
      (is_limited e ≡ true → found ≡ true) → Proper ms → Lawful (box_on (ms ++ (e ∷ []))) (suc (length ms)) →
      j.nameless ≡ nameless_among ms e
  pub conflicts :
      found ≡ true → Proper ms → Lawful (box_on (ms ++ (e ∷ []))) (suc (length ms)) → j.nameless ≡ false →
      j.conflicts ≡ conflicts_with e ms

-- 16 is given to none of the Sets ms, each after those before it
unfoldable pub named_in_turn : List Edit → Bool
named_in_turn ms = all (length ms) (λ i. not (nameless_among (take i ms) (get_or ms i no_edit)))

-- r tells this; where it is so, the rows tell of them
pub record NamedBy (ms : List Edit) (r : Bool) (plains cs sees : List ℕ) : Type 0 where
  pub named : r ≡ named_in_turn ms
  pub rows : r ≡ true → RowsTell ms plains cs
  pub seen : r ≡ true → SeesTell ms sees
