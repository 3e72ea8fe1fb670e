-- The Sets and the groups of an object by their definitions, with more edits: an edit that is no Set of it leaves them
-- as they were, with a Set of it the groups are what the step gives, and they never become fewer. Assumes, where it is
-- said, that no Set of the object conflicts with itself.
use mathlib.Core.Path.{◌≡◌, sym, ap, ap₂, ◌∙◌}
use mathlib.Core.Bool.{true, false}
use mathlib.Core.List.{List, [], ◌∷◌, ◌++◌, append-nil}
use Prim.Native.Nat.{◌≤◌}
use native.Mathlib.Omega.{arith}
use lib.ListN.{length}
use Rattle.math_lists.specs.SortedLists.{filter}
use Rattle.math_lists.proofs.GrownAtEnd.{filter-append, filter-snoc}
use Rattle.edit_record.specs.declared.Site.{Site}
use Rattle.edit_record.specs.declared.Seq.{Seq}
use Rattle.edit_record.specs.declared.Edit.{Edit}
use Rattle.edit_record.specs.Answer1.{is_set}
use Rattle.edit_causal.specs.Conflict.{conflicts_in, conflicts_with}
use Rattle.edit_causal.proofs.CausalLaws.{same-reflexive}
use Rattle.edit_causal.specs.ConflictForms.{NoneItself}
use Rattle.math_maximal.specs.Groups.{every}
use Rattle.math_maximal.specs.Step.{step}
use Rattle.math_maximal.proofs.Groups.{no-elements}
use Rattle.edit_history.specs.EditsHeld.{is_set_on, sets_on}
use Rattle.group_true.specs.TrueGroups.{groups_of, true_groups}
use Rattle.group_true.proofs.GroupsGrow.{never-fewer-groups, sets-step}

-- ---- an edit that is no Set of the object

pub sets_same :
    (es : List Edit) (c e : Edit) → is_set_on c.site c.seq e ≡ false →
    sets_on c.site c.seq (es ++ (e ∷ [])) ≡ sets_on c.site c.seq es
unfolding sets_on
sets_same es c e d =
    let f = is_set_on c.site c.seq in
    filter-snoc f es e ∙ rw d (append-nil (filter f es))

pub groups-same :
    (es : List Edit) (c e : Edit) → is_set_on c.site c.seq e ≡ false →
    true_groups (es ++ (e ∷ [])) c ≡ true_groups es c
unfolding true_groups
groups-same es c e d = ap groups_of (sets_same es c e d)

-- ---- a Set of it

-- a Set on the object stands last among its Sets
pub sets_more :
    (es : List Edit) (e : Edit) → is_set e ≡ true →
    sets_on e.tsite e.tseq (es ++ (e ∷ [])) ≡ sets_on e.tsite e.tseq es ++ (e ∷ [])
unfolding sets_on
sets_more es e k = filter-snoc (is_set_on e.tsite e.tseq) es e ∙ rw (k, same-reflexive e.tsite e.tseq)

-- the step gives the groups of the object with the new one
pub groups-more :
    (es : List Edit) (e : Edit) → is_set e ≡ true → NoneItself (sets_on e.tsite e.tseq es ++ (e ∷ [])) →
    (c : Edit) → c.site ≡ e.tsite → c.seq ≡ e.tseq →
    step (conflicts_with e (sets_on e.tsite e.tseq es)) (length (sets_on e.tsite e.tseq es)) (true_groups es c)
    ≡ true_groups (es ++ (e ∷ [])) c
unfolding true_groups
groups-more es e k irr c hs hq =
    let ms = sets_on e.tsite e.tseq es in
    let old : sets_on c.site c.seq es ≡ ms = ap₂ (λ (x : Site) (y : Seq). sets_on x y es) hs hq in
    let new : sets_on c.site c.seq (es ++ (e ∷ [])) ≡ ms ++ (e ∷ [])
    = ap₂ (λ (x : Site) (y : Seq). sets_on x y (es ++ (e ∷ []))) hs hq ∙ sets_more es e k in
    ap (λ (l : List Edit). step (conflicts_with e ms) (length ms) (groups_of l)) old
    ∙ sets-step ms e irr
    ∙ ap groups_of (sym new)

-- ---- any edits

-- more leave no fewer groups
pub groups-grow :
    (es more : List Edit) (c : Edit) → NoneItself (sets_on c.site c.seq (es ++ more)) →
    length (true_groups es c) ≤ length (true_groups (es ++ more) c)
unfolding true_groups sets_on
groups-grow es more c irr =
    let f = is_set_on c.site c.seq in
    rw (filter-append f es more)
    (never-fewer-groups (filter f es) (filter f more) (rw (filter-append f es more) at irr))

-- ---- none of its Sets

pub groups-first : (es : List Edit) (c : Edit) → length (sets_on c.site c.seq es) ≡ 0 → true_groups es c ≡ 0 ∷ []
unfolding true_groups
groups-first es c h = go (sets_on c.site c.seq es) h
  where
    go : (ms : List Edit) → length ms ≡ 0 → groups_of ms ≡ 0 ∷ []
    go [] h = unfold groups_of in no-elements (conflicts_in []) every
    go (m ∷ ms) h = absurd (omega arith)
