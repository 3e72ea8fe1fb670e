-- What is told of a Set e by the rows of the Sets ms before it is what the rules say of it: its context, whether it
-- names a version, and the Sets that conflict with it. Assumes nothing.
use mathlib.Core.Path.{◌≡◌, refl, sym, ap, subst, ◌∙◌}
use mathlib.Core.Bool.{Bool, true, false, not, ◌&&◌, ◌||◌, not-not}
use mathlib.Core.List.{List, [], ◌∷◌, ◌++◌}
use Prim.Native.Nat.{ℕ, suc}
use native.Mathlib.Omega.{arith}
use lib.ListN.{length, get_or, length-append}
use Rattle.math_lists.specs.NumbersBelow.{mask}
use Rattle.math_lists.specs.SortedLists.{any}
use Rattle.math_lists.proofs.NumbersBelow.{mask-same}
use Rattle.math_contexts.specs.Box.{Box, Lawful}
use Rattle.math_contexts.specs.Contexts.{context}
use Rattle.math_contexts.specs.MaskForms.{mask_conflicts, mask_names}
use Rattle.math_contexts.specs.NamedVersions.{conflicts_by, contexts_named, names_none}
use Rattle.math_contexts.specs.Versions.{AllNamed}
use Rattle.math_contexts.proofs.ConflictsNamed.{names-none-later}
use Rattle.edit_record.specs.declared.Edit.{Edit}
use Rattle.edit_record.specs.RecordBytes.{no_edit}
use Rattle.edit_record.specs.Answer1.{is_limited}
use Rattle.edit_causal.specs.Conflict.{do_conflict, lists, listed_by, box_on, conflicts_in, conflicts_with}
use Rattle.edit_causal.specs.ConflictForms.{plain_marks, saw}
use Rattle.edit_causal.proofs.CausalLaws.{conflict-symmetric}
use Rattle.edit_causal.proofs.ConflictsAmongSets.{first-sets}
use Rattle.edit_history.specs.Answer16.{is_strange, nameless_among}
use Rattle.group_true.proofs.ProperSets.{named-version, named-snoc}
use Rattle.group_context.specs.RowsOfBox.{NextOf, what_is_left}
use Rattle.group_context.proofs.ContextByListed.{left-is-context}
use Rattle.group_context.proofs.RowsOfArrival.{next-arrives, row-arrives}
use Rattle.group_context.proofs.NamedByRows.{names-unless-none, conflicts-named}
use Rattle.group_limited.specs.declared.Sight.{Sight}
use Rattle.group_limited.specs.LimitedForms.{SightOf, RowsTell, ToldOf}
use Rattle.group_sight.specs.SightForms.{seen_marks, named_marks}

module _ (ms : List Edit) (e : Edit) where
  abbrev ns : List Edit
  ns = ms ++ (e ∷ [])

  abbrev k : ℕ
  k = length ms

  abbrev b : Box
  b = box_on ns

  long : length ns ≡ suc k
  long = omega (arith, length-append ms (e ∷ []))

  plain-never-nameless : is_limited e ≡ false → false ≡ nameless_among ms e
  unfolding nameless_among
  plain-never-nameless h = rw h

  -- ---- where those before it name theirs

  module _ (law : Lawful b (suc k)) (all : AllNamed (box_on ms) k) where
    all-before : AllNamed b k
    all-before i l = names-none-later (first-sets ms (e ∷ [])) i l ∙ all i l

    nameless-told :
        (strange names : Bool) → strange ≡ any (is_strange ms e) (listed_by e) → names ≡ mask_names b k →
        (is_limited e && (strange || not names)) ≡ nameless_among ms e
    unfolding nameless_among
    nameless-told strange names s h =
        rw (s, h, names-unless-none b k law all-before, not-not (names_none b k))

    pub left-told : names_none b k ≡ false → what_is_left b k ≡ context b k
    left-told h = left-is-context b k law (names-unless-none b k law all-before ∙ ap not h)

    conflicts-told : nameless_among ms e ≡ false → mask_conflicts b k ≡ conflicts_with e ms
    unfolding conflicts_with conflicts_in
    conflicts-told h =
        let named : AllNamed b (suc k) = subst (AllNamed b) long (named-snoc ms e all (named-version ms e h)) in
        conflicts-named b k law named
        ∙ ap (λ (n : ℕ). mask k (conflicts_by b (contexts_named b n) k)) (sym long)

  -- ---- by the rows

  module _ (plains cs : List ℕ) (tell : RowsTell ms plains cs) where
    next : NextOf b k plains cs (seen_marks e ms) (named_marks e ms) (is_limited e)
    unfolding seen_marks named_marks
    next =
        next-arrives no_edit do_conflict saw lists is_limited ms e (seen_marks e ms) (named_marks e ms) (is_limited e)
        tell.plainly tell.held refl refl refl

    its-row : plain_marks e ms ≡ mask k (b.plain k)
    unfolding plain_marks
    its-row =
        row-arrives no_edit do_conflict saw lists is_limited ms e (plain_marks e ms)
        (mask-same k (λ i. do_conflict (get_or ms i no_edit) e) (λ i. do_conflict e (get_or ms i no_edit))
        (λ i l. conflict-symmetric (get_or ms i no_edit) e))

    -- by its sight of them, and what the calls return
    module _ (s : Sight) (sight : SightOf ms e s) where
      pub next-by-sight : NextOf b k plains cs s.seen s.named s.limited
      next-by-sight = rw (sight.seen, sight.named, sight.limited) next

      module _ (law : Lawful b (suc k)) where
        pub nameless-by-sight :
            (names : Bool) → names ≡ mask_names b k → AllNamed (box_on ms) k →
            (s.limited && (s.strange || not names)) ≡ nameless_among ms e
        nameless-by-sight names its all = go (is_limited e) refl
          where
            go : (t : Bool) → is_limited e ≡ t → (s.limited && (s.strange || not names)) ≡ nameless_among ms e
            go true y = rw sight.limited (nameless-told law all s.strange names (sight.strange y) its)
            go false y = rw (sight.limited, y) (plain-never-nameless y)

        pub told-by-sight :
            (n : ℕ) → k ≡ n → (own : ℕ) → own ≡ what_is_left b k → (nameless : Bool) →
            (AllNamed (box_on ms) k → nameless ≡ nameless_among ms e) → (g : ℕ) →
            ((b : Box) (v w : ℕ) (limited : Bool) → NextOf b n plains cs v w limited → s.plain ≡ mask n (b.plain n) →
            own ≡ context b n → g ≡ mask_conflicts b n) →
            ToldOf ms e
            (record { row = s.plain; seen = s.seen; context = own; nameless = nameless; conflicts = g })
        told-by-sight n size own its nameless its-answer g h = record {
          row = sight.plain;
          seen = sight.seen;
          nameless = its-answer;
          context = λ all some. its ∙ left-told law all some;
          conflicts = λ all free.
              let answer = sym (its-answer all) ∙ free in
              rw (← size) at
              (h b s.seen s.named s.limited (rw (← size) next-by-sight)
              (rw (← size) (rw sight.plain its-row))
              (rw (← size) (its ∙ left-told law all (named-version ms e answer))))
              ∙ conflicts-told law all answer;
        }
