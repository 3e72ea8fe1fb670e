-- The rows of some Sets in one list, with those of one Set more; and that of proper Sets, what is left of what the last
-- one has seen is its context. Assumes nothing.
use mathlib.Core.Path.{◌≡◌, sym, ap, subst, ◌∙◌}
use mathlib.Core.Logic.{inl, inr}
use mathlib.Core.List.{List, [], ◌∷◌, ◌++◌}
use Prim.Native.Nat.{ℕ, suc, ◌+◌, ◌-◌, ◌%◌, ◌<◌}
use native.Mathlib.Omega.{arith}
use lib.ListN.{length, get_or, set, take, drop, length-append, length-drop, get_or-append}
use lib.Seq.{get_or-append_seam, get_or-set_same, get_or-set_other, get_or-take, take_all, take-set-le}
use lib.Seq.{drop_at, drop-drop, drop-set-add, drop-set-lt}
use Rattle.math_lists.proofs.LastBelow.{last}
use Rattle.math_contexts.specs.Box.{Lawful}
use Rattle.math_contexts.specs.Contexts.{context}
use Rattle.edit_record.specs.declared.Edit.{Edit}
use Rattle.edit_record.specs.RecordBytes.{no_edit}
use Rattle.edit_causal.specs.Conflict.{box_on}
use Rattle.edit_causal.specs.ConflictForms.{Proper}
use Rattle.group_step.specs.GroupRows.{most_sets}
use Rattle.group_context.specs.RowsOfBox.{what_is_left}
use Rattle.group_limited.specs.LimitedForms.{with_mark, RowsTell}
use Rattle.group_sight.specs.SightForms.{most_recent, NameOf, NamesOf, SeesTell}
use Rattle.group_limited.proofs.RowsOneMore.{tell-one-more}
use Rattle.group_limited.proofs.RowsInPlaces.{sees-one-more}
use Rattle.group_limited.proofs.ToldByRows.{left-told}
use Rattle.group_limited.proofs.NamedInTurn.{first-proper}
use Rattle.group_kept.specs.declared.Noted.{Noted}
use Rattle.group_kept.specs.KeptForms.{contexts_at, sees_at, rows_length, RowsKept, NotedOf}

-- what a slice has from n on
pub rest-is : (n : ℕ) (l : List ℕ) → take (length l - n) (drop n l) ≡ drop n l
rest-is n l = take_all (length l - n) (drop n l) (omega (arith, length-drop n l))

module _ (ms : List Edit) (e : Edit) (p : Proper (ms ++ (e ∷ []))) where
  one_more_lem : length (ms ++ (e ∷ [])) ≡ suc (length ms)
  one_more_lem = omega (arith, length-append ms (e ∷ []))

  pub lawful-one-more : Lawful (box_on (ms ++ (e ∷ []))) (suc (length ms))
  lawful-one-more = subst (Lawful (box_on (ms ++ (e ∷ [])))) one_more_lem p.lawful

  pub left-one-more : what_is_left (box_on (ms ++ (e ∷ []))) (length ms) ≡ context (box_on (ms ++ (e ∷ []))) (length ms)
  left-one-more =
      left-told ms e lawful-one-more (first-proper ms (e ∷ []) p).named (p.named (length ms) (omega (
        arith,
        one_more_lem,
      )))

-- the names with that of one Set more
pub names-one-more :
    (ns : List ℕ) (ms : List Edit) (e : Edit) (k x : ℕ) → length ms ≡ k → k < length ns → NamesOf ns ms → NameOf x e →
    NamesOf (set ns k x) (ms ++ (e ∷ []))
names-one-more ns ms e k x long room names its i l =
    elim (last {i = i} {n = k} (omega (arith, length-append ms (e ∷ []), long))) [
      | inl m ↦
          rw (get_or-set_other ns k i x 0 (λ z. omega arith), get_or-append ms (e ∷ []) no_edit i (omega arith))
          (names i (omega arith))
      | inr q ↦
          rw (q, get_or-set_same ns k x 0 room, ← long, get_or-append_seam ms e [] no_edit) its
    ]

-- the rows where those of one Set more are put down
module _
    (ms : List Edit)
    (e : Edit)
    (k : ℕ)
    (long : length ms ≡ k)
    (few : k < most_sets)
    (rows marked : List ℕ)
    (t : Noted)
    (size : length rows ≡ rows_length)
    (half : length marked ≡ contexts_at)
    (kept : RowsKept ms rows)
    (noted : NotedOf ms e t)
    (marks : (i : ℕ) → i < k → get_or marked i 0 ≡ with_mark k t.row i (get_or (take contexts_at rows) i 0))
    (own : get_or marked k 0 ≡ t.row) where
  abbrev ns : List Edit
  ns = ms ++ (e ∷ [])

  abbrev cs : List ℕ
  cs = drop contexts_at rows

  abbrev front : List ℕ
  front = set (marked ++ cs) (contexts_at + k) t.context

  abbrev after : List ℕ
  after = set front (sees_at + k % most_recent) t.seen

  low : (i : ℕ) → i < contexts_at → get_or after i 0 ≡ get_or marked i 0
  low i l =
      get_or-set_other front (sees_at + k % most_recent) i t.seen 0 (λ z. omega arith)
      ∙ get_or-set_other (marked ++ cs) (contexts_at + k) i t.context 0 (λ z. omega arith)
      ∙ get_or-append marked cs 0 i (omega (arith, half))

  behind : drop contexts_at after ≡ set (set cs k t.context) (most_sets + k % most_recent) t.seen
  behind =
      let split : sees_at + k % most_recent ≡ contexts_at + (most_sets + k % most_recent) = omega arith in
      ap (λ (j : ℕ). drop contexts_at (set front j t.seen)) split
      ∙ drop-set-add contexts_at front (most_sets + k % most_recent) t.seen
      ∙ ap (λ (l : List ℕ). set l (most_sets + k % most_recent) t.seen)
      (drop-set-add contexts_at (marked ++ cs) k t.context
      ∙ ap (λ (l : List ℕ). set l k t.context) (drop_at marked cs contexts_at half))

  tell-after : RowsTell ns after (drop contexts_at after)
  tell-after =
      let one = tell-one-more ms e k long rows cs after t.row t.context kept.tell noted.row
      (λ i l. low i (omega arith) ∙ marks i l
      ∙ ap (with_mark k t.row i) (get_or-take contexts_at rows i 0 (omega arith)))
      (low k (omega arith) ∙ own)
      (omega (arith, length-drop contexts_at rows, size))
      (noted.context ∙ ap (context (box_on ns)) long) in
      record {
        plainly = one.plainly;
        narrow = one.narrow;
        held =
            ap (take (length ns)) behind
            ∙ take-set-le (length ns) (set cs k t.context) (most_sets + k % most_recent) t.seen
            (omega (arith, length-append ms (e ∷ []), long))
            ∙ one.held;
      }

  seen-after : drop sees_at after ≡ set (drop sees_at rows) (k % most_recent) t.seen
  seen-after =
      drop-set-add sees_at front (k % most_recent) t.seen
      ∙ ap (λ (l : List ℕ). set l (k % most_recent) t.seen)
      (drop-set-lt sees_at (marked ++ cs) (contexts_at + k) t.context (omega arith)
      ∙ sym (drop-drop most_sets contexts_at (marked ++ cs))
      ∙ ap (drop most_sets) (drop_at marked cs contexts_at half)
      ∙ drop-drop most_sets contexts_at rows)

  pub kept-one-more : RowsKept ns after
  kept-one-more = record {
    tell = tell-after;
    sees =
        subst (SeesTell ns) (sym seen-after)
        (sees-one-more ms e k long (drop sees_at rows) t.seen kept.sees noted.seen
        (omega (arith, length-drop sees_at rows, size)));
  }
