-- The laws of conflict among the Sets ms of an object: nothing else looks into its definition. What is assumed of the
-- Sets stands in each law.
use mathlib.Core.Path.{◌≡◌}
use mathlib.Core.Bool.{false}
use mathlib.Core.List.{List, ◌++◌}
use Prim.Native.Nat.{ℕ, ◌<◌}
use native.Mathlib.Omega.{arith}
use lib.ListN.{length, get_or, length-append}
use Rattle.math_lists.proofs.Booleans.{clash, off}
use Rattle.math_contexts.specs.Box.{Lawful}
use Rattle.math_contexts.specs.BoxByArrival.{rel}
use Rattle.math_contexts.specs.SameSets.{SameBelow, SameSets}
use Rattle.math_contexts.specs.NamedVersions.{contexts_named}
use Rattle.math_contexts.proofs.BoxGrows.{first-keep}
use Rattle.math_contexts.proofs.ConflictsNamed.{named-symmetric, named-plainly, named-all-plain}
use Rattle.math_contexts.proofs.ConflictsNamed.{named-conflicts-later}
use Rattle.math_contexts.proofs.NamedSets.{named-irreflexive, all-named-any-order, named-conflicts-any-order}
use Rattle.edit_record.specs.declared.Edit.{Edit}
use Rattle.edit_record.specs.RecordBytes.{no_edit}
use Rattle.edit_record.specs.Answer1.{is_limited}
use Rattle.edit_causal.specs.Conflict.{do_conflict, lists, box_on, conflicts_in}
use Rattle.edit_causal.specs.ConflictForms.{NoneItself, Proper, saw}
use Rattle.edit_causal.proofs.CausalLaws.{conflict-symmetric}

-- ---- whichever is asked, and of one and the same

pub conflicts-turned : (ms : List Edit) (i j : ℕ) → conflicts_in ms i j ≡ conflicts_in ms j i
unfolding conflicts_in rel
conflicts-turned ms =
    named-symmetric (box_on ms) (contexts_named (box_on ms) (length ms))
    (λ i j. conflict-symmetric (get_or ms i no_edit) (get_or ms j no_edit))

-- no Set conflicts with itself
pub none-itself : (ms : List Edit) → Proper ms → NoneItself ms
unfolding conflicts_in
none-itself ms p = named-irreflexive (box_on ms) (length ms) p.lawful p.named

-- ---- of more Sets, and of the same in another order

pub first-sets : (ms more : List Edit) → SameBelow (box_on ms) (box_on (ms ++ more)) (length ms)
first-sets = first-keep no_edit do_conflict saw lists is_limited

-- Sets that come later change nothing
pub conflicts-kept :
    (ms more : List Edit) (i j : ℕ) → i < length ms → j < length ms →
    conflicts_in (ms ++ more) i j ≡ conflicts_in ms i j
unfolding conflicts_in
conflicts-kept ms more =
    named-conflicts-later (first-sets ms more) (length (ms ++ more)) (omega (arith, length-append ms more))

-- f gives the number in ms of the Set that has the number i in ns
module _ (ms ns : List Edit) (f q : ℕ → ℕ) (same : SameSets (box_on ms) (length ms) (box_on ns) (length ns) f q)
    (p : Proper ms) (law : Lawful (box_on ns) (length ns)) where
  pub proper-renumbered : Proper ns
  proper-renumbered = record { lawful = law; named = all-named-any-order same p.lawful law p.named }

  pub conflicts-renumbered :
      (i j : ℕ) → i < length ns → j < length ns → conflicts_in ns i j ≡ conflicts_in ms (f i) (f j)
  unfolding conflicts_in
  conflicts-renumbered = named-conflicts-any-order same p.lawful law p.named

-- ---- beside document 01's conflict of two edits

-- what conflicts by document 01's rule conflicts: so two members of a group do not
pub free-plainly :
    (ms : List Edit) (i j : ℕ) → conflicts_in ms i j ≡ false → do_conflict (get_or ms i no_edit) (get_or ms j no_edit) ≡ false
unfolding conflicts_in rel
free-plainly ms i j h =
    off (do_conflict (get_or ms i no_edit) (get_or ms j no_edit)) (λ e.
    clash (named-plainly (box_on ms) (contexts_named (box_on ms) (length ms)) i j e) h)

-- and where no Set is limited nothing else conflicts
pub conflict-plainly :
    (ms : List Edit) → ((i : ℕ) → i < length ms → is_limited (get_or ms i no_edit) ≡ false) →
    (i j : ℕ) → i < length ms → j < length ms →
    conflicts_in ms i j ≡ do_conflict (get_or ms i no_edit) (get_or ms j no_edit)
unfolding conflicts_in rel
conflict-plainly ms none = named-all-plain (box_on ms) (length ms) none
