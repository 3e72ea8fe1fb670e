-- The Sets of an object by their keys, and a Set as one number, by which a later one is told whether they conflict. No
-- one need believe it: laws in proofs/ say when the Sets of an object are told by it. Assumes nothing.
use Rattle.std.specs.Prelude.{◌≡◌, Bool, not, ◌&&◌, List, ℕ, ◌*◌, ◌/◌, ◌%◌, ◌<◌, eqb, get_or}
use Rattle.edit_record.specs.declared.Edit.{Edit}
use Rattle.edit_record.specs.Layout.{keys, two_bytes}
use Rattle.edit_causal.specs.Causal.{has_seen}
use Rattle.edit_causal.specs.Conflict.{do_conflict}
use Rattle.edit_causal.specs.ShownValue.{shown_value}
use Rattle.edit_history.specs.EditsHeld.{record_at}
use Rattle.math_maximal.specs.Groups.{bit}
use Rattle.group_true.specs.Disputed.{is_disputed}
use Rattle.group_sight.specs.SightForms.{sets_in}

-- the Set in the i-th of the places ps
abbrev pub set_at : List ℕ → List ℕ → ℕ → Edit
set_at rs ps i = record_at rs (get_or ps i 0)

-- ---- two Sets of an object

-- the key of a Set, as a place among the keys
abbrev pub chain_of : Edit → ℕ
chain_of e = e.key % keys

-- b's author had not seen a, and they are shown differently
abbrev pub unlike : Edit → Edit → Bool
unlike a b =
    not (has_seen b.vector a.site a.seq)
    && not (eqb (shown_value a.key a.value) (shown_value b.key b.value))

-- by this it is told whether a and the later b conflict
abbrev pub Tells : Edit → Edit → Type 0
Tells a b = do_conflict a b ≡ (eqb (chain_of a) (chain_of b) && unlike a b)

-- of each of the first k Sets and those before it
abbrev pub TellsIn : List ℕ → List ℕ → ℕ → Type 0
TellsIn rs ps k = (i j : ℕ) → i < k → j < i → Tells (set_at rs ps j) (set_at rs ps i)

-- the members of r, of the first t Sets, are those that are in dispute
abbrev pub DisputedBy : List ℕ → List ℕ → ℕ → ℕ → Type 0
DisputedBy rs ps t r = (i : ℕ) → i < t → bit r i ≡ is_disputed (sets_in rs ps t) (set_at rs ps i)

-- ---- a Set as one number

-- the values that four bytes have
abbrev pub values : ℕ
values = 4294967296

-- x has the site of e, its sequence number and its value as it is shown
pub record ToldAs (x : ℕ) (e : Edit) : Type 0 where
  pub site : x / (two_bytes * values) % 256 ≡ e.site.0
  pub seq : x / values % two_bytes ≡ e.seq.0
  pub value : x % values ≡ shown_value e.key e.value
