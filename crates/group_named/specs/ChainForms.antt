-- The chain of the Sets of each object, ch: the entry of a Create has the place of the first Set on it, and the entry
-- of a Set the place of the next one on the same Create; 0 says that there is none. No one need believe it: laws in
-- proofs/ tie it to `sets_on`. Assumes nothing.
use Rattle.std.specs.Prelude.{◌≡◌, Bool, true, ◌&&◌, cond, List, [], ◌∷◌, ℕ, ◌<◌, ltb, get_or, set}
use Rattle.math_lists.specs.NumbersBelow.{keep}
use Rattle.edit_record.specs.Answer1.{is_create, is_set}
use Rattle.edit_history.specs.EditsHeld.{record_at, is_set_on}
use Rattle.edit_walk.specs.WalkForms.{place_of}

-- the Set in place q put before those of the Create in place p
abbrev pub put : List ℕ → ℕ → ℕ → List ℕ
put ch p q = set (set ch q (get_or ch p 0)) p q

-- where the target of the edit in place q stands, by the index ps
abbrev pub aim_of : List ℕ → List ℕ → ℕ → ℕ
aim_of rs ps q = place_of ps (record_at rs q).tsite.0 (record_at rs q).tseq.0

-- the chain with the record in place q, if that is a Set whose target stands before it
unfoldable pub linked_with : List ℕ → List ℕ → ℕ → List ℕ → List ℕ
linked_with rs ps q ch = cond (is_set (record_at rs q) && ltb (aim_of rs ps q) q) (put ch (aim_of rs ps q) q) ch

-- from the entry v the chain goes through the places l, in their order, and ends
abbrev pub Follows : List ℕ → ℕ → List ℕ → Type 0
Follows ch v [] = v ≡ 0
Follows ch v (y ∷ l) = (v ≡ y) × (0 < y) × Follows ch (get_or ch y 0) l

-- the record in place q is a Set on the Create in place p
abbrev pub is_on : List ℕ → ℕ → ℕ → Bool
is_on rs p q = is_set_on (record_at rs p).site (record_at rs p).seq (record_at rs q)

-- from each Create of the first n records it goes through the places of the Sets on it
abbrev pub ByteChained : List ℕ → ℕ → List ℕ → Type 0
ByteChained rs n ch = (p : ℕ) → p < n → is_create (record_at rs p) ≡ true → Follows ch (get_or ch p 0) (keep n (is_on rs p))

-- each Set among the first n records has its Create before it
abbrev pub TargetsHeld : List ℕ → ℕ → Type 0
TargetsHeld rs n =
    (q : ℕ) →
    q < n →
    is_set (record_at rs q) ≡ true →
    (p : ℕ)
    × (p < q)
    × (is_create (record_at rs p) ≡ true)
    × ((record_at rs p).site.0 ≡ (record_at rs q).tsite.0)
    × ((record_at rs p).seq.0 ≡ (record_at rs q).tseq.0)
