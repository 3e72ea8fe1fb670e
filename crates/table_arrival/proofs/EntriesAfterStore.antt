-- The entries of the objects' table after a store: the entry stored is as written, every other as it was.
-- Assumes nothing.
use mathlib.Core.Path.{◌≡◌, ◌∙◌}
use mathlib.Core.List.{List}
use Prim.Native.Nat.{ℕ, ◌+◌, ◌*◌, ◌≤◌}
use native.Mathlib.Omega.{arith}
use lib.ListN.{length, get_or, set, length-set}
use lib.Seq.{get_or-set_same, get_or-set_other}
use Rattle.table_drawing.specs.Tables.{entry_length, place_at, sets_at, groups_at}
use Rattle.table_soundness.proofs.EachObject.{Entry, Row, Object}
use Rattle.table_arrival.specs.Arrival.{put_counts, put_entry}

-- an object that is as its entry says
pub object_of_lem :
    (rs : List ℕ) (n : ℕ) (os gs : List ℕ) (o : ℕ) {p k g : ℕ} → place_at os o ≡ p → sets_at os o ≡ k → groups_at os o ≡
    g →
    Entry rs n o p k → Row gs o k g → Object rs n os gs o
object_of_lem rs n os gs o ep ek eg x y = record { entry = rw (ep, ek) x; row = rw (ek, eg) y }

module _ (os : List ℕ) (m k g : ℕ) where
  pub counts-long : length (put_counts os m k g) ≡ length os
  counts-long =
      length-set (set os (m * entry_length + 1) k) (m * entry_length + 2) g ∙ length-set os (m * entry_length + 1) k

  -- any place but the two that are written
  pub counts-other :
      (i : ℕ) → (i ≡ m * entry_length + 1 → ⊥) → (i ≡ m * entry_length + 2 → ⊥) → get_or (put_counts os m k g) i 0 ≡ get_or
      os i 0
  counts-other i d f =
      get_or-set_other (set os (m * entry_length + 1) k) (m * entry_length + 2) i g 0 f
      ∙ get_or-set_other os (m * entry_length + 1) i k 0 d

  module _ (l : m * entry_length + entry_length ≤ length os) where
    pub counts-place : place_at (put_counts os m k g) m ≡ place_at os m
    counts-place = counts-other (m * entry_length) (λ q. omega arith) (λ q. omega arith)

    pub counts-sets : sets_at (put_counts os m k g) m ≡ k
    counts-sets =
        get_or-set_other (set os (m * entry_length + 1) k) (m * entry_length + 2) (m * entry_length + 1) g 0
        (λ q. omega arith)
        ∙ get_or-set_same os (m * entry_length + 1) k 0 (omega arith)

    pub counts-groups : groups_at (put_counts os m k g) m ≡ g
    counts-groups =
        get_or-set_same (set os (m * entry_length + 1) k) (m * entry_length + 2) g 0
        (omega (arith, length-set os (m * entry_length + 1) k))

-- the entries of another object
module _ (os : List ℕ) (o m k g : ℕ) (d : o ≡ m → ⊥) where
  pub other_place : place_at (put_counts os m k g) o ≡ place_at os o
  other_place = counts-other os m k g (o * entry_length) (λ q. omega arith) (λ q. omega arith)

  pub other-sets : sets_at (put_counts os m k g) o ≡ sets_at os o
  other-sets = counts-other os m k g (o * entry_length + 1) (λ q. d (omega arith)) (λ q. omega arith)

  pub other-groups : groups_at (put_counts os m k g) o ≡ groups_at os o
  other-groups = counts-other os m k g (o * entry_length + 2) (λ q. omega arith) (λ q. d (omega arith))

-- ---- a whole entry

module _ (os : List ℕ) (m p k g : ℕ) where
  pub entry-long : length (put_entry os m p k g) ≡ length os
  entry-long = counts-long (set os (m * entry_length) p) m k g ∙ length-set os (m * entry_length) p

  pub entry_past : (i : ℕ) → m * entry_length + entry_length ≤ i → get_or (put_entry os m p k g) i 0 ≡ get_or os i 0
  entry_past i l =
      counts-other (set os (m * entry_length) p) m k g i (λ q. omega arith) (λ q. omega arith)
      ∙ get_or-set_other os (m * entry_length) i p 0 (λ q. omega arith)

  pub entry_here :
      m * entry_length + entry_length ≤ length os →
      (place_at (put_entry os m p k g) m ≡ p)
      × (sets_at (put_entry os m p k g) m ≡ k)
      × (groups_at (put_entry os m p k g) m ≡ g)
  entry_here l =
      let w = set os (m * entry_length) p in
      let r : m * entry_length + entry_length ≤ length w = omega (arith, length-set os (m * entry_length) p) in (
        counts-place w m k g r ∙ get_or-set_same os (m * entry_length) p 0 (omega arith),
        counts-sets w m k g r,
        counts-groups w m k g r,
      )

  pub entry_other :
      (o : ℕ) → (o ≡ m → ⊥) →
      (place_at (put_entry os m p k g) o ≡ place_at os o)
      × (sets_at (put_entry os m p k g) o ≡ sets_at os o)
      × (groups_at (put_entry os m p k g) o ≡ groups_at os o)
  entry_other o d =
      let w = set os (m * entry_length) p in (
        other_place w o m k g d ∙ get_or-set_other os (m * entry_length) (o * entry_length) p 0 (λ q. d (omega arith)),
        other-sets w o m k g d ∙ get_or-set_other os (m * entry_length) (o * entry_length + 1) p 0 (λ q. omega arith),
        other-groups w o m k g d ∙ get_or-set_other os (m * entry_length) (o * entry_length + 2) p 0 (λ q. omega arith),
      )
