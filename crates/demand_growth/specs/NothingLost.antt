-- Req 10 in its words: what holds of object o between an earlier moment, at the tables t, and a later one, at u.
-- Assumes nothing.
use Rattle.std.specs.Prelude.{◌≡◌, ℕ, ◌≤◌, ◌<◌}
use Rattle.table_drawing.specs.Tables.{Tables}
use Rattle.list_objects.specs.Objects.{create_of}
use Rattle.demand_growth.specs.Versions.{IsVersion, versions, group_at, identifier_at, Within}

-- the version k at u contains the version g at t: its group the group, its identifier the identifier
pub record Contains (t u : Tables) (o g k : ℕ) : Type 0 where
  pub group : Within (group_at t o g) (group_at u o k)
  pub identifier : Within (identifier_at t o g) (identifier_at u o k)

pub record NothingLost (t u : Tables) (o : ℕ) : Type 0 where
  -- it is the same object: its Create is
  pub same_object : (o < u.counters.objects) × (create_of u o ≡ create_of t o)
  -- for each version there is a later one that contains it
  pub later_version : (g : ℕ) → IsVersion t o g → (k : ℕ) × IsVersion u o k × Contains t u o g k
  -- two versions are never found in one later version: by their groups, and by their identifiers alone
  pub apart_by_group :
      (g h k : ℕ) → IsVersion t o g → IsVersion t o h → IsVersion u o k → Within (group_at t o g) (group_at u o k) →
      Within (group_at t o h) (group_at u o k) → g ≡ h
  pub apart_by_identifier :
      (g h k : ℕ) → IsVersion t o g → IsVersion t o h → IsVersion u o k →
      Within (identifier_at t o g) (identifier_at u o k) → Within (identifier_at t o h) (identifier_at u o k) → g ≡ h
  -- so its versions never become fewer
  pub never_fewer : versions t o ≤ versions u o
