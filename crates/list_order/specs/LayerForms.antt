-- The order of the list as code finds it: by comparing two objects at a time, and by one number for each object. No one
-- need believe it: laws in proofs/ tie it to `Layers`. Assumes nothing.
use Rattle.std.specs.Prelude.{Bool, ◌||◌, ◌&&◌, cond, ℕ, ◌+◌, ◌*◌}
use Rattle.edit_record.specs.declared.Edit.{Edit}
use Rattle.edit_record.specs.Answer1.{is_top}
use Rattle.edit_record.specs.Layout.{most_sites, two_bytes}
use Rattle.edit_causal.specs.TotalOrder.{vector_sum, ranks_before}
use Rattle.list_version.specs.Identifier.{site_numbers}

-- ---- by comparing

-- the object with the deciding edit m stands before that with n
unfoldable pub goes_before : Edit → Edit → Bool
goes_before m n = cond (is_top m) (is_top n && ranks_before m n) (is_top n || ranks_before m n)

-- ---- by one number

-- the place of an edit in the total order as one number
abbrev pub rank_of : Edit → ℕ
rank_of e = vector_sum e.vector * site_numbers + e.site.0

-- ranks are below this number: entries of two bytes, then a site of one byte
abbrev pub ranks : ℕ
ranks = most_sites * two_bytes * site_numbers

-- the objects go by this number of their deciding edits: the rest, then those at the top
unfoldable pub key_of : Edit → ℕ
key_of m = cond (is_top m) (ranks + rank_of m) (rank_of m)
