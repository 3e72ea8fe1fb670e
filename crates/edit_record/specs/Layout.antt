-- The numbers of document 01's 'The edit record', each said once, and where each field starts. Assumes nothing.
use Rattle.std.specs.Prelude.{ℕ, ◌+◌, ◌*◌}

-- the sites that a drawing has at most: the entries of a vector
abbrev pub most_sites : ℕ
most_sites = 16

-- the attribute keys are the numbers below this one
abbrev pub keys : ℕ
keys = 16

-- a number of two bytes is below this one
abbrev pub two_bytes : ℕ
two_bytes = 65536

abbrev pub create_kind : ℕ
create_kind = 1

abbrev pub set_kind : ℕ
set_kind = 2

-- a Set that is limited to one version
abbrev pub limited_kind : ℕ
limited_kind = 3

abbrev pub top_kind : ℕ
top_kind = 4

abbrev pub bottom_kind : ℕ
bottom_kind = 5

-- ---- the fields, in their order

abbrev pub kind_at : ℕ
kind_at = 0

abbrev pub site_at : ℕ
site_at = 1

abbrev pub seq_at : ℕ
seq_at = 2

abbrev pub vector_at : ℕ
vector_at = 4

abbrev pub target_at : ℕ
target_at = vector_at + 2 * most_sites

abbrev pub key_at : ℕ
key_at = target_at + 1

abbrev pub target_seq_at : ℕ
target_seq_at = target_at + 2

abbrev pub value_at : ℕ
value_at = target_at + 4

-- the bytes of a record, but that a limited Set goes on
abbrev pub record_length : ℕ
record_length = value_at + 4

-- ---- what a limited Set lists: the count of its members, two zero bytes, and the members

abbrev pub count_at : ℕ
count_at = record_length

abbrev pub members_at : ℕ
members_at = count_at + 4

-- the bytes of a member, and the most members
abbrev pub member_length : ℕ
member_length = 4

abbrev pub most_members : ℕ
most_members = 16

-- the bytes of a place in the table of records, which has room for the longest
abbrev pub place_length : ℕ
place_length = members_at + member_length * most_members
