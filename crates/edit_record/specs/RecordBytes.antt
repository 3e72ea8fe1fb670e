-- The bytes of an edit record, little-endian, as an edit and back. A byte past the end counts as 0. Assumes nothing.
use Rattle.std.specs.Prelude.{ℕ, zero, suc, ◌+◌, ◌*◌, ◌-◌, ◌/◌, ◌%◌, List, [], ◌∷◌, ◌++◌, Bool, cond, get_or, drop, take, replicate, eqb}
use Rattle.edit_record.specs.declared.Edit.{Edit}
use Rattle.edit_record.specs.Layout.{most_sites, kind_at, site_at, seq_at, vector_at, target_at, key_at, target_seq_at}
use Rattle.edit_record.specs.Layout.{value_at, record_length, limited_kind, count_at, members_at, member_length}
use Rattle.edit_record.specs.Layout.{most_members, place_length}

-- ---- numbers in bytes

-- the number in two bytes from i on, and in four
abbrev pub two : List ℕ → ℕ → ℕ
two s i = get_or s i 0 + get_or s (i + 1) 0 * 256

abbrev pub four : List ℕ → ℕ → ℕ
four s i = two s i + two s (i + 2) * 65536

-- the first n numbers of two bytes
unfoldable pub counts : ℕ → List ℕ → List ℕ
counts zero s = []
counts (suc n) s = two s 0 ∷ counts n (drop 2 s)

-- the two bytes of each number
unfoldable pub count_bytes : List ℕ → List ℕ
count_bytes [] = []
count_bytes (n ∷ ns) = n % 256 ∷ n / 256 % 256 ∷ count_bytes ns

-- the first k of n numbers of four bytes, and 0 for the others
unfoldable pub first_fours : ℕ → ℕ → List ℕ → List ℕ
first_fours zero k s = []
first_fours (suc n) zero s = 0 ∷ first_fours n zero s
first_fours (suc n) (suc k) s = four s 0 ∷ first_fours n k (drop 4 s)

-- the four bytes of each number
unfoldable pub four_bytes : List ℕ → List ℕ
four_bytes [] = []
four_bytes (n ∷ ns) = count_bytes (n % 65536 ∷ n / 65536 ∷ []) ++ four_bytes ns

-- ---- the record

-- a record of kind 3 is at the front of s: a Set that is limited to one version
abbrev pub limits : List ℕ → Bool
limits s = eqb (get_or s kind_at 0) limited_kind

abbrev pub decode_of : List ℕ → Edit
decode_of s =
    record {
      kind = get_or s kind_at 0;
      site = record { 0 = get_or s site_at 0 };
      seq = record { 0 = two s seq_at };
      vector = counts most_sites (drop vector_at s);
      tsite = record { 0 = get_or s target_at 0 };
      key = get_or s key_at 0;
      tseq = record { 0 = two s target_seq_at };
      value = four s value_at;
      count = cond (limits s) (four s count_at) 0;
      members = first_fours most_members (cond (limits s) (two s count_at) 0) (drop members_at s);
    }

-- the bytes that a record of any kind has
abbrev pub field_bytes : Edit → List ℕ
field_bytes e =
    (e.kind ∷ e.site.0 ∷ count_bytes (e.seq.0 ∷ e.vector))
    ++ (e.tsite.0 ∷ e.key ∷ count_bytes (e.tseq.0 ∷ e.value % 65536 ∷ e.value / 65536 ∷ []))

abbrev pub encode_of : Edit → List ℕ
encode_of e =
    field_bytes e ++ cond (eqb e.kind limited_kind) (four_bytes (e.count ∷ take e.count e.members)) []

-- the bytes of a place that holds the edit: the members that a limited Set does not have are zeros like all the rest
abbrev pub placed : Edit → List ℕ
placed e =
    field_bytes e
    ++ cond (eqb e.kind limited_kind) (four_bytes (e.count ∷ e.members)) (replicate (place_length - record_length) 0)

-- how many bytes the record at the front of s has: a limited Set by the count that is stored
unfoldable pub span_of : List ℕ → ℕ
span_of s = cond (limits s) (members_at + two s count_at * member_length) record_length

-- stands for an edit past the end of a list: it has zeros alone
abbrev pub no_edit : Edit
no_edit = decode_of []
