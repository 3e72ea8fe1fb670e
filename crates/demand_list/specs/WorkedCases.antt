-- P1 to P12 of document 01's 'Cases to both sides' as one list, each with what the paper says of it: the answer to the
-- last record, or the whole printed list; and the case of document 02's Req 06. N = 3; one object, 0.1; the records are
-- those of the edits. Assumes nothing.
use Rattle.std.specs.Prelude.{◌≡◌, ℕ, ◌+◌, ◌-◌, ◌*◌, length, replicate}
use mathlib.Core.List.{List, [], ◌∷◌, ◌++◌, map, flat_map}
use Prim.Native.Char.{code}
use Prim.Native.String.{String, [] as end, ◌∷◌ as ◌then◌}
use Rattle.edit_record.specs.declared.Edit.{Edit}
use Rattle.edit_record.specs.Layout.{most_sites, most_members, two_bytes, limited_kind, create_kind, set_kind}
use Rattle.edit_form.specs.OldForm.{long_form, stored_in}
use Rattle.edit_record.specs.RecordBytes.{encode_of}
use Rattle.table_given.specs.Replay.{Replayed, replay_of}
use Rattle.list_lines.specs.List.{lines_of}

-- ---- what a case is

-- the answer to the last record, all before it being accepted; or all are, and these lines are printed
pub data Expected : Type 0 where
  refused : ℕ → Expected
  prints : List String → Expected

pub record Case : Type 0 where
  pub arrivals : List Edit
  pub expected : Expected

-- a text as its bytes
unfoldable pub bytes_of : String → List ℕ
bytes_of end = []
bytes_of (c then s) = code c ∷ bytes_of s

abbrev pub sites : ℕ
sites = 3

-- the records, one after another
abbrev pub record_bytes : List Edit → List ℕ
record_bytes es = flat_map encode_of es

abbrev pub Meets : Replayed → ℕ → Expected → Type 0
Meets r n (refused a) = (r.answer ≡ a) × (r.index + 1 ≡ n)
Meets r n (prints ls) = (r.answer ≡ 0) × (lines_of r.after ≡ map bytes_of ls)

-- the records taken from an empty drawing are answered and printed as expected
abbrev pub CaseHolds : Case → Type 0
CaseHolds c =
    let n = length c.arrivals in
    Meets (replay_of sites (stored_in long_form (record_bytes c.arrivals)) n) n c.expected

abbrev pub AllHold : List Case → Type 0
AllHold [] = Unit {0}
AllHold (c ∷ cs) = CaseHolds c × AllHold cs

-- ---- the edits

-- the entries of the three sites, and none for the others
abbrev pub vector : ℕ → ℕ → ℕ → List ℕ
vector a b c = a ∷ b ∷ c ∷ replicate (most_sites - sites) 0

abbrev pub no_members : List ℕ
no_members = replicate most_members 0

-- the Create 0.1
abbrev pub box : Edit
box =
    record {
      kind = create_kind;
      site = record { 0 = 0 };
      seq = record { 0 = 1 };
      vector = vector 1 0 0;
      tsite = record { 0 = 0 };
      key = 0;
      tseq = record { 0 = 0 };
      value = 0;
      count = 0;
      members = no_members;
    }

-- the Set s.q with the vector v, which gives 0.1 the value w for the key k
abbrev pub puts : ℕ → ℕ → List ℕ → ℕ → ℕ → Edit
puts s q v k w =
    record {
      kind = set_kind;
      site = record { 0 = s };
      seq = record { 0 = q };
      vector = v;
      tsite = record { 0 = 0 };
      key = k;
      tseq = record { 0 = 1 };
      value = w;
      count = 0;
      members = no_members;
    }

-- the box, then Sets
abbrev pub case : List Edit → Expected → Case
case es x = record { arrivals = box ∷ es; expected = x }

-- 1.1 and 2.1, both having seen only 0.1
abbrev pub one40 : Edit
one40 = puts 1 1 (vector 1 1 0) 2 40

abbrev pub two40 : Edit
two40 = puts 2 1 (vector 1 0 1) 2 40

abbrev pub two44 : Edit
two44 = puts 2 1 (vector 1 0 1) 2 44

-- 2.1 having seen 1.1; 0.2 having seen neither, and both
abbrev pub later44 : Edit
later44 = puts 2 1 (vector 1 1 1) 2 44

abbrev pub alone9 : Edit
alone9 = puts 0 2 (vector 2 0 0) 2 9

abbrev pub last9 : Edit
last9 = puts 0 2 (vector 2 1 1) 2 9

-- ---- the cases

abbrev pub seventh : Expected
seventh = prints ("sites 3 objects 1 versions 2 sum 592230\n" ∷ "0.1 0.2 2=9\n" ∷ "0.1 1.1+2.1 2=40\n" ∷ [])

unfoldable pub cases : List Case
cases =
    -- P1 to P6
    case [] (prints ("sites 3 objects 1 versions 1 sum 65538\n" ∷ "0.1 -\n" ∷ []))
    ∷ case (one40 ∷ []) (prints ("sites 3 objects 1 versions 1 sum 262957\n" ∷ "0.1 - 2=40\n" ∷ []))
    ∷ case (one40 ∷ two44 ∷ [])
    (prints ("sites 3 objects 1 versions 2 sum 395101\n" ∷ "0.1 1.1 2=40\n" ∷ "0.1 2.1 2=44\n" ∷ []))
    ∷ case (one40 ∷ two40 ∷ []) (prints ("sites 3 objects 1 versions 1 sum 395097\n" ∷ "0.1 - 2=40\n" ∷ []))
    ∷ case (one40 ∷ puts 2 1 (vector 1 0 1) 3 44 ∷ [])
    (prints ("sites 3 objects 1 versions 1 sum 395357\n" ∷ "0.1 - 2=40 3=44\n" ∷ []))
    ∷ case (one40 ∷ later44 ∷ []) (prints ("sites 3 objects 1 versions 1 sum 460637\n" ∷ "0.1 - 2=44\n" ∷ []))
    -- P7 in all six orders
    ∷ case (alone9 ∷ one40 ∷ two40 ∷ []) seventh
    ∷ case (alone9 ∷ two40 ∷ one40 ∷ []) seventh
    ∷ case (one40 ∷ alone9 ∷ two40 ∷ []) seventh
    ∷ case (one40 ∷ two40 ∷ alone9 ∷ []) seventh
    ∷ case (two40 ∷ alone9 ∷ one40 ∷ []) seventh
    ∷ case (two40 ∷ one40 ∷ alone9 ∷ []) seventh
    -- P8 and P9
    ∷ case (one40 ∷ two44 ∷ last9 ∷ [])
    (prints ("sites 3 objects 1 versions 2 sum 657771\n" ∷ "0.1 1.1 2=9\n" ∷ "0.1 2.1 2=9\n" ∷ []))
    ∷ case
    (puts 1 1 (vector 1 1 0) 1 10
    ∷ puts 2 1 (vector 1 0 1) 1 20
    ∷ puts 1 2 (vector 1 2 0) 2 30
    ∷ puts 2 2 (vector 1 0 2) 2 40
    ∷ [])
    (prints
    ("sites 3 objects 1 versions 4 sum 920693\n"
    ∷ "0.1 1.1+1.2 1=8 2=30\n"
    ∷ "0.1 1.1+2.2 1=8 2=40\n"
    ∷ "0.1 1.2+2.1 1=16 2=30\n"
    ∷ "0.1 2.1+2.2 1=16 2=40\n"
    ∷ []))
    -- P10 to P12
    ∷ case (later44 ∷ []) (refused 3)
    ∷ case (one40 ∷ puts 2 1 (vector 0 1 1) 2 44 ∷ []) (refused 4)
    ∷ case (puts 1 1 (vector 0 1 0) 2 40 ∷ []) (refused 5)
    -- the example of 'The printed list'
    ∷ case (one40 ∷ two44 ∷ puts 0 2 (vector 2 0 0) 5 7 ∷ [])
    (prints ("sites 3 objects 1 versions 2 sum 593000\n" ∷ "0.1 1.1 2=40 5=7\n" ∷ "0.1 2.1 2=44 5=7\n" ∷ []))
    ∷ []

-- ---- 'I recoloured one box and both turned red'

-- the member s.q of a list
abbrev pub member : ℕ → ℕ → ℕ
member s q = s + q * two_bytes

-- the Set s.q, which gives the value w for the key k to the version that the members ms name
abbrev pub limits : ℕ → ℕ → List ℕ → ℕ → ℕ → List ℕ → Edit
limits s q v k w ms =
    record {
      kind = limited_kind;
      site = record { 0 = s };
      seq = record { 0 = q };
      vector = v;
      tsite = record { 0 = 0 };
      key = k;
      tseq = record { 0 = 1 };
      value = w;
      count = length ms;
      members = ms ++ replicate (most_members - length ms) 0;
    }

-- 0.2 has 1.1 and 2.1 before it and recolours the version of 1.1; 2.2 is a plain Set of one who has not seen that
abbrev pub red : Edit
red = limits 0 2 (vector 2 1 1) 3 7 (member 1 1 ∷ [])

abbrev pub plain9 : Edit
plain9 = puts 2 2 (vector 1 1 2) 5 9

-- 2.3 has not seen 0.2 and gives the version of 1.1 another colour, which splits it; 1.2 has seen 0.2 and not 2.3
abbrev pub blue : Edit
blue = limits 2 3 (vector 1 1 3) 3 8 (member 1 1 ∷ [])

abbrev pub late : Edit
late = limits 1 2 (vector 2 2 2) 4 1 (member 1 1 ∷ [])

unfoldable pub story : List Case
story =
    -- the other version keeps its colour
    case (one40 ∷ two44 ∷ red ∷ [])
    (prints ("sites 3 objects 1 versions 2 sum 723564\n" ∷ "0.1 1.1 2=40 3=7\n" ∷ "0.1 2.1 2=44\n" ∷ []))
    -- a plain Set shows in both
    ∷ case (one40 ∷ two44 ∷ red ∷ plain9 ∷ [])
    (prints ("sites 3 objects 1 versions 2 sum 987514\n" ∷ "0.1 1.1 2=40 3=7 5=9\n" ∷ "0.1 2.1 2=44 5=9\n" ∷ []))
    -- a Set that is limited to a version that has been split meanwhile shows in the part that its author had before him
    ∷ case (one40 ∷ two44 ∷ red ∷ plain9 ∷ blue ∷ late ∷ [])
    (prints
    ("sites 3 objects 1 versions 3 sum 1776533\n"
    ∷ "0.1 0.2+1.1 2=40 3=7 4=1 5=9\n"
    ∷ "0.1 1.1+2.3 2=40 3=8 5=9\n"
    ∷ "0.1 2.1 2=44 5=9\n"
    ∷ []))
    -- no members name the one version of an undisputed box, and none of a disputed one; nor do members of two versions
    ∷ case (one40 ∷ limits 0 2 (vector 2 1 0) 3 7 [] ∷ [])
    (prints ("sites 3 objects 1 versions 1 sum 525881\n" ∷ "0.1 - 2=40 3=7\n" ∷ []))
    ∷ case (one40 ∷ two44 ∷ limits 0 2 (vector 2 1 1) 3 7 [] ∷ []) (refused 16)
    ∷ case (one40 ∷ two44 ∷ limits 0 2 (vector 2 1 1) 3 7 (member 1 1 ∷ member 2 1 ∷ []) ∷ []) (refused 16)
    ∷ []
