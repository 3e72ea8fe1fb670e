-- Answer 1, in the order of its row in document 01's 'Numbers given back', and then what document 02 adds: Req 08 for
-- the layer edits, Req 06 for the Sets that are limited to one version. n is the number of sites. Assumes nothing.
use Rattle.std.specs.Prelude.{ℕ, ◌+◌, ◌*◌, ◌/◌, ◌%◌, List, Bool, not, ◌&&◌, ◌||◌, get_or, length, eqb, leb, ltb}
use Rattle.math_lists.specs.NumbersBelow.{some}
use Rattle.edit_record.specs.declared.Site.{Site}
use Rattle.edit_record.specs.declared.Seq.{Seq}
use Rattle.edit_record.specs.declared.Edit.{Edit}
use Rattle.edit_record.specs.Layout.{most_sites, keys, create_kind, set_kind, limited_kind, top_kind, bottom_kind}
use Rattle.edit_record.specs.Layout.{most_members, two_bytes}
use Rattle.edit_record.specs.RecordBytes.{decode_of, span_of}

abbrev pub is_create : Edit → Bool
is_create e = eqb e.kind create_kind

-- a Set is a plain one or is limited to one version
abbrev pub is_limited : Edit → Bool
is_limited e = eqb e.kind limited_kind

abbrev pub is_set : Edit → Bool
is_set e = eqb e.kind set_kind || is_limited e

-- a layer edit is to-top or to-bottom
abbrev pub is_top : Edit → Bool
is_top e = eqb e.kind top_kind

abbrev pub is_bottom : Edit → Bool
is_bottom e = eqb e.kind bottom_kind

abbrev pub is_layer : Edit → Bool
is_layer e = is_top e || is_bottom e

-- it names an object as its target
abbrev pub is_aimed : Edit → Bool
is_aimed e = is_set e || is_layer e

-- the count of a site in a vector; a site that has no entry has none
abbrev pub entry_of : List ℕ → Site → Seq
entry_of v s = record { 0 = get_or v s.0 0 }

-- an entry is nonzero at or past n
unfoldable pub nonzero_past : ℕ → List ℕ → Bool
nonzero_past n v = some most_sites (λ i. leb n i && not (eqb (get_or v i 0) 0))

-- the last eight bytes are zero
abbrev pub last_eight_zero : Edit → Bool
last_eight_zero e = eqb e.tsite.0 0 && eqb e.key 0 && eqb e.tseq.0 0 && eqb e.value 0

-- a name is a site and a sequence number as one number, so that names go by site, then by sequence number: the name of
-- an edit, and of a member by its four bytes, which are site, zero and sequence number (2)
abbrev pub name_of : Edit → ℕ
name_of e = e.site.0 * two_bytes + e.seq.0

abbrev pub name_in : ℕ → ℕ
name_in m = m % 256 * two_bytes + m / two_bytes

-- more than 16 members, a zero byte that is none, or members that do not ascend
unfoldable pub list_unfit : Edit → Bool
list_unfit e =
    ltb most_members e.count
    || some most_members (λ i. not (eqb (get_or e.members i 0 / 256 % 256) 0))
    || some most_members (λ i. ltb (i + 1) e.count
    && leb (name_in (get_or e.members (i + 1) 0)) (name_in (get_or e.members i 0)))

unfoldable pub unfit : ℕ → Edit → Bool
unfit n e =
    not (is_create e || is_aimed e)
    || leb n e.site.0
    || nonzero_past n e.vector
    || eqb e.seq.0 0
    || not (eqb e.seq.0 (entry_of e.vector e.site).0)
    || leb keys e.key
    || is_aimed e && eqb e.tseq.0 0
    || is_create e && not (last_eight_zero e)
    || is_layer e && not (eqb e.key 0 && eqb e.value 0)
    || is_limited e && list_unfit e

-- bytes of another number than the record has, or an edit that is unfit
unfoldable pub malformed : ℕ → List ℕ → Bool
malformed n s = not (eqb (length s) (span_of s)) || unfit n (decode_of s)
