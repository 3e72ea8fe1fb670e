-- How many bytes a record has: a record's own bytes alone decide, a whole record's fields are among them, and a place
-- has room for them where the members are no more than a list may have. Assumes nothing.
use mathlib.Core.Path.{◌≡◌, sym, ◌∙◌}
use mathlib.Core.Bool.{false}
use mathlib.Core.Logic.{inl, inr}
use mathlib.Core.List.{List, ◌++◌}
use Prim.Native.Nat.{ℕ, ◌+◌, ◌*◌, ◌≤◌, ◌<◌}
use native.Mathlib.Omega.{arith}
use lib.ListN.{length, take}
use lib.Seq.{get_or-take}
use Rattle.math_lists.proofs.Booleans.{decide}
use Rattle.edit_record.specs.Layout.{count_at, members_at, member_length, most_members, place_length, two_bytes}
use Rattle.edit_record.specs.RecordBytes.{four, limits, decode_of, span_of}
use Rattle.edit_record.specs.Answer1.{unfit}
use Rattle.edit_record.proofs.AgreeingBytes.{Agree, agree-append, span-limited, span-plain}
pub use Rattle.edit_record.proofs.AgreeingBytes.{span-least}
use Rattle.edit_record.proofs.NumbersInBytes.{Bytes, two-below}
use Rattle.edit_record.proofs.WellFormed.{few-members}

pub span-most : (s : List ℕ) → (decode_of s).count ≤ most_members → span_of s ≤ place_length
span-most s few = elim (decide (limits s)) [
  | inl on ↦ let k : four s count_at ≤ most_members = (rw on at few) in omega (arith, span-limited s on)
  | inr off ↦ omega (arith, span-plain s off)
]

-- and so of an edit that answer 1 is not given to
pub fit-span : (n : ℕ) (s : List ℕ) → unfit n (decode_of s) ≡ false → span_of s ≤ place_length
fit-span n s fit = span-most s (few-members n s fit)

-- whatever count is stored, it has two bytes
pub span_below : (s : List ℕ) → Bytes s → span_of s < members_at + two_bytes * member_length
span_below s h = elim (decide (limits s)) [
  | inl on ↦ omega (arith, span-limited s on, two-below s h count_at)
  | inr off ↦ omega (arith, span-plain s off)
]

-- bytes that agree with the record at the front of s have a record of the same length there
pub span_agree : (s t : List ℕ) → Agree (span_of s) t s → span_of t ≡ span_of s
span_agree s t h =
    let same : limits t ≡ limits s = rw (h 0 (omega (arith, span-least s))) in
    elim (decide (limits s)) [
      | inl on ↦
          let w = span-limited s on in
          let e0 = h count_at (omega arith) in
          let e1 = h (count_at + 1) (omega arith) in
          span-limited t (same ∙ on) ∙ rw (e0, e1) (sym w)
      | inr off ↦ span-plain t (same ∙ off) ∙ sym (span-plain s off)
    ]

-- whatever stands behind a whole record
pub span-front : (b rest : List ℕ) → length b ≡ span_of b → span_of (b ++ rest) ≡ length b
span-front b rest whole = span_agree b (b ++ rest) (agree-append (span_of b) b rest (omega arith)) ∙ sym whole

-- and where it is taken by itself
pub span-own : (s : List ℕ) → span_of (take (span_of s) s) ≡ span_of s
span-own s = span_agree s (take (span_of s) s) (λ i l. get_or-take (span_of s) s i 0 l)
