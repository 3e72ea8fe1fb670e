-- `group_sight::listed_among` meets its contract: after i members, those of them are told. Assumes nothing.
use mathlib.Core.Path.{◌≡◌, refl, sym, ap, ap₂, ◌∙◌}
use mathlib.Core.List.{List, map}
use Prim.Native.Nat.{ℕ, ◌<◌}
use native.Mathlib.Numerals.{add-one}
use native.Mathlib.Omega.{arith}
use lib.Bits.{bit_or}
use lib.ListN.{length, get_or, take}
use Rattle.math_lists.specs.NumbersBelow.{mask}
use Rattle.math_lists.specs.SortedLists.{any, elem}
use Rattle.edit_record.specs.RecordBytes.{decode_of}
use Rattle.edit_record.specs.Answer1.{name_in}
use Rattle.group_sight.specs.SightForms.{marks_of_name, is_unseen}
use Rattle.group_sight.proofs.NamesOfSets.{count-there, members-length}
use Rattle.group_sight.proofs.OneMoreTaken.{any-more}
use Rattle.group_sight.proofs.MarksOfSets.{listed_more, none-listed}
use Rattle.group_sight.proofs.listed_among.Goals as goal

pub loop-i-init : goal.loop-i-init
unfolding any
loop-i-init c =
    let a = c.args in
    (none-listed a.names.now a.k, refl)

pub member_of-requires : goal.member_of-requires
member_of-requires c =
    let s = c in (
      s.requires.2,
      omega (arith, c.listed-n.ensures.0, c.loop-i-test.true),
      c.two_at-count.ensures,
    )

pub loop-i-preserved : goal.loop-i-preserved
loop-i-preserved c =
    let s = c in
    let a = s.args in
    let l = c.loop-i in
    let n = c.listed-n in
    let ns = a.names.now in
    let ms = (decode_of a.rec.now).members in
    let fits : l.i < length ms
    = omega (arith, n.ensures.0, c.loop-i-test.true, members-length a.rec.now) in
    let its : c.marks_of_name-m.result ≡ marks_of_name ns a.k (name_in (get_or ms l.i 0)) =
    c.marks_of_name-m.ensures
    ∙ ap (marks_of_name ns a.k) (c.name_in.ensures ∙ ap name_in c.member_of.ensures) in (
      ap₂ bit_or l.invariant.0 its ∙ listed_more ns ms a.k l.i fits,
      rw (l.invariant.1, its)
          (sym (rw (add-one l.i) (any-more name_in 0 ms l.i fits (is_unseen ns a.k a.seen)))),
    )

pub returns : goal.returns
returns c =
    let l = c.loop-i in
    let s = c in
    let a = s.args in
    let n = c.listed-n in
    let ns = a.names.now in
    let e = decode_of a.rec.now in
    let done : l.i ≡ n.result = omega arith in
    let four = c.four_at in
    let count : four.result ≡ e.count = four.ensures ∙ count-there a.rec.now s.requires.2 in
    let all : take l.i e.members ≡ take e.count e.members =
    ap (λ (j : ℕ). take j e.members) done
    ∙ n.ensures.1 e.members (members-length a.rec.now)
    ∙ ap (λ (j : ℕ). take j e.members) count in (
      l.invariant.0 ∙ ap (λ (xs : List ℕ). mask a.k (λ j. elem (get_or ns j 0) (map name_in xs))) all,
      l.invariant.1 ∙ ap (λ (xs : List ℕ). any (is_unseen ns a.k a.seen) (map name_in xs)) all,
    )
