-- `edit_record::writing::with_list` meets its contract: the bytes of the count and of the first i members stand.
-- Assumes nothing.
use mathlib.Core.Path.{◌≡◌, sym, ap, ◌∙◌}
use mathlib.Core.List.{List, ◌++◌, append-nil}
use Prim.Native.Nat.{ℕ, ◌+◌, ◌*◌, ◌<◌}
use native.Mathlib.Numerals.{add-one}
use native.Mathlib.Omega.{arith}
use lib.ListN.{length, take}
use lib.Seq.{take_all}
use borrow.Author.Rules.{rules}
use Rattle.edit_record.specs.Layout.{record_length, members_at, most_members, place_length}
use Rattle.edit_record.specs.RecordBytes.{four_bytes}
use Rattle.edit_record.proofs.Encoding.{one-four-more, count-first}
use Rattle.edit_record.proofs.writing.with_list.Goals as goal

pub loop-i-init : goal.loop-i-init
unfolding four_bytes
loop-i-init c = (search rules, sym (append-nil (take members_at c.with_four-out.result)))

pub loop-i-preserved : goal.loop-i-preserved
loop-i-preserved c =
    let l = c.loop-i in
    let a = c.args in
    let first = take members_at c.with_four-out.result in
    let e : members_at + 4 * (l.i + 1) ≡ members_at + 4 * l.i + 4 = omega arith in
    let k : l.i < length a.members = omega arith in (
      search rules,
      rw (e, c.with_four-next.ensures, l.invariant.1, one-four-more first a.members l.i k, add-one),
    )

pub returns : goal.returns
returns c =
    let l = c.loop-i in
    let w = c.with_four-out in
    let a = c.args in
    let k : l.i ≡ most_members = omega arith in
    sym (take_all place_length l.out (omega arith))
    ∙ (rw k at l.invariant.1)
    ∙ ap (λ (v : List ℕ). take members_at w.result ++ four_bytes v) (take_all most_members a.members (omega arith))
    ∙ rw w.ensures (count-first (take record_length a.bytes) a.members a.count)
