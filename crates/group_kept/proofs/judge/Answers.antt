-- `group_kept::judge` meets its contract. Assumes nothing.
use mathlib.Core.List.{[], ◌∷◌}
use native.Mathlib.Omega.{arith}
use lib.ListN.{length, length-append}
use Rattle.edit_record.specs.RecordBytes.{decode_of}
use Rattle.group_limited.proofs.NamedInTurn.{first-proper}
use Rattle.group_kept.proofs.OneSetMore.{lawful-one-more, names-one-more}
use Rattle.group_kept.proofs.judge.Goals as goal

pub returns-then-k-lt-SETS : goal.returns-then-k-lt-SETS
returns-then-k-lt-SETS c ms size names kept its =
    let s = c in
    let a = s.args in
    let e = decode_of a.rec.now in
    let told = c.told_with-t.ensures.1 in (
      record {
        nameless = λ p law. (told ms size names (kept p) its law).nameless p.named;
        conflicts = λ p law. (told ms size names (kept p) its law).conflicts p.named;
      },
      λ few. (
        names-one-more a.names.now ms e a.k _ size (omega (arith, few, s.requires.1)) names
            c.name_of.ensures,
        λ p.
            let first = first-proper ms (e ∷ []) p in
            let t = told ms size names (kept first) its (lawful-one-more ms e p) in
            c.put_down.ensures ms e size (kept first)
            (record {
              row = t.row;
              context =
                  t.context first.named (p.named (length ms) (omega (arith, length-append ms (e ∷ []))));
              seen = t.seen;
            }),
      ),
    )

pub returns-else-k-lt-SETS : goal.returns-else-k-lt-SETS
returns-else-k-lt-SETS c ms size names kept its =
    let told = c.told_with-t.ensures.1 in (
      record {
        nameless = λ p law. (told ms size names (kept p) its law).nameless p.named;
        conflicts = λ p law. (told ms size names (kept p) its law).conflicts p.named;
      },
      λ few. absurd (omega (arith, few, c.if-k-lt-SETS.false)),
    )
