-- `group_kept::sight_with` meets its contract: a Set that is not limited lists none. Assumes nothing.
use mathlib.Core.Path.{◌≡◌, refl, sym, ap, ◌∙◌}
use mathlib.Core.Bool.{true, false}
use Prim.Native.Nat.{ℕ, ◌<◌}
use native.Mathlib.Omega.{arith}
use lib.Dec.{eqb}
use lib.ListN.{get_or}
use borrow.Author.Tests.{eq-eqb, ne_eqb}
use Rattle.math_lists.proofs.Booleans.{clash}
use Rattle.edit_record.specs.Layout.{limited_kind}
use Rattle.edit_record.specs.RecordBytes.{decode_of, no_edit}
use Rattle.edit_record.specs.Answer1.{is_limited, name_of}
use Rattle.edit_causal.specs.Conflict.{listed_by}
use Rattle.group_sight.proofs.MarksOfSets.{plain-names-none, marks-named, any-strange}
use Rattle.group_kept.proofs.sight_with.Goals as goal

pub returns-then-byte_at-ne-LIMITED : goal.returns-then-byte_at-ne-LIMITED
returns-then-byte_at-ne-LIMITED c =
    let a = c.args in
    let e = decode_of a.rec.now in
    let none : is_limited e ≡ false =
    ap (λ (x : ℕ). eqb x limited_kind) (sym c.byte_at.ensures) ∙ ne_eqb _ limited_kind c.if-byte_at-ne-LIMITED.true in (
      refl,
      λ ms size names its tell law. record {
        plain = its;
        seen =
            c.seen_of-seen.ensures ms e size names
            c.name_of-own.ensures
            (sym c.vector_in-v.ensures) tell law;
        named = plain-names-none ms a.k size e none;
        limited = sym none;
        strange = λ y. clash y none;
      },
    )

pub listed_among-l-requires : goal.listed_among-l-requires
listed_among-l-requires c =
    let s = c in
    let yes = ap (λ (x : ℕ). eqb x limited_kind) (sym c.byte_at.ensures) ∙ eq-eqb _ limited_kind
    c.if-byte_at-ne-LIMITED.false in
    (s.requires.0, s.requires.1, yes)

pub returns : goal.returns
returns c =
    let a = c.args in
    let e = decode_of a.rec.now in
    let ns = a.names.now in
    let yes : is_limited e ≡ true =
    ap (λ (x : ℕ). eqb x limited_kind) (sym c.byte_at.ensures) ∙ eq-eqb _ limited_kind
    c.if-byte_at-ne-LIMITED.false in
    let l = c.listed_among-l.ensures in (
      refl,
      λ ms size names its tell law.
          let seen = c.seen_of-seen.ensures ms e size names
          c.name_of-own.ensures
          (sym c.vector_in-v.ensures) tell law in
          let named : (i : ℕ) → i < a.k → get_or ns i 0 ≡ name_of (get_or ms i no_edit)
          = λ i m. (names i (omega (arith, size))).whole in
          record {
            plain = its;
            seen = seen;
            named = l.0 ∙ marks-named ms a.k size e ns named yes;
            limited = sym yes;
            strange = λ y. l.1 ∙ any-strange ms a.k size e ns named _ seen (listed_by e);
          },
    )
