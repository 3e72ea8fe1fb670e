-- `group_named::chain::link_record` meets its contract. Assumes nothing.
use mathlib.Core.Path.{◌≡◌, ap, ◌∙◌}
use mathlib.Core.Bool.{Bool, ◌&&◌, ◌||◌}
use mathlib.Core.List.{List}
use Prim.Native.Nat.{ℕ}
use native.Mathlib.Omega.{arith}
use lib.Dec.{eqb, ltb}
use borrow.Author.Tests.{ltb-true}
use Rattle.math_lists.proofs.Booleans.{both}
use Rattle.edit_record.specs.Layout.{set_kind, limited_kind}
use Rattle.edit_record.specs.Answer1.{is_set}
use Rattle.edit_history.specs.EditsHeld.{record_at}
use Rattle.group_named.specs.ChainForms.{put, aim_of, linked_with}
use Rattle.group_named.proofs.chain.link_record.Goals as goal

-- what was tested is what `linked_with` asks
asked :
    (rs ps : List ℕ) (q kind at : ℕ) (b : Bool) → kind ≡ (record_at rs q).kind → at ≡ aim_of rs ps q →
    b ≡ (eqb kind set_kind || eqb kind limited_kind) →
    (is_set (record_at rs q) && ltb (aim_of rs ps q) q) ≡ (b && ltb at q)
asked rs ps q kind at b e f h = rw (h, e, f)

pub link-requires : goal.link-requires
link-requires c =
    let s = c in
    let (_, less) = both c.is_set_kind.result _ c.if-is_set_kind-p.true in
    (omega (arith, ltb-true _ s.args.q less, s.requires.0), s.requires.0, s.requires.1)

pub returns-then-is_set_kind-p : goal.returns-then-is_set_kind-p
unfolding linked_with
returns-then-is_set_kind-p c =
    let a = c.args in
    let t = c.target_place-p in
    let yes = asked a.recs.now a.places.now a.q _ _ _ c.kind_at-kind.ensures t.ensures
    c.is_set_kind.ensures ∙ c.if-is_set_kind-p.true in
    rw yes (c.link.ensures ∙ ap (λ (p : ℕ). put a.chain.now p a.q) t.ensures)

pub returns-else-is_set_kind-p : goal.returns-else-is_set_kind-p
unfolding linked_with
returns-else-is_set_kind-p c =
    let a = c.args in
    let no = asked a.recs.now a.places.now a.q _ _ _ c.kind_at-kind.ensures
    c.target_place-p.ensures
    c.is_set_kind.ensures ∙ c.if-is_set_kind-p.false in
    rw no
