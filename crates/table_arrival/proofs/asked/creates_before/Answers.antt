-- `table_arrival::asked::creates_before` meets its contract. Assumes nothing.
use mathlib.Core.Path.{◌≡◌, sym, ap, ◌∙◌}
use mathlib.Core.Bool.{Bool, true, false, cond}
use mathlib.Core.List.{List}
use Prim.Native.Nat.{ℕ, suc, ◌+◌, ◌≤◌}
use native.Mathlib.Numerals.{add-one}
use native.Mathlib.Omega.{arith}
use borrow.Author.Tests.{eq-eqb, ne_eqb}
use Rattle.edit_record.specs.Layout.{create_kind}
use Rattle.edit_record.specs.Answer1.{is_create}
use Rattle.edit_history.specs.EditsHeld.{record_at, creates}
use Rattle.edit_history.proofs.EditsHeld.{chosen_more}
use Rattle.table_index.specs.IndexForms.{number_at}
use Rattle.table_index.proofs.OneRecordMore.{none-numbered}
use Rattle.table_arrival.proofs.asked.creates_before.Goals as goal
use Rattle.table_arrival.proofs.asked.creates_before.Goals.{then-kind_at-eq-CREATE, else-kind_at-eq-CREATE}

one_more_lem : (rs : List ℕ) (n : ℕ) → number_at rs (suc n) ≡ number_at rs n + cond (is_create (record_at rs n)) 1 0
unfolding creates
one_more_lem rs n = chosen_more is_create rs n

at_most : {x m i : ℕ} (b : Bool) → x ≡ m + cond b 1 0 → m ≤ i → x ≤ i + 1
at_most true e l = omega arith
at_most false e l = omega arith

pub loop-i-init : goal.loop-i-init
loop-i-init c = (omega arith, none-numbered c.args.recs.now)

pub loop-i-preserved : goal.loop-i-preserved
loop-i-preserved c =
    let l = c.loop-i in
    let rs = c.args.recs.now in
    let k = c.kind_at in
    let e : c.if-kind_at-eq-CREATE.count ≡ l.count + cond (is_create (record_at rs l.i)) 1 0
    = elim c.if-kind_at-eq-CREATE.branch [
      | then-kind_at-eq-CREATE w ↦ w.count-is
          ∙ ap (λ (b : Bool). l.count + cond b 1 0)
          (sym (eq-eqb (record_at rs l.i).kind create_kind (sym k.ensures ∙ w.if-kind_at-eq-CREATE.true)))
      | else-kind_at-eq-CREATE w ↦ w.count-is ∙ omega arith
          ∙ ap (λ (b : Bool). l.count + cond b 1 0)
          (sym (ne_eqb (record_at rs l.i).kind create_kind (λ y. w.if-kind_at-eq-CREATE.false (k.ensures ∙ y))))
    ] in (
      at_most (is_create (record_at rs l.i)) e l.invariant.0,
      rw (add-one, e, l.invariant.1) (sym (one_more_lem
          rs l.i)),
    )

pub returns : goal.returns
returns c =
    let k : c.loop-i.i ≡ c.args.p = omega arith in
    rw (← k) c.loop-i.invariant.1
