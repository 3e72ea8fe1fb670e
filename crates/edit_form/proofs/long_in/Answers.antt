-- `edit_form::long_in` meets its contract: an old record was made a long one, and a long one stands where it is.
-- Assumes nothing.
use mathlib.Core.Path.{sym, ap, ◌∙◌}
use Prim.Native.Nat.{ℕ, ◌≤◌}
use lib.ListN.{length, take}
use lib.Seq.{length-take-le}
use borrow.Author.Tests.{ne_eqb}
use Rattle.edit_form.specs.OldForm.{old_form}
use Rattle.edit_form.proofs.OldRecords.{long-own}
use Rattle.edit_form.proofs.long_in.Goals as goal

pub returns-then-form-eq-OLD : goal.returns-then-form-eq-OLD
returns-then-form-eq-OLD c = c.requires.2 c.if-form-eq-OLD.true

pub slice_bounds-result-end : goal.slice_bounds-result-end
slice_bounds-result-end c =
    let s = c in
    let few : s.args.used ≤ length s.args.rest.now = rw s.requires.1 s.requires.0 in
    sym (length-take-le s.args.used s.args.rest.now few)

pub returns : goal.returns
returns c =
    let s = c in
    let rest = s.args.rest.now in
    ap (λ (k : ℕ). take k rest) s.requires.1
    ∙ sym (long-own s.args.form rest (ne_eqb s.args.form old_form c.if-form-eq-OLD.false))
