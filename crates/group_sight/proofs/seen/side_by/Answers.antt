-- `group_sight::seen::side_by` meets its contract. Assumes nothing.
use mathlib.Core.Path.{sym, ap, ap₂, ◌∙◌}
use mathlib.Core.Bool.{◌||◌}
use Prim.Native.Nat.{ℕ}
use lib.Dec.{eqb}
use Rattle.edit_record.specs.Layout.{set_kind, limited_kind}
use Rattle.edit_causal.specs.ShownValue.{shown_value}
use Rattle.group_sight.proofs.seen.side_by.Goals as goal

pub returns : goal.returns
returns c e name ek es eky eq ev = record {
  set = c.is_set_kind.ensures ∙ ap (λ (k : ℕ). eqb k set_kind || eqb k limited_kind) (sym ek);
  name = name;
  site = c.aim_of.ensures.0 ∙ sym es;
  key = c.aim_of.ensures.1 ∙ sym eky;
  seq = c.aim_of.ensures.2 ∙ sym eq;
  shown = c.shown.ensures ∙ ap₂ shown_value (sym eky) (sym ev);
}
