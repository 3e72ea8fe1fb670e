-- A Set whose author has seen all that is held is in conflict with none of it. Assumes that the records pass.
use mathlib.Core.Path.{◌≡◌}
use mathlib.Core.Bool.{true}
use mathlib.Core.List.{List}
use Prim.Native.Nat.{ℕ}
use Rattle.edit_record.specs.declared.Edit.{Edit}
use Rattle.edit_walk.specs.WalkForms.{sees_all}
use Rattle.edit_next.proofs.AllSeen.{all_seen}
use Rattle.table_drawing.specs.declared.Counters.{Counters}
use Rattle.table_index.specs.IndexForms.{Holds, Arriving, marks_on}
use Rattle.table_index.proofs.ChainsOfSets.{marks-apart}
use Rattle.table_index.proofs.ArrivingSet.{in-turn, seen_apart}

pub none-in-conflict :
    (c : Counters) (rs : List ℕ) → Holds c rs → (q : ℕ) (e : Edit) → Arriving c rs q e → sees_all c.held e ≡ true →
    marks_on rs c.records q e ≡ 0
none-in-conflict c rs h q e arriving sees = marks-apart rs q e c.records (λ p l.
    seen_apart c rs h q e arriving p l
    (all_seen c.held e sees c.sites h.few-sites rs c.records h.pass h.held
    (in-turn c rs h q e arriving) p l))
