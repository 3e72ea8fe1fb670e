-- The separate check: 0 exactly when the tables are what their records give from an empty drawing, otherwise 8.
-- Assumes nothing.
use Rattle.std.specs.Prelude.{ℕ, Bool, ◌&&◌, cond, get_or, eqb}
use Rattle.math_lists.specs.NumbersBelow.{all, same_list}
use Rattle.edit_record.specs.Layout.{most_sites}
use Rattle.edit_history.specs.EditsHeld.{bytes_at}
use Rattle.table_drawing.specs.declared.Counters.{Counters}
use Rattle.table_drawing.specs.Tables.{Tables, lengths_right}
use Rattle.table_soundness.specs.Sound.{within_limits}
use Rattle.table_given.specs.Replay.{replay_of}

abbrev pub same_counters : Counters → Counters → Bool
same_counters c d =
    eqb c.sites d.sites
    && eqb c.records d.records
    && eqb c.objects d.objects
    && all most_sites (λ s. eqb (get_or c.held s 0) (get_or d.held s 0))
    && eqb c.sum d.sum

abbrev pub same_tables : Tables → Tables → Bool
same_tables t u =
    same_counters t.counters u.counters
    && same_list t.records u.records
    && same_list t.objects u.objects
    && same_list t.groups u.groups

-- no record is refused, and they give these very tables
unfoldable pub gives_back : Tables → Bool
gives_back t =
    let r = replay_of t.counters.sites (bytes_at t.records) t.counters.records in
    eqb r.answer 0 && same_tables t r.after

unfoldable pub is_true : Tables → Bool
is_true t = lengths_right t.records t.objects t.groups && within_limits t.counters && gives_back t

unfoldable pub check_of : Tables → ℕ
check_of t = cond (is_true t) 0 8
