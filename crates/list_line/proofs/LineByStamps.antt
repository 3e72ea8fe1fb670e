-- The line from the Sets in dispute and the stamps is the version's line: the largest stamp of the members with a key
-- is that of the last one, and it holds its value. Assumes that the Sets have different names, and are not too many.
use mathlib.Core.Path.{◌≡◌, refl, ap₂}
use mathlib.Core.List.{List, [], ◌∷◌, ◌++◌}
use Prim.Native.Nat.{ℕ, zero, suc, ◌-◌, ◌%◌, ◌≤◌}
use native.Mathlib.Omega.{arith}
use borrow.Author.Tests.{ne_eqb}
use lib.ListN.{length}
use Rattle.edit_record.specs.declared.Edit.{Edit}
use Rattle.edit_record.specs.Layout.{keys}
use Rattle.group_step.specs.GroupRows.{most_sets}
use Rattle.list_version.specs.Values.{last_with}
use Rattle.list_version.specs.VersionForms.{values, disputes_in, Stamped, largest_by}
use Rattle.list_line.specs.LineForms.{stamp_text, settings_by, line_by}
use Rattle.list_line.specs.Line.{setting_text, settings_text, version_line}
use Rattle.list_version.proofs.LastMember.{last-all}
use Rattle.list_version.proofs.IdentifiersByDisputes.{identifier-by}
use Rattle.list_version.proofs.IdentifiersGrow.{NamesDiffer}
use Rattle.list_version.proofs.ValuesByStamps.{Lasts, lasts-below}

stamp-text : (k s : ℕ) (l : List Edit) → Lasts k s l → stamp_text k s ≡ setting_text k l
unfolding setting_text
stamp-text k s [] e = rw e
stamp-text k s (e ∷ es) (q, (hm, hs, hv)) =
    let v : (s - 1) % values ≡ e.value = omega arith in
    rw (ne_eqb s 0 (λ z. omega arith), v)

module _ (ms : List Edit) (stamps : List ℕ) (all : Stamped ms stamps) (g : ℕ) where
  settings-by : length stamps ≡ length ms → (k : ℕ) → k ≤ keys → settings_by stamps g k ≡ settings_text ms g k
  unfolding settings_by settings_text
  settings-by long zero h = refl
  settings-by long (suc k) h =
      let last : Lasts k (largest_by stamps g k) (last_with ms g k)
      = rw (long, ← last-all ms g k (length ms) refl)
      (lasts-below ms stamps all g k (omega arith) (length ms) (omega arith)) in
      ap₂ (λ (a b : List ℕ). a ++ b) (settings-by long k (omega arith))
      (stamp-text k (largest_by stamps g k) (last_with ms g k) last)

  pub line-by :
      (c : Edit) → NamesDiffer ms → length ms ≤ most_sets → length stamps ≡ length ms →
      line_by c.site.0 c.seq.0 (disputes_in ms) stamps g ≡ version_line c ms g
  unfolding line_by version_line
  line-by c differ few long = rw (identifier-by ms differ few g, settings-by long keys (omega arith))
