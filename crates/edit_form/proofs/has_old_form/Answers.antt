-- `edit_form::has_old_form` meets its contract. The file is here so that an edit of a kind is refused at `returns`.
-- Assumes nothing.
use mathlib.Core.Path.{refl}
use Rattle.edit_form.proofs.has_old_form.Goals as goal

pub returns : goal.returns
returns c = refl
