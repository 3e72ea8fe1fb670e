-- `list_text::put_refusal` meets its contract: a word with a number, and a newline. Assumes nothing.
use mathlib.Core.Path.{◌∙◌}
use mathlib.Core.List.{[], ◌∷◌, ◌++◌, append_assoc}
use native.Mathlib.Omega.{arith}
use Rattle.list_text.specs.Decimal.{decimal}
use Rattle.list_text.specs.Pieces.{refused_word, newline}
use Rattle.list_text.specs.HeadAndRefusal.{refusal_line}
use Rattle.list_text.proofs.PiecesBehind.{two}
use Rattle.list_text.proofs.put_refusal.Goals as goal

pub returns : goal.returns
unfolding refusal_line
returns c =
    let first = c in
    let number = decimal first.args.m in
    let end = newline ∷ [] in (
      two [] (refused_word ++ number) end first.put_labelled-k.ensures.0 c.put_byte.ensures.0
          ∙ append_assoc refused_word number end,
      omega arith,
    )
