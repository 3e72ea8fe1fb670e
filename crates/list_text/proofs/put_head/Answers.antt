-- `list_text::put_head` meets its contract: four words with a number each, and a newline. Assumes nothing.
use mathlib.Core.Path.{◌∙◌}
use mathlib.Core.List.{[], ◌∷◌, ◌++◌}
use native.Mathlib.Omega.{arith}
use Rattle.list_text.specs.Decimal.{decimal}
use Rattle.list_text.specs.Pieces.{sites_word, objects_word, versions_word, sum_word, newline}
use Rattle.list_text.specs.HeadAndRefusal.{head_line}
use Rattle.list_text.proofs.PiecesBehind.{five, laid}
use Rattle.list_text.proofs.put_head.Goals as goal

pub returns : goal.returns
unfolding head_line
returns c =
    let fourth = c in
    let third = fourth in
    let second = third in
    let first = second in
    let a = first.args in
    let sites = decimal a.sites in
    let objects = decimal a.objects in
    let versions = decimal a.versions in
    let sum = decimal a.sum in
    let end = newline ∷ [] in (
      five [] (sites_word ++ sites) (objects_word ++ objects) (versions_word ++ versions) (sum_word ++ sum) end
          first.put_labelled-a.ensures.0 second.put_labelled-b.ensures.0 third.put_labelled-c.ensures.0
          fourth.put_labelled-d.ensures.0 c.put_byte.ensures.0
          ∙ laid sites_word sites objects_word objects versions_word versions sum_word sum end,
      omega arith,
    )
