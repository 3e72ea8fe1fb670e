-- The decimal that the library prints is the one of `Decimal`, of a number of at most 64 bits. Assumes nothing.
use mathlib.Core.Path.{◌≡◌, sym, ap, ◌∙◌}
use mathlib.Core.List.{List, [], ◌∷◌, ◌++◌}
use Prim.Native.Nat.{ℕ, ◌+◌, ◌/◌, ◌%◌, ◌^◌, ◌≤◌, ◌<◌}
use native.Mathlib.Omega.{arith}
use lib.ListN.{length, take, drop}
use lib.Seq.{length-take-le, take-append-add, take-append-le, take_all}
use Rattle.std.proofs.lemmas.List.{take-append-drop}
use Rattle.std.specs.Fmt as printed
use Rattle.std.proofs.lemmas.Fmt.{decimal_by_steps}
use Rattle.list_text.specs.Decimal.{decimal}
use Rattle.list_text.proofs.OneDecimal.{decimal-one, decimal-more}

pub printed-decimal : (m : ℕ) → m < 2 ^ 64 → printed.decimal m ≡ decimal m
printed-decimal =
    decimal_by_steps (λ (n : ℕ) (ds : List ℕ). ds ≡ decimal n) (λ n l. sym (decimal-one n l))
    (λ n ds l e. ap (λ (front : List ℕ). front ++ ((48 + n % 10) ∷ [])) e ∙ sym (decimal-more n l))

-- digits that start behind the first n bytes, which stay
pub digits-behind :
    (old new ds : List ℕ) (n : ℕ) → n ≤ length new → take n new ≡ take n old →
    drop n new ≡ ds ++ drop (n + length ds) old → take (n + length ds) new ≡ take n old ++ ds
digits-behind old new ds n fits before written =
    let k = length ds in
    let rest = drop (n + k) old in
    let long : length (take n new) ≡ n = length-take-le n new fits in
    ap (take (n + k)) (sym (take-append-drop n new))
    ∙ ap (λ (m : ℕ). take (m + k) (take n new ++ drop n new)) (sym long)
    ∙ take-append-add (take n new) (drop n new) k
    ∙ rw (before, written, take-append-le k ds rest (omega arith), take_all k ds (omega arith))
