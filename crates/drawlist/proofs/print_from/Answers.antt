-- What is printed is printed of what was read, the first bytes of what could be read. Assumes nothing.
use Rattle.std.proofs.Common.{◌≡◌, ◌+◌, ℕ, List, length, take, OnOk, IfSome, Ok, Err, Some, None, subst, sym, ◌∙◌}
use Rattle.std.specs.Prelude.{Option, Result}
use Rattle.std.specs.Io.KnownBytes.{Appends}
use Rattle.block_trailer.specs.Trailer.{file_limit}
use Rattle.list_file.specs.PrintedFile.{printed_of}
use Rattle.drawlist.proofs.print_from.Goals as goal

-- of known bytes, of which the first m were read
of_known : {T E : Type 0} (r : Result T E) (known : Option (List ℕ)) (A : List ℕ → Type 0) (read : List ℕ) (m : ℕ)
    → OnOk r (A read) → IfSome known (λ xs. read ≡ take m xs) → OnOk r (IfSome known (λ xs. A (take m xs)))
of_known (Ok t) None A read m h e = tt
of_known (Ok t) (Some xs) A read m h e = subst A e h
of_known (Err t) known A read m h e = tt

pub returns : goal.returns
returns g c =
    let n = c.in_ok-n.n in
    let file = c.read_full.new.buf in
    let as_long : length file ≡ file_limit + 1 = c.read_full.auto.buf ∙ sym c.buffer-file.ensures in
    of_known c.print.result (g.R.Read.remaining c.args.from.now)
    (λ bs. Appends (g.W.Write.contents c.args.to.now) (g.W.Write.contents c.print.new.to) (printed_of bs))
    (take n file) (file_limit + 1) c.print.ensures
    (subst (λ m. IfSome (g.R.Read.remaining c.args.from.now) (λ xs. take n file ≡ take m xs)) as_long c.in_ok-n.ensures.bytes)
