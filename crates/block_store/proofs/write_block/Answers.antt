-- `block_store::write_block` meets its contract: the records are copied, then the trailer into the part behind them.
-- Assumes nothing.
use mathlib.Core.Path.{sym, ap, ◌∙◌}
use mathlib.Core.List.{◌++◌}
use Prim.Native.Nat.{ℕ}
use native.Mathlib.Omega.{arith}
use lib.ListN.{length, drop}
use lib.Seq.{take_all}
use Rattle.edit_form.specs.OldForm.{chained}
use Rattle.edit_history.specs.EditsHeld.{bytes_at}
use Rattle.block_trailer.specs.Trailer.{trailer_length}
use Rattle.block_trailer.proofs.TrailerBytes.{trailer-long}
use Rattle.block_store.proofs.WritingOutcomes.{held-most, block-put}
use Rattle.block_store.proofs.write_block.Goals as goal

pub write_records-requires : goal.write_records-requires
write_records-requires c =
    let s = c in
    (s.requires.0, s.requires.1, s.requires.2, omega (arith, s.requires.3, s.requires.4))

pub trailer_bytes-bytes-requires : goal.trailer_bytes-bytes-requires
trailer_bytes-bytes-requires c =
    let s = c in
    let a = s.args in
    omega (
      arith,
      held-most a.records.now a.n s.requires.1 s.requires.2 a.n (omega arith),
      s.requires.0,
      s.requires.3,
    )

pub returns : goal.returns
returns c =
    let y = c in
    let t = y in
    let w = t in
    let s = w in
    let a = s.args in
    let out = a.out.now in
    let front = chained (bytes_at a.records.now) a.n in
    let bytes = t.trailer_bytes-bytes.result in
    let whole = ap length t.trailer_bytes-bytes.ensures ∙ trailer-long a.n a.sites a.end in
    block-put out front bytes a.end trailer_length (sym s.requires.3)
    (w.write_records.ensures ∙ ap (λ (k : ℕ). front ++ drop k out) (sym s.requires.3))
    (y.copy_in.ensures ∙ rw (take_all trailer_length bytes (omega (arith, whole))))
    ∙ rw t.trailer_bytes-bytes.ensures
