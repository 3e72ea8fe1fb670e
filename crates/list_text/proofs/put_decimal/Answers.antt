-- `list_text::put_decimal` meets its contract: the library's digits start behind the first n bytes. Assumes nothing.
use mathlib.Core.Path.{◌≡◌, refl, ap, sym, ◌∙◌}
use Prim.Native.Nat.{◌+◌}
use native.Mathlib.Omega.{arith}
use lib.ListN.{length}
use Rattle.list_text.specs.Decimal.{decimal}
use Rattle.list_text.proofs.PrintedDecimal.{printed-decimal, digits-behind}
use Rattle.list_text.proofs.put_decimal.Goals as goal

pub write_digits-requires : goal.write_digits-requires
write_digits-requires c =
    let same = ap length (printed-decimal c.args.m (omega arith)) in
    (omega (arith, same, c.digits.ensures), omega (arith, c.digits.ensures, c.requires))

pub returns : goal.returns
returns c =
    let a = c.args in
    let same = printed-decimal a.m (omega arith) in
    let w = c.write_digits in
    let start : w.result ≡ a.n = omega (arith, w.ensures.start, ap length same, c.digits.ensures) in
    let end : a.n + c.digits.result ≡ a.n + length (decimal a.m) = omega (arith, c.digits.ensures) in (
      rw end
          (digits-behind a.out.now w.new.buf (decimal a.m) a.n (omega (arith, w.auto.buf, c.requires))
          (rw start at w.ensures.before) (rw (start, same, end) at w.ensures.written)),
      end,
    )
