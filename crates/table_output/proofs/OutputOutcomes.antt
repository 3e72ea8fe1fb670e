-- The outcomes of writing bytes b at a start: there is no room, or the part that is lent from the start to the end of
-- the output comes back with them in front, and is otherwise as it was. Assumes nothing.
use mathlib.Core.Path.{◌≡◌, ap}
use mathlib.Core.Bool.{true, false}
use mathlib.Core.List.{List, ◌++◌, append-nil}
use Prim.Native.Nat.{ℕ, ◌+◌, ◌-◌}
use native.Mathlib.Omega.{arith}
use lib.ListN.{length, take, drop, length-drop, drop_of_length-le}
use lib.Seq.{drop-drop}
use lib.Dec.{leb}
use borrow.Author.Rules.{part_to_end}
use borrow.Rule.Slice.PartMut.{mid_of, put_mid}
use Rattle.table_output.specs.Output.{writing, written_at}

pub lent_back :
    (out : List ℕ) (start k : ℕ) (b : List ℕ) {r : List ℕ} → r ≡ b ++ drop k (mid_of start (length out - start) out) →
    put_mid start (length out - start) out r ≡ take start out ++ (b ++ drop (start + k) out)
lent_back out start k b e =
    let none = drop_of_length-le (drop start out) {i = length out - start} (simp length-drop (omega arith)) in
    rw (e, part_to_end out start, none, drop-drop k start out)
    (ap (λ (x : List ℕ). take start out ++ x) (append-nil (b ++ drop (start + k) out)))

module _ (out b : List ℕ) (start n : ℕ) (long : length b ≡ n) where
  pub not-put : leb (start + n) (length out) ≡ false → writing 11 0 out ≡ written_at out start b
  unfolding written_at
  not-put h = rw (long, h)

  pub put_whole :
      {r : List ℕ} → leb (start + n) (length out) ≡ true → r ≡ b ++ drop n (mid_of start (length out - start) out) →
      writing 0 n (put_mid start (length out - start) out r) ≡ written_at out start b
  unfolding written_at
  put_whole h e = rw (long, h, lent_back out start n b e)
