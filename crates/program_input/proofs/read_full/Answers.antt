-- What one more read put down stands behind what stood at the front. Assumes nothing.
use Rattle.std.proofs.Common.{ℕ, List, ◌≡◌, ◌+◌, ◌-◌, ◌≤◌, ◌++◌, rules, length, take, sym, ap, ◌∙◌, subst, length-take-le}
use Rattle.std.proofs.KnownBytes.{Consumes-trans}
use Rattle.std.specs.Io.KnownBytes.{Consumes}
use borrow.Rule.Slice.PartMut.{put_mid, post_of}
use lib.Seq.{take-append-le, take-append-add}
use Rattle.program_input.proofs.read_full.Goals as goal

-- the first d + n of xs, with ys put down from d on
front : (d k n : ℕ) (xs ys : List ℕ) → d ≤ length xs → n ≤ length ys → take d xs ++ take n ys ≡ take (d + n) (put_mid d k xs ys)
front d k n xs ys within fits =
    ap (λ l. take d xs ++ l) (sym (take-append-le n ys (post_of d k xs) fits))
    ∙ sym (take-append-add (take d xs) (ys ++ post_of d k xs) n)
    ∙ ap (λ m. take (m + n) (put_mid d k xs ys)) (length-take-le d xs within)

pub loop-done-preserved : goal.loop-done-preserved
loop-done-preserved g c =
    let at = c.loop-done.done in
    let buf = c.loop-done.buf in (
      search rules,
      subst (Consumes _ _)
          (front at (length buf - at) c.in_ok-n.n buf c.read.new.buf c.loop-done.invariant.0 c.in_ok-n.ensures.bound.0)
          (Consumes-trans _ _ _ _ _ c.loop-done.invariant.1 c.in_ok-n.ensures.bytes.0),
    )
