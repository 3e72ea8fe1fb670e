-- All lines in one pass are the lines by their numbers, each printed behind those before it. Assumes nothing.
use mathlib.Core.Path.{◌≡◌, sym, ap, ◌∙◌}
use mathlib.Core.Bool.{true}
use mathlib.Core.List.{List, [], ◌++◌}
use Prim.Native.Nat.{ℕ, zero, suc, ◌+◌, ◌≤◌, ◌<◌}
use native.Mathlib.Nat.{add-zero}
use native.Mathlib.Omega.{arith}
use borrow.Author.Tests.{le-leb, lt-ltb}
use lib.ListN.{length, get_or, take, drop, length-append, take-append-drop}
use lib.Seq.{take-suc, take_all}
use Rattle.table_drawing.specs.Tables.{Tables}
use Rattle.table_soundness.specs.Sound.{sound}
use Rattle.table_output.specs.Output.{Writing, writing, placed, written_at}
use Rattle.list_lines.specs.List.{lines_of}
use Rattle.list_print.specs.Printing.{joined, list_of, listing_of}
use Rattle.list_lines.specs.LineByNumber.{line_of}
use Rattle.list_print.proofs.BytesBehind.{placed-more, placed-length, joined-append, joined_snoc}

-- line n printed behind what was printed from the start on
abbrev pub printed_behind : Tables → ℕ → ℕ → Writing → Writing
printed_behind t n start w =
    let v = line_of t n w.after (start + w.bytes) in
    writing v.answer (w.bytes + v.bytes) v.after

-- the first n lines, each by its number
pub printed_one_by_one : Tables → ℕ → List ℕ → ℕ → Writing
printed_one_by_one t zero out start = writing 0 0 out
printed_one_by_one t (suc n) out start = printed_behind t n start (printed_one_by_one t n out start)

module _ (t : Tables) (ok : sound t ≡ true) (out : List ℕ) (start : ℕ)
    (room : start + length (list_of t) ≤ length out) where
  abbrev lines : List (List ℕ)
  lines = lines_of t

  -- the bytes of the first n lines
  abbrev front : ℕ → List ℕ
  front n = joined (take n lines)

  front_fits : (n : ℕ) → start + length (front n) ≤ length out
  unfolding list_of
  front_fits n =
      let whole : length (list_of t) ≡ length (front n) + length (joined (drop n lines)) =
      ap (λ (l : List (List ℕ)). length (joined l)) (sym (take-append-drop n lines))
      ∙ ap length (joined-append (take n lines) (drop n lines)) ∙ length-append (front n) (joined (drop n lines)) in
      omega (arith, whole)

  one_more_lem : (n : ℕ) → n < length lines → front (suc n) ≡ front n ++ get_or lines n []
  one_more_lem n l = rw (take-suc lines n [] l) (joined_snoc (take n lines) (get_or lines n []))

  line-put :
      (n : ℕ) → n < length lines → (o : List ℕ) (s : ℕ) → s + length (get_or lines n []) ≤ length o →
      line_of t n o s ≡ writing 0 (length (get_or lines n [])) (placed o s (get_or lines n []))
  unfolding line_of written_at
  line-put n l o s fits =
      rw (ok, lt-ltb n (length lines) l, le-leb (s + length (get_or lines n [])) (length o) fits)

  line-behind :
      (n : ℕ) → n < length lines →
      printed_behind t n start (writing 0 (length (front n)) (placed out start (front n)))
      ≡ writing 0 (length (front (suc n))) (placed out start (front (suc n)))
  line-behind n l =
      let line = get_or lines n [] in
      let longer : length (front (suc n)) ≡ length (front n) + length line =
      ap length (one_more_lem n l) ∙ length-append (front n) line in
      let fits : start + length (front n) + length line ≤ length (placed out start (front n)) =
      omega (arith, longer, front_fits (suc n), placed-length out start (front n) (front_fits n)) in
      ap (λ (v : Writing). writing v.answer (length (front n) + v.bytes) v.after)
      (line-put n l (placed out start (front n)) (start + length (front n)) fits)
      ∙ rw (placed-more out start (front n) line (front_fits n), ← longer, ← one_more_lem n l)

  one_by_one :
      (n : ℕ) → n ≤ length lines →
      printed_one_by_one t n out start ≡ writing 0 (length (front n)) (placed out start (front n))
  unfolding printed_one_by_one joined
  one_by_one zero h = ap (writing 0 0) (sym (rw (add-zero start) (take-append-drop start out)))
  one_by_one (suc n) h = ap (printed_behind t n start) (one_by_one n (omega arith)) ∙ line-behind n (omega arith)

  -- where they have room, all lines are printed as each by its number behind those before it
  pub one-pass : printed_one_by_one t (length lines) out start ≡ listing_of t out start
  unfolding list_of listing_of written_at
  one-pass =
      let whole : front (length lines) ≡ list_of t = ap joined (take_all (length lines) lines (omega arith)) in
      one_by_one (length lines) (omega arith)
      ∙ rw (whole, ok, le-leb (start + length (list_of t)) (length out) room)
