-- Bytes put behind bytes in an output, and lines joined. Assumes nothing.
use mathlib.Core.Path.{◌≡◌, refl, sym, ap, ◌∙◌}
use mathlib.Core.Bool.{false}
use mathlib.Core.List.{List, [], ◌∷◌, ◌++◌, map, map-append, append-nil, append_assoc}
use Prim.Native.Nat.{ℕ, ◌+◌, ◌-◌, ◌*◌, ◌≤◌, ◌<◌}
use native.Mathlib.Nat.{add-zero, suc-mul}
use native.Mathlib.Numerals.{add-one}
use native.Mathlib.Omega.{arith}
use lib.Dec.{leb}
use lib.ListN.{length, get_or, take, drop, length-append, length-drop, take-append-drop}
use lib.Seq.{length-take-le, take_at, drop_at, drop-drop, take-suc}
use borrow.Author.Tests.{leb-false}
use borrow.Rule.Slice.PartMut.{mid_of, put_mid}
use Rattle.table_output.specs.Output.{placed}
use Rattle.table_output.proofs.OutputOutcomes.{lent_back}
use Rattle.list_print.specs.Printing.{joined}
use Rattle.list_print.specs.PrintForms.{Behind}

-- ---- an output

module _ (out : List ℕ) (n : ℕ) where
  pub placed-length : (b : List ℕ) → n + length b ≤ length out → length (placed out n b) ≡ length out
  placed-length b fits =
      let rest = drop (n + length b) out in
      length-append (take n out) (b ++ rest)
      ∙ omega
      (arith, length-take-le n out (omega arith), length-append b rest, length-drop (n + length b) out)

  pub placed-more :
      (a b : List ℕ) → n + length a ≤ length out → placed (placed out n a) (n + length a) b ≡ placed out n (a ++ b)
  placed-more a b fits =
      let m = n + length a in
      let front = take n out ++ a in
      let long : length front ≡ m = length-append (take n out) a ∙ rw (length-take-le n out (omega arith)) in
      let split : placed out n a ≡ front ++ drop m out = sym (append_assoc (take n out) a (drop m out)) in
      let same : m + length b ≡ n + length (a ++ b) = omega (arith, length-append a b) in
      let behind : drop (m + length b) (front ++ drop m out) ≡ drop (n + length (a ++ b)) out =
      sym (drop-drop (length b) m (front ++ drop m out))
      ∙ ap (λ (x : List ℕ). drop (length b) x) (drop_at front (drop m out) m long)
      ∙ drop-drop (length b) m out
      ∙ ap (λ (k : ℕ). drop k out) same in
      rw (split, take_at front (drop m out) m long, behind)
      (append_assoc (take n out) a (b ++ drop (n + length (a ++ b)) out)
      ∙ ap (λ (x : List ℕ). take n out ++ x) (sym (append_assoc a b (drop (n + length (a ++ b)) out))))

  none-behind : Behind out n [] 0 out n
  none-behind = record {
    put = λ _. sym (rw (add-zero n) (take-append-drop n out));
    end = omega arith;
    few = omega arith;
  }

  pub more-behind :
      {a b o p : List ℕ} {k l w r : ℕ} → Behind out n a k o w → Behind o w b l p r →
      Behind out n (a ++ b) (k + l) p r
  more-behind {a} {b} {o} {p} {w = w} f g =
      let put : n + length (a ++ b) ≤ length out → p ≡ placed out n (a ++ b) =
      λ room.
      let fits : n + length a ≤ length out = omega (arith, room, length-append a b) in
      let there : w + length b ≤ length o =
      rw (f.put fits) (omega (arith, room, f.end, length-append a b, placed-length a fits)) in
      g.put there ∙ rw (f.put fits, f.end) (placed-more a b fits) in
      record {
        put = put;
        end = omega (arith, f.end, g.end, length-append a b);
        few = omega (arith, f.few, g.few, length-append a b);
      }

  pub fewer-behind : {b o : List ℕ} {k l r : ℕ} → k ≤ l → Behind out n b k o r → Behind out n b l o r
  fewer-behind h f = record { put = f.put; end = f.end; few = omega (arith, f.few) }

  module _ (src : List ℕ) (k : ℕ) (there : k ≤ length src) where
    -- what is lent from n on comes back with the first k bytes of src in front
    pub copied_behind :
        {r : List ℕ} → r ≡ take k src ++ drop k (mid_of n (length out - n) out) →
        Behind out n (take k src) k (put_mid n (length out - n) out r) (n + k)
    copied_behind e =
        let long = length-take-le k src there in
        record {
          put = λ _. lent_back out n k (take k src) e ∙ rw long;
          end = rw long;
          few = omega (arith, long);
        }

    -- nothing is put where they have no room
    pub left_out_lem : leb (n + k) (length out) ≡ false → Behind out n (take k src) k out (n + k)
    left_out_lem full =
        let long = length-take-le k src there in
        record {
          put = λ room. absurd (omega (arith, leb-false, room, long));
          end = rw long;
          few = omega (arith, long);
        }

-- ---- joined lines

pub joined_snoc : (ls : List (List ℕ)) (l : List ℕ) → joined (ls ++ (l ∷ [])) ≡ joined ls ++ l
unfolding joined
joined_snoc [] l = append-nil l
joined_snoc (k ∷ ls) l = rw (joined_snoc ls l) (sym (append_assoc k (joined ls) l))

pub joined-append : (ls ms : List (List ℕ)) → joined (ls ++ ms) ≡ joined ls ++ joined ms
unfolding joined
joined-append [] ms = refl
joined-append (k ∷ ls) ms = rw (joined-append ls ms) (sym (append_assoc k (joined ls) (joined ms)))

-- ---- a piece for each number, put behind those before it

module _ (f : ℕ → List ℕ) (m : ℕ) (out xs : List ℕ) (n : ℕ) where
  abbrev pieces : ℕ → List ℕ
  pieces i = joined (map f (take i xs))

  pub no-piece : Behind out n (pieces 0) 0 out n
  unfolding joined
  no-piece = none-behind out n

  pub piece-behind :
      (i : ℕ) {o p : List ℕ} {w r : ℕ} → i < length xs →
      Behind out n (pieces i) (i * m) o w → Behind o w (f (get_or xs i 0)) m p r →
      Behind out n (pieces (i + 1)) ((i + 1) * m) p r
  piece-behind i low a b =
      let more : pieces (i + 1) ≡ pieces i ++ f (get_or xs i 0) =
      rw (add-one, take-suc xs i 0 low, map-append f (take i xs) (get_or xs i 0 ∷ []))
      (joined_snoc (map f (take i xs)) (f (get_or xs i 0))) in
      let room : (i + 1) * m ≡ i * m + m = rw add-one (suc-mul i m) in
      rw (more, room) (more-behind out n a b)
