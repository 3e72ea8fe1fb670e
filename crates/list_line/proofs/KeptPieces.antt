-- Pieces that are kept, each in its place: one formed anew, and those in the other places, which stay. Assumes nothing.
use mathlib.Core.Path.{◌≡◌, sym, ap, ◌∙◌}
use mathlib.Core.Bool.{true, not, ◌&&◌}
use mathlib.Core.List.{List, ◌∷◌, ◌++◌}
use Prim.Native.Nat.{ℕ, ◌+◌, ◌-◌, ◌*◌, ◌≤◌, ◌<◌}
use native.Mathlib.Omega.{arith}
use native.Mathlib.Decide.{dec_lt, ℕ_discrete}
use lib.Dec.{eqb}
use lib.ListN.{length, get_or, take, drop, set, length-set, length-drop}
use lib.ListN.{get_or-replicate, length-replicate, replicate}
use lib.Seq.{take-add, take-take, take-append-le, take-append-add, drop_at, drop-drop, length-take-le}
use lib.Seq.{get_or-set_same, get_or-set_other, get_or-take}
use borrow.Author.Tests.{eq-eqb, eqb-true}
use borrow.Rule.Slice.PartMut.{mid_of, put_mid, post_of, mid_len, same_len_mid, take_put, drop_put}
use Rattle.math_lists.proofs.Booleans.{both, clash}
use Rattle.edit_record.specs.Layout.{keys}
use Rattle.group_step.specs.GroupRows.{most_sets}
use Rattle.table_output.proofs.OutputOutcomes.{lent_back}
use Rattle.list_text.specs.Pieces.{plus, dotted_length, equated_length}
use Rattle.list_version.specs.VersionForms.{name_by}
use Rattle.list_line.specs.Line.{name_text}
use Rattle.list_line.specs.LineForms.{stamp_text, piece_length, pieces, piece_at, Kept, NameIn, NamesKept}
use Rattle.list_line.specs.LineForms.{NameMore, SameNames}

-- a part goes by what stands up to its end
part-of-front : (n m : ℕ) (l : List ℕ) → n ≤ length l → take m (drop n l) ≡ drop n (take (n + m) l)
part-of-front n m l h = sym (rw (take-add n m l) (drop_at (take n l) (take m (drop n l)) n (length-take-le n l h)))

module _ (texts part : List ℕ) (j : ℕ) (low : j < pieces) (long : length texts ≡ pieces * piece_length)
    (whole : length part ≡ piece_length) where
  abbrev start : ℕ
  start = j * piece_length

  abbrev end : ℕ
  end = start + piece_length

  abbrev pub renewed : List ℕ
  renewed = put_mid start (end - start) texts part

  pub renewed-long : length renewed ≡ pieces * piece_length
  renewed-long =
      same_len_mid start (end - start) texts part
      (whole ∙ sym (mid_len start end texts (omega (arith, long)) ∙ omega arith))
      ∙ long

  own-part : (n : ℕ) → n ≤ piece_length → take n (drop start renewed) ≡ take n part
  own-part n few =
      let before : length (take start texts) ≡ start = length-take-le start texts (omega (arith, long)) in
      rw (drop_at (take start texts) (part ++ post_of start (end - start) texts) start before)
      (take-append-le n part (post_of start (end - start) texts) (omega arith))

  other-part :
      (i n : ℕ) → i < pieces → (i ≡ j → ⊥) → n ≤ piece_length →
      take n (drop (i * piece_length) renewed) ≡ take n (drop (i * piece_length) texts)
  other-part i n l d few = elim (dec_lt i j) [
    | yes b ↦
        let at = i * piece_length in
        let front : take (at + n) renewed ≡ take (at + n) texts =
        sym (take-take (at + n) start renewed (omega arith))
        ∙ ap (take (at + n)) (take_put start (end - start) texts part (omega (arith, long)))
        ∙ take-take (at + n) start texts (omega arith) in
        part-of-front at n renewed (omega (arith, renewed-long)) ∙ rw front
        (sym (part-of-front at n texts (omega (arith, long))))
    | no b ↦
        let at = i * piece_length in
        let rest : at ≡ end + (at - end) = omega arith in
        ap (take n) (
        ap (λ (k : ℕ). drop k renewed) rest
        ∙ sym (drop-drop (at - end) end renewed)
        ∙ ap (drop (at - end))
        (drop_put start end texts part (omega arith) (omega (arith, long)) (whole ∙ omega arith))
        ∙ drop-drop (at - end) end texts
        ∙ ap (λ (k : ℕ). drop k texts) (sym rest)
        )
  ]

  module _ (lens : List ℕ) (n : ℕ) (many : length lens ≡ pieces) where
    own-piece : n ≤ piece_length → piece_at renewed (set lens j n) j ≡ take n part
    own-piece few = rw (get_or-set_same lens j n 0 (omega (arith, many))) (own-part n few)

    other-piece :
        (i : ℕ) → i < pieces → (i ≡ j → ⊥) → get_or lens i 0 ≤ piece_length →
        piece_at renewed (set lens j n) i ≡ piece_at texts lens i
    other-piece i l d few = rw (get_or-set_other lens j i n 0 d) (other-part i (get_or lens i 0) l d few)

    -- the name of another place
    other_name :
        (i x : ℕ) → i < most_sets → (keys + i ≡ j → ⊥) → NameIn texts lens i x → NameIn renewed (set lens j n) i x
    other_name i x l d e = record {
      few = rw (get_or-set_other lens j (keys + i) n 0 d) e.few;
      name = other-piece (keys + i) (omega arith) d (omega (arith, e.few)) ∙ e.name;
    }

    -- a setting formed anew
    module _ (told : List ℕ) (v : ℕ) (k : Kept texts lens told) (key : j < keys) (made : take n part ≡ stamp_text j v)
        (few : n ≤ 1 + equated_length) where
      pub renewed-piece : piece_at renewed (set lens j n) j ≡ stamp_text j v
      renewed-piece = own-piece (omega arith) ∙ made

      pub renewed-kept : Kept renewed (set lens j n) (set told j v)
      renewed-kept = record {
        texts-long = renewed-long;
        lens-long = length-set lens j n ∙ many;
        told-long = length-set told j v ∙ k.told-long;
        few = λ i l. elim (ℕ_discrete i j) [
          | yes q ↦ rw (q, get_or-set_same lens j n 0 (omega (arith, many))) few
          | no d ↦ rw (get_or-set_other lens j i n 0 d) (k.few i l)
        ];
        piece = λ i l some. elim (ℕ_discrete i j) [
          | yes q ↦ rw (q, get_or-set_same told j v 0 (omega (arith, k.told-long))) renewed-piece
          | no d ↦
              rw (get_or-set_other told j i v 0 d)
              (other-piece i (omega arith) d (omega (arith, k.few i l))
              ∙ k.piece i l (rw (get_or-set_other lens j i n 0 d) at some))
        ];
      }

      pub names-stay : SameNames texts lens renewed (set lens j n)
      names-stay i x l e = other_name i x l (λ q. omega arith) e

    -- a name put in its place
    pub name-more :
        (i x : ℕ) → j ≡ keys + i → take n part ≡ plus ∷ name_text (name_by x) → n ≤ 1 + dotted_length →
        NameMore texts lens i x renewed (set lens j n)
    name-more i x here made few = record {
      own = record {
        few = rw (← here, get_or-set_same lens j n 0 (omega (arith, many))) few;
        name = rw (← here) (own-piece (omega arith) ∙ made);
      };
      others = λ i₁ y l d e. other_name i₁ y l (λ q. d (omega arith)) e;
      kept = λ told k. record {
        texts-long = renewed-long;
        lens-long = length-set lens j n ∙ many;
        told-long = k.told-long;
        few = λ i₁ l. rw (get_or-set_other lens j i₁ n 0 (λ q. omega arith)) (k.few i₁ l);
        piece = λ i₁ l some.
            other-piece i₁ (omega arith) (λ q. omega arith) (omega (arith, k.few i₁ l))
            ∙ k.piece i₁ l (rw (get_or-set_other lens j i₁ n 0 (λ q. omega arith)) at some);
      };
    }

-- nothing is kept where no piece has a length
pub none_kept :
    (texts : List ℕ) → length texts ≡ pieces * piece_length → Kept texts (replicate pieces 0) (replicate keys 0)
none_kept texts long = record {
  texts-long = long;
  lens-long = length-replicate {A = ℕ} pieces 0;
  told-long = length-replicate {A = ℕ} keys 0;
  few = λ j l. rw (get_or-replicate {A = ℕ} pieces j 0 0 (omega arith)) (omega arith);
  piece = λ j l some. absurd (some (get_or-replicate {A = ℕ} pieces j 0 0 (omega arith)));
}

-- ---- a piece put behind the first n bytes of a line

-- what is lent from n on comes back with the whole place in front
pub piece-behind :
    (out texts : List ℕ) (n j k : ℕ) {part : List ℕ} → n ≤ length out → j < pieces →
    length texts ≡ pieces * piece_length → k ≤ piece_length →
    part ≡ take piece_length (drop (j * piece_length) texts) ++ drop piece_length (mid_of n (length out - n) out) →
    take (n + k) (put_mid n (length out - n) out part) ≡ take n out ++ take k (drop (j * piece_length) texts)
piece-behind out texts n j k fits low long few e =
    let at = j * piece_length in
    let place = take piece_length (drop at texts) in
    let rest = drop (n + piece_length) out in
    let here : length (take n out) ≡ n = length-take-le n out fits in
    let whole : length place ≡ piece_length
    = length-take-le piece_length (drop at texts) (simp length-drop (omega (arith, long))) in
    let part : take (n + k) (take n out ++ (place ++ rest)) ≡ take n out ++ take k (place ++ rest)
    = ap (λ (m : ℕ). take (m + k) (take n out ++ (place ++ rest))) (sym here)
    ∙ take-append-add (take n out) (place ++ rest) k in
    rw (lent_back out n piece_length place e)
    (part ∙ rw (take-append-le k place rest (omega (arith, whole)), take-take k piece_length (drop at texts) few))

-- a piece that is the one wanted stands there
module _ {texts lens told : List ℕ} (kept : Kept texts lens told) (j v : ℕ) (low : j < keys)
    (same : (not (eqb (get_or lens j 0) 0) && eqb (get_or told j 0) v) ≡ true) where
  pub stands : piece_at texts lens j ≡ stamp_text j v
  stands =
      let (some, here) = both (not (eqb (get_or lens j 0) 0)) (eqb (get_or told j 0) v) same in
      let none : get_or lens j 0 ≡ 0 → ⊥ = λ e. clash some (rw (eq-eqb (get_or lens j 0) 0 e)) in
      kept.piece j low none ∙ ap (stamp_text j) (eqb-true (get_or told j 0) v here)

-- ---- the names of the Sets in dispute xs, put one after another

pub named_more :
    {texts lens texts₁ lens₁ : List ℕ} (xs : List ℕ) (i : ℕ) → i < most_sets →
    NameMore texts lens i (get_or xs i 0) texts₁ lens₁ → ((k : ℕ) → k < i → NameIn texts lens k (get_or xs k 0)) →
    (k : ℕ) → k < i + 1 → NameIn texts₁ lens₁ k (get_or xs k 0)
named_more {texts₁ = texts₁} {lens₁ = lens₁} xs i few more have k l =
    elim (ℕ_discrete k i) [
      | yes q ↦ rw q more.own
      | no d ↦ more.others k (get_or xs k 0) (omega arith) d (have k (omega (arith, d)))
    ]

pub all-names-kept :
    {texts lens : List ℕ} (xs : List ℕ) (d : ℕ) → d ≤ length xs →
    ((k : ℕ) → k < d → NameIn texts lens k (get_or xs k 0)) → NamesKept texts lens (take d xs)
all-names-kept xs d fits have k l =
    let low : k < d = omega (arith, length-take-le d xs fits) in
    rw (get_or-take d xs k 0 low) (have k low)

pub kept-name-at :
    {texts lens : List ℕ} (xs : List ℕ) (d i : ℕ) → d ≤ length xs → i < d → NamesKept texts lens (take d xs) →
    NameIn texts lens i (get_or xs i 0)
kept-name-at {texts} {lens} xs d i fits low all =
    rw (get_or-take d xs i 0 low) at (all i (omega (arith, length-take-le d xs fits)))
