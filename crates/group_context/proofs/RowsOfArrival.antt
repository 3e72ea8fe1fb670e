-- From the rows of Sets to the next one, that arrives after them, and the contexts with one more. xs are the Sets
-- held, in the order of their arrival, and x is the one that arrives. Assumes nothing.
use mathlib.Core.Path.{◌≡◌, sym, ◌∙◌, ap}
use mathlib.Core.Bool.{Bool}
use mathlib.Core.List.{List, [], ◌∷◌, ◌++◌}
use Prim.Native.Nat.{ℕ, suc, ◌<◌}
use lib.ListN.{length, get_or, take, set, get_or-append}
use lib.Seq.{take-suc-set, get_or-append_seam}
use Rattle.math_lists.specs.NumbersBelow.{mask}
use Rattle.math_lists.proofs.NumbersBelow.{mask-same}
use Rattle.math_contexts.specs.Box.{Box}
use Rattle.math_contexts.specs.Contexts.{contexts, context}
use Rattle.math_contexts.specs.SameSets.{SameBelow}
use Rattle.math_contexts.specs.BoxByArrival.{rel, box_of}
use Rattle.math_contexts.proofs.BoxGrows.{first-keep, contexts-keep}
use Rattle.group_context.specs.RowsOfBox.{PlainRows, NextOf}

-- one context more is put down
pub one-context-more :
    (b : Box) (cs : List ℕ) (i c : ℕ) → i < length cs → take i cs ≡ contexts b i → c ≡ context b i →
    take (suc i) (set cs i c) ≡ contexts b (suc i)
unfolding contexts context
one-context-more b cs i c l e h = rw (take-suc-set cs i c l, e, h)

-- ---- one that arrives

-- a box that has more Sets, and is the same below n
rows-keep :
    {b b' : Box} {n : ℕ} {plains : List ℕ} → SameBelow b b' n → PlainRows b n plains → PlainRows b' n plains
rows-keep s rows = record {
  symmetric = λ i j p q. s.plains i j p q ∙ rows.symmetric i j p q ∙ sym (s.plains j i q p);
  conflicts = λ i j p q. rows.conflicts i j p q ∙ sym (s.plains i j p q);
}

module _ {E : Type 0} (d : E) (conf saw lists : E → E → Bool) (lim : E → Bool) (xs : List E) (x : E) where
  abbrev n : ℕ
  n = length xs

  abbrev B : List E → Box
  B = box_of d conf saw lists lim

  abbrev ys : List E
  ys = xs ++ (x ∷ [])

  -- what x says of each of those before it, by number
  of-arriving :
      (says : E → E → Bool) (g : ℕ) → g ≡ mask n (λ j. says x (get_or xs j d)) → g ≡ mask n (rel d says ys n)
  unfolding rel
  of-arriving says g e =
      e
      ∙ mask-same n (λ j. says x (get_or xs j d)) (λ j. says (get_or ys n d) (get_or ys j d))
      (λ j l. rw (get_or-append_seam xs x [] d, get_or-append xs (x ∷ []) d j l))

  -- x after xs: the numbers are asked of xs and of x alone
  pub next-arrives :
      {plains cs : List ℕ} (v w : ℕ) (t : Bool) → PlainRows (B xs) n plains → take n cs ≡ contexts (B xs) n →
      v ≡ mask n (λ j. saw x (get_or xs j d)) → w ≡ mask n (λ j. lists x (get_or xs j d)) → t ≡ lim x →
      NextOf (B ys) n plains cs v w t
  next-arrives v w t rows held seen named limits = record {
    plainly = rows-keep (first-keep d conf saw lists lim xs (x ∷ [])) rows;
    before = held ∙ sym (contexts-keep d conf saw lists lim xs (x ∷ []));
    seen = of-arriving saw v seen;
    named = of-arriving lists w named;
    limits = limits ∙ ap lim (sym (get_or-append_seam xs x [] d));
  }

  -- its conflicts by document 01's rule
  pub row-arrives : (g : ℕ) → g ≡ mask n (λ j. conf x (get_or xs j d)) → g ≡ mask n ((B ys).plain n)
  row-arrives = of-arriving conf
