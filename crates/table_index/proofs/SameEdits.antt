-- The index of the first n records depends on nothing but the edits in them. Assumes nothing.
use mathlib.Core.Path.{◌≡◌, refl, sym, ap, ap₂, ◌∙◌}
use mathlib.Core.Bool.{Bool, true, ◌&&◌, cond}
use mathlib.Core.List.{List}
use Prim.Native.Nat.{ℕ, zero, suc, ◌≤◌, ◌<◌}
use native.Mathlib.Omega.{arith}
use lib.Dec.{eqb}
use lib.ListN.{length, get_or}
use Rattle.math_lists.specs.SortedLists.{any}
use Rattle.math_lists.proofs.NumbersBelow.{keep_same}
use Rattle.edit_record.specs.declared.Edit.{Edit}
use Rattle.edit_record.specs.Answer1.{is_create, is_limited}
use Rattle.edit_history.specs.EditsHeld.{record_at, creates, is_set_on, sets_on}
use Rattle.edit_walk.specs.WalkForms.{place_of}
use Rattle.edit_history.proofs.EditsHeld.{edits-same}
use Rattle.table_index.specs.IndexForms.{number_at, is_on, places_on, head_at, limit_at, latest_on}
use Rattle.table_index.specs.IndexForms.{limited_on, IndexOf}
use Rattle.table_index.proofs.PlacesOfSets.{places-sets}

module _ (rs ts : List ℕ) (n : ℕ) (same : (p : ℕ) → p < n → record_at rs p ≡ record_at ts p) where
  pub number_same : (p : ℕ) → p ≤ n → number_at rs p ≡ number_at ts p
  number_same p l = ap (λ (es : List Edit). length (creates es)) (edits-same rs ts p (λ q k. same q (omega arith)))

  was : (p : ℕ) → p < n → is_create (record_at ts p) ≡ true → is_create (record_at rs p) ≡ true
  was p l c = ap is_create (same p l) ∙ c

  on_same : (p q : ℕ) → p < n → q < n → is_on rs p q ≡ is_on ts p q
  on_same p q l k = ap₂ (λ (a e : Edit). is_set_on a.site a.seq e) (same p l) (same q k)

  places-before : (p m : ℕ) → p < n → m ≤ n → places_on rs m p ≡ places_on ts m p
  unfolding places_on
  places-before p m l k = keep_same m (is_on rs p) (is_on ts p) (λ q j. on_same p q l (omega arith))

  latest-same : (p y m : ℕ) → p < n → m ≤ n → latest_on rs p y m ≡ latest_on ts p y m
  unfolding latest_on
  latest-same p y zero l k = refl
  latest-same p y (suc m) l k =
      ap₂ (λ (b : Bool) (i : ℕ). cond b m i)
      (ap₂ (λ (b : Bool) (e : Edit). b && eqb e.key y) (on_same p m l (omega arith)) (same m (omega arith)))
      (latest-same p y m l (omega arith))

  limited-same : (p : ℕ) → p < n → limited_on rs p n ≡ limited_on ts p n
  unfolding limited_on
  limited-same p l =
      ap (any is_limited) (places-sets rs p n
      ∙ ap₂ (λ (a : Edit) (es : List Edit). sets_on a.site a.seq es) (same p l) (edits-same rs ts n same)
      ∙ sym (places-sets ts p n))

  pub index_same : (ps ns cs hs : List ℕ) → IndexOf rs n ps ns cs hs → IndexOf ts n ps ns cs hs
  index_same ps ns cs hs x =
      let z = x.chained in
      record {
        places-long = x.places-long;
        numbers-long = x.numbers-long;
        counts-long = x.counts-long;
        indexed = λ p l. ap (λ (e : Edit). place_of ps e.site.0 e.seq.0) (sym (same p l)) ∙ x.indexed p l;
        numbered = λ p l c. x.numbered p l (was p l c) ∙ number_same p (omega arith);
        counted = λ p l c.
            ap (λ (o : ℕ). get_or cs o 0) (sym (number_same p (omega arith)))
            ∙ x.counted p l (was p l c)
            ∙ ap length (places-before p n l (omega arith));
        fresh = λ o l. x.fresh o (omega (arith, number_same n (omega arith)));
        chained = record {
          chains-long = z.chains-long;
          latest = λ p l c y k.
              ap (λ (o : ℕ). get_or hs (head_at o y) 0) (sym (number_same p (omega arith)))
              ∙ z.latest p l (was p l c) y k
              ∙ latest-same p y n l (omega arith);
          linked = λ p q l c k on.
              z.linked p q l (was p l c) k (on_same p q l k ∙ on)
              ∙ ap (λ (e : Edit). latest_on rs p e.key q) (same q k)
              ∙ latest-same p (record_at ts q).key q l (omega arith);
          ranked = λ p q l c k on.
              z.ranked p q l (was p l c) k (on_same p q l k ∙ on)
              ∙ ap length (places-before p q l (omega arith));
          limited = λ p l c.
              ap (λ (o : ℕ). get_or hs (limit_at o) 0) (sym (number_same p (omega arith)))
              ∙ z.limited p l (was p l c)
              ∙ ap (λ (b : Bool). cond b 1 0) (limited-same p l);
          no-heads = λ o y l. z.no-heads o y (omega (arith, number_same n (omega arith)));
          no-limits = λ o l. z.no-limits o (omega (arith, number_same n (omega arith)));
        };
      }
