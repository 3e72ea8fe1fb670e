-- The elements of a list of any type: which pass a test, which are chosen, and where one stands. Assumes nothing.
use mathlib.Core.Path.{◌≡◌, refl, sym, ap, subst, ◌∙◌}
use mathlib.Core.Logic.{◌⊎◌, inl, inr}
use mathlib.Core.Bool.{Bool, true, false, cond}
use mathlib.Core.List.Memᴰ
use mathlib.Core.List.{List, [], ◌∷◌, ◌++◌, append-nil}
use Prim.Native.Nat.{ℕ, zero, suc, ◌<◌}
use native.Mathlib.Omega.{arith}
use lib.ListN.{length, get_or, length-append}
use lib.Seq.{append_snoc}
use Rattle.math_lists.specs.SortedLists.{any, filter}
use Rattle.math_lists.proofs.Booleans.{clash, either, or_left, or_right}
use Rattle.math_lists.specs.Rearranged.{Mem}

abbrev pub here : {A : Type 0} {x : A} {xs : List A} → Mem x (x ∷ xs)
here = Memᴰ.head refl

module _ {A : Type 0} (f : A → Bool) where
  -- ---- some element passes

  pub any-on : {x : A} {xs : List A} → Mem x xs → f x ≡ true → any f xs ≡ true
  unfolding any
  any-on (Memᴰ.head {x = y} {xs = ys} e) h = or_left (f y) (any f ys) (rw e at h)
  any-on (Memᴰ.tail {x = y} {xs = ys} m) h = or_right (f y) (any f ys) (any-on m h)

  pub any_at : (xs : List A) → any f xs ≡ true → (x : A) × Mem x xs × (f x ≡ true)
  unfolding any
  any_at [] h = clash h refl
  any_at (y ∷ ys) h = go (either (f y) (any f ys) h) (any_at ys)
    where
      go : (f y ≡ true) ⊎ (any f ys ≡ true) → (any f ys ≡ true → (x : A) × Mem x ys × (f x ≡ true)) →
          (x : A) × Mem x (y ∷ ys) × (f x ≡ true)
      go (inl q) ih = (y, here, q)
      go (inr q) ih = let (x, m, r) = ih q in (x, Memᴰ.tail m, r)

  -- ---- the elements that are chosen

  pub chosen_at : (x : A) (xs : List A) → Mem x (filter f xs) → Mem x xs × (f x ≡ true)
  unfolding filter
  chosen_at x [] m = absurd (Memᴰ.not-nil m)
  chosen_at x (y ∷ ys) m = go (f y) refl m (chosen_at x ys)
    where
      go : (b : Bool) → f y ≡ b → Mem x (cond b (y ∷ filter f ys) (filter f ys)) →
          (Mem x (filter f ys) → Mem x ys × (f x ≡ true)) → Mem x (y ∷ ys) × (f x ≡ true)
      go true e m ih =
          elim (Memᴰ.cases_cons m)
          [ inl q ↦ (Memᴰ.head q, rw q e) | inr n ↦ (Memᴰ.tail (ih n).0, (ih n).1) ]
      go false e m ih = (Memᴰ.tail (ih m).0, (ih m).1)

  pub chosen_on : {x : A} {xs : List A} → Mem x xs → f x ≡ true → Mem x (filter f xs)
  unfolding filter
  chosen_on {x} (Memᴰ.head {x = y} {xs = ys} e) h = let on : f y ≡ true = rw e at h in rw on (Memᴰ.head e)
  chosen_on {x} (Memᴰ.tail {x = y} {xs = ys} m) h = go (f y) (chosen_on m h)
    where
      go : (b : Bool) → Mem x (filter f ys) → Mem x (cond b (y ∷ filter f ys) (filter f ys))
      go true ih = Memᴰ.tail ih
      go false ih = ih

  -- an element that passes is one more than those before it
  pub chosen_more :
      (xs ys : List A) (x : A) → f x ≡ true → length (filter f xs) < length (filter f (xs ++ (x ∷ ys)))
  unfolding filter
  chosen_more [] ys x h = rw h (omega arith)
  chosen_more (z ∷ zs) ys x h = go (f z) (chosen_more zs ys x h)
    where
      go : (b : Bool) → length (filter f zs) < length (filter f (zs ++ (x ∷ ys))) →
          length (cond b (z ∷ filter f zs) (filter f zs))
          < length (cond b (z ∷ filter f (zs ++ (x ∷ ys))) (filter f (zs ++ (x ∷ ys))))
      go true ih = omega arith
      go false ih = ih

module _ {A : Type 0} where
  -- ---- where an element stands

  pub split-mem : {x : A} {xs : List A} → Mem x xs → (us : List A) × (vs : List A) × (xs ≡ us ++ (x ∷ vs))
  split-mem (Memᴰ.head {xs = ys} e) = ([], ys, rw e)
  split-mem (Memᴰ.tail {x = y} m) =
      let (us, vs, e) = split-mem m in
      (y ∷ us, vs, ap (λ (zs : List A). y ∷ zs) e)

  pub mem-along : {x : A} {xs ys : List A} → xs ≡ ys → Mem x xs → Mem x ys
  mem-along {x} e m = subst (λ (zs : List A). Mem x zs) e m

  pub mem-middle : (us vs : List A) (x : A) → Mem x (us ++ (x ∷ vs))
  mem-middle us vs x = Memᴰ.append_right us here

  pub mem-place : (d : A) (xs : List A) (i : ℕ) → i < length xs → Mem (get_or xs i d) xs
  mem-place d [] i l = absurd (omega arith)
  mem-place d (x ∷ xs) zero l = here
  mem-place d (x ∷ xs) (suc i) l = Memᴰ.tail (mem-place d xs i (omega arith))

  pub place-of : (d : A) {x : A} {xs : List A} → Mem x xs → (i : ℕ) × (i < length xs) × (get_or xs i d ≡ x)
  place-of d (Memᴰ.head e) = (zero, omega arith, sym e)
  place-of d (Memᴰ.tail m) = let (i, l, e) = place-of d m in (suc i, omega arith, e)

  -- an element of a list with one more at its end stands in the list, or is the last one
  pub split-snoc :
      (us xs ys : List A) (x e : A) → us ++ (x ∷ []) ≡ xs ++ (e ∷ ys) →
      ((us ≡ xs) × (x ≡ e)) ⊎ ((zs : List A) × (us ≡ xs ++ (e ∷ zs)))
  split-snoc [] [] ys x e h = inl (refl, cc)
  split-snoc [] (w ∷ ws) ys x e h =
      absurd (omega (arith, ap length h, length-append ws (e ∷ ys)))
  split-snoc (u ∷ us) [] ys x e h = let p : u ≡ e = cc in inr (us, rw p)
  split-snoc (u ∷ us) (w ∷ ws) ys x e h =
      let p : u ≡ w = cc in
      let q : us ++ (x ∷ []) ≡ ws ++ (e ∷ ys) = cc in
      elim (split-snoc us ws ys x e q) [
        | inl (r, z) ↦ inl (rw (p, r), z)
        | inr (zs, r) ↦ inr (zs, rw (p, r))
      ]

  -- what holds of the empty list and, with those before, of the next element too, holds of each front of the whole
  pub fronts :
      (P : List A → Type 0) (whole : List A) → P [] →
      ((us vs : List A) (x : A) → whole ≡ us ++ (x ∷ vs) → P us → P (us ++ (x ∷ []))) →
      (xs ys : List A) → whole ≡ xs ++ ys → P xs
  fronts P whole z s xs ys e = go [] xs z e
    where
      go : (us vs : List A) → P us → whole ≡ us ++ (vs ++ ys) → P (us ++ vs)
      go us [] h e = rw append-nil h
      go us (v ∷ vs) h e =
          subst P (append_snoc us v vs)
          (go (us ++ (v ∷ [])) vs (s us (vs ++ ys) v e h) (e ∙ sym (append_snoc us v (vs ++ ys))))
