-- The last member with a key, found one Set after another. Assumes nothing.
use mathlib.Core.Path.{◌≡◌, refl, ap}
use mathlib.Core.Bool.{Bool, true, false, cond}
use mathlib.Core.List.{List, [], ◌∷◌, ◌++◌, map, append-nil}
use Prim.Native.Nat.{ℕ, ◌+◌}
use lib.ListN.{length, get_or}
use Rattle.math_lists.specs.NumbersBelow.{keep}
use Rattle.math_lists.specs.SortedLists.{filter}
use Rattle.math_lists.proofs.GrownAtEnd.{filter-snoc}
use Rattle.edit_record.specs.declared.Edit.{Edit}
use Rattle.math_maximal.specs.Groups.{bit}
use Rattle.edit_record.specs.RecordBytes.{no_edit}
use Rattle.list_version.specs.Members.{members_of}
use Rattle.list_version.specs.Values.{has_key, later, last_after, last_with}
use Rattle.list_version.proofs.MembersByTest.{one_more_lem, none_more}

last_snoc : (passed xs : List Edit) (x : Edit) → last_after passed (xs ++ (x ∷ [])) ≡ later (last_after passed xs) x
unfolding last_after
last_snoc passed [] x = refl
last_snoc passed (y ∷ xs) x = last_snoc (later passed y) xs x

last-maybe :
    (xs : List Edit) (b : Bool) (x : Edit) →
    last_after [] (xs ++ cond b (x ∷ []) []) ≡ cond b (later (last_after [] xs) x) (last_after [] xs)
last-maybe xs true x = last_snoc [] xs x
last-maybe xs false x = ap (last_after []) (append-nil xs)

module _ (ms : List Edit) (g k : ℕ) where
  -- among the first i Sets
  abbrev pub last_below : ℕ → List Edit
  last_below i = last_after [] (filter (has_key k) (map (λ j. get_or ms j no_edit) (keep i (bit g))))

  pub last_none : last_below 0 ≡ []
  unfolding keep filter last_after
  last_none = refl

  pub last-member :
      (i : ℕ) (x : Edit) → get_or ms i no_edit ≡ x → bit g i ≡ true →
      last_below (i + 1) ≡ cond (has_key k x) (later (last_below i) x) (last_below i)
  last-member i x e b =
      let passed = map (λ j. get_or ms j no_edit) (keep i (bit g)) in
      rw (one_more_lem (λ j. get_or ms j no_edit) (bit g) i b, e, filter-snoc (has_key k) passed x)
      (last-maybe (filter (has_key k) passed) (has_key k x) x)

  pub last-other : (i : ℕ) → bit g i ≡ false → last_below (i + 1) ≡ last_below i
  last-other i b = rw (none_more (λ j. get_or ms j no_edit) (bit g) i b)

  pub last-all : (i : ℕ) → length ms ≡ i → last_below i ≡ last_with ms g k
  unfolding last_with members_of
  last-all i e = rw e
