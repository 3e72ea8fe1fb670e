-- Identifiers and the order of versions from the Sets in dispute, put in the order of their names once, are those of
-- the definitions. Assumes that different Sets have different names, and are no more than an object may have.
use mathlib.Core.Path.{◌≡◌, refl, sym, ap, ◌∙◌}
use mathlib.Core.Bool.{Bool, true, false, ◌&&◌, cond}
use mathlib.Core.List.Memᴰ
use mathlib.Core.List.{List, [], ◌∷◌, ◌++◌, map, map-append}
use mathlib.Core.List.{Memᴰ}
use Prim.Native.Nat.{ℕ, ◌+◌, ◌%◌, ◌≤◌, ◌<◌}
use native.Mathlib.Numerals.{add-one}
use native.Mathlib.Omega.{arith}
use native.Mathlib.Decide.{dec_lt}
use borrow.Author.Tests.{eqb-true, eq-eqb}
use lib.Dec.{eqb}
use lib.ListN.{length, get_or, take}
use lib.Seq.{take-suc}
use Rattle.math_lists.specs.NumbersBelow.{keep}
use Rattle.math_lists.specs.SortedLists.{elem, filter, Ascending, insert, gather, ascending}
use Rattle.math_lists.proofs.Booleans.{both, and-on}
use Rattle.math_lists.proofs.NumbersBelow.{keep_at, keep-on}
use Rattle.math_lists.proofs.Elements.{any_at, any-on, any-map, elem→mem, mem→elem, filter-at, filter-on}
use Rattle.math_lists.proofs.SortedLists.{ascending-unique, any-ascending, is-ascending}
use Rattle.math_lists.proofs.GrownAtEnd.{filter-snoc}
use Rattle.math_lists.proofs.PutInOrder.{gathered-same}
use Rattle.edit_record.specs.declared.Edit.{Edit}
use Rattle.edit_record.specs.RecordBytes.{no_edit}
use Rattle.math_maximal.specs.Groups.{bit}
use Rattle.group_step.specs.GroupRows.{most_sets}
use Rattle.group_step.proofs.LoopTurns.{gather-snoc}
use Rattle.group_true.specs.Disputed.{is_disputed, disputed_of}
use Rattle.list_version.specs.Identifier.{identifier_of}
use Rattle.list_version.specs.VersionOrder.{is_ahead, versions_of}
use Rattle.list_version.specs.VersionForms.{named_at, disputes_below, disputes_in, name_by}
use Rattle.list_version.specs.VersionForms.{is_in, NamesAscend, identifier_by}
use Rattle.list_version.specs.VersionForms.{is_ahead_by, versions_by}
use Rattle.list_version.proofs.MembersByTest.{one_more_lem, none_more}
use Rattle.list_version.proofs.IdentifiersGrow.{name_at, NamesDiffer, name-on, name-at}

-- ---- the Sets one by one

module _ (ms : List Edit) (i : ℕ) (e : Edit) (here : get_or ms i no_edit ≡ e) (have : List ℕ)
    (inv : have ≡ disputes_below ms i) where
  pub dispute-more :
      (more : List ℕ) (x : ℕ) → is_disputed ms e ≡ true → x ≡ named_at ms i → more ≡ insert x have →
      more ≡ disputes_below ms (i + 1)
  unfolding disputes_below
  dispute-more more x h n m =
      let p : ℕ → Bool = λ j. is_disputed ms (get_or ms j no_edit) in
      let q : p i ≡ true = rw here h in
      m ∙ rw (n, inv)
      (sym (ap ascending (one_more_lem (named_at ms) p i q) ∙ gather-snoc [] (map (named_at ms) (keep i p)) (named_at ms i)))

  pub no-dispute-more : is_disputed ms e ≡ false → have ≡ disputes_below ms (i + 1)
  unfolding disputes_below
  no-dispute-more h =
      let p : ℕ → Bool = λ j. is_disputed ms (get_or ms j no_edit) in
      let q : p i ≡ false = rw here h in
      inv ∙ sym (ap ascending (none_more (named_at ms) p i q))

pub no-disputes : (ms : List Edit) → [] ≡ disputes_below ms 0
unfolding disputes_below keep gather
no-disputes ms = refl

pub disputes-ascend : (ms : List Edit) (n : ℕ) → Ascending (disputes_below ms n)
unfolding disputes_below
disputes-ascend ms n = is-ascending (map (named_at ms) (keep n (λ i. is_disputed ms (get_or ms i no_edit))))

-- ---- the names of members one by one: of the Sets in dispute, xs, i are passed

pub names-grown :
    (xs : List ℕ) (g i : ℕ) → i < length xs →
    identifier_by (take (i + 1) xs) g
    ≡ identifier_by (take i xs) g ++ map name_by (cond (is_in g (get_or xs i 0)) (get_or xs i 0 ∷ []) [])
unfolding identifier_by
names-grown xs g i low =
    let x = get_or xs i 0 in
    rw (add-one, take-suc xs i 0 low, filter-snoc (is_in g) (take i xs) x)
    (map-append name_by (filter (is_in g) (take i xs)) (cond (is_in g x) (x ∷ []) []))

pub no_names : (g : ℕ) → [] ≡ identifier_by [] g
unfolding identifier_by filter
no_names g = refl

-- ---- names that ascend

member-names-ascend : (xs : List ℕ) (g : ℕ) → NamesAscend xs → Ascending (identifier_by xs g)
unfolding identifier_by filter
member-names-ascend [] g a = tt
member-names-ascend (x ∷ xs) g (above, a) = go (is_in g x) (member-names-ascend xs g a)
  where
    go : (b : Bool) → Ascending (map name_by (filter (is_in g) xs)) →
        Ascending (map name_by (cond b (x ∷ filter (is_in g) xs) (filter (is_in g) xs)))
    go true ih = (
      (λ y m.
          let (z, n, q) = Memᴰ.of_map name_by (filter (is_in g) xs) m in
          rw (← q) (above z (elem→mem z xs (filter-at (is_in g) xs z (mem→elem n)).0))),
      ih,
    )
    go false ih = ih

named-where :
    (xs : List ℕ) → Ascending xs →
    ((x y : ℕ) → Memᴰ x xs → Memᴰ y xs → x < y → name_by x < name_by y) → NamesAscend xs
named-where [] a h = tt
named-where (x ∷ xs) (above, a) h = (
  (λ y m. h x y (Memᴰ.head refl) (Memᴰ.tail m) (above y m)),
  named-where xs a (λ y z m n. h y z (Memᴰ.tail m) (Memᴰ.tail n)),
)

-- ---- the Sets of an object

module _ (ms : List Edit) (differ : NamesDiffer ms) (few : length ms ≤ most_sets) where
  abbrev disputed : ℕ → Bool
  disputed i = is_disputed ms (get_or ms i no_edit)

  dispute-at :
      (x : ℕ) → elem x (disputes_in ms) ≡ true →
      (i : ℕ) × (i < length ms) × (disputed i ≡ true) × (x ≡ named_at ms i)
  unfolding disputes_below
  dispute-at x h =
      let n = length ms in
      let (i, e, q) = any_at (λ i. eqb x (named_at ms i)) (keep n disputed)
      (sym (any-map (eqb x) (named_at ms) (keep n disputed))
      ∙ sym (any-ascending (eqb x) (map (named_at ms) (keep n disputed))) ∙ h) in
      let (l, p) = keep_at n disputed i e in
      (i, l, p, eqb-true x (named_at ms i) q)

  dispute-on : (i : ℕ) → i < length ms → disputed i ≡ true → elem (named_at ms i) (disputes_in ms) ≡ true
  unfolding disputes_below
  dispute-on i l p =
      let n = length ms in
      any-ascending (eqb (named_at ms i)) (map (named_at ms) (keep n disputed))
      ∙ any-map (eqb (named_at ms i)) (named_at ms) (keep n disputed)
      ∙ any-on (λ j. eqb (named_at ms i) (named_at ms j)) (keep n disputed) i (keep-on n disputed i l p)
      (eq-eqb (named_at ms i) (named_at ms i) refl)

  pub disputes-named : NamesAscend (disputes_in ms)
  disputes-named =
      named-where (disputes_in ms) (disputes-ascend ms (length ms))
      (λ x y m n less.
      let (i, l, p, e) = dispute-at x (mem→elem m) in
      let (j, k, q, f) = dispute-at y (mem→elem n) in
      let same : name_at ms i ≡ name_at ms j → i ≡ j = differ i j l k in
      elim (dec_lt (name_by x) (name_by y)) [
        | yes z ↦ z
        | no z ↦ absurd (
            let one : name_at ms i ≡ name_at ms j = omega arith in
            let also : i ≡ j = same one in
            omega arith)
      ])

  pub identifier-by : (g : ℕ) → identifier_by (disputes_in ms) g ≡ identifier_of ms g
  unfolding identifier_by disputed_of
  identifier-by g =
      let xs = disputes_in ms in
      let n = length ms in
      let p : ℕ → Bool = λ i. bit g i && disputed i in
      ascending-unique (identifier_by xs g) (identifier_of ms g) (member-names-ascend xs g disputes-named)
      (unfold identifier_of in is-ascending _)
      (λ y h.
      let (x, e, q) = any_at (λ x. eqb y (name_by x)) (filter (is_in g) xs)
      (sym (any-map (eqb y) name_by (filter (is_in g) xs)) ∙ h) in
      let (there, in-it) = filter-at (is_in g) xs x e in
      let (i, l, d, f) = dispute-at x there in
      let name : y ≡ name_at ms i = omega (arith, eqb-true y (name_by x) q) in
      let member : bit g i ≡ true
      = ap (bit g) (let r : i ≡ x % most_sets = omega arith in r) ∙ in-it in
      rw name (name-on ms g i (keep-on n p i l (and-on (bit g i) (disputed i) member d))))
      (λ y h.
      let (i, e, q) = name-at ms g y h in
      let (l, both_hold) = keep_at n p i e in
      let (b, d) = both (bit g i) (disputed i) both_hold in
      let x = named_at ms i in
      let member : is_in g x ≡ true
      = ap (bit g) (let r : x % most_sets ≡ i = omega arith in r) ∙ b in
      let name : y ≡ name_by x = q ∙ omega arith in
      any-map (eqb y) name_by (filter (is_in g) xs)
      ∙ any-on (λ z. eqb y (name_by z)) (filter (is_in g) xs) x
      (filter-on (is_in g) xs x (dispute-on i l d) member) (eq-eqb y (name_by x) name))

  -- ---- the order

  pub versions-by : (gs : List ℕ) → versions_by (disputes_in ms) gs ≡ versions_of ms gs
  unfolding versions_by versions_of is_ahead_by is_ahead
  versions-by gs =
      gathered-same (is_ahead_by (disputes_in ms)) (is_ahead ms) (λ g. Unit {0})
      (λ g h u v. rw (identifier-by g, identifier-by h)) [] gs (λ g m. tt) (λ g m. tt)
