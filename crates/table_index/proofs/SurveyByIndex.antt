-- The survey by the index is the survey of the edits held, for an edit to which none of 1 to 3 applies: one whose
-- target is held has it where the index says. Assumes that the records pass and are within the limits.
use mathlib.Core.Path.{◌≡◌, refl, sym, ap, ap₂, ◌∙◌}
use mathlib.Core.Logic.{◌⊎◌, inl, inr}
use mathlib.Core.Bool.{Bool, true, false, not, ◌&&◌, ◌||◌, cond}
use mathlib.Core.List.{List, map}
use Prim.Native.Nat.{ℕ, zero, suc, ◌+◌, ◌≤◌, ◌<◌}
use native.Mathlib.Omega.{arith}
use lib.ListN.{length, get_or}
use Rattle.math_lists.specs.SortedLists.{any, filter}
use Rattle.math_lists.proofs.Booleans.{clash, off}
use Rattle.math_lists.proofs.LastBelow.{last}
use Rattle.edit_record.specs.declared.Site.{Site}
use Rattle.edit_record.specs.declared.Seq.{Seq}
use Rattle.edit_record.specs.declared.Edit.{Edit}
use Rattle.edit_record.specs.Layout.{most_sites}
use Rattle.edit_record.specs.Answer1.{is_create, is_limited}
use Rattle.edit_causal.proofs.Identities.{same-site, same-seq}
use Rattle.edit_causal.specs.ConflictForms.{plain_marks}
use Rattle.edit_history.specs.EditsHeld.{record_at, edits_of, creates, sets_on, is_target, index_of, object_of}
use Rattle.edit_history.specs.SurveyForms.{survey_of}
use Rattle.edit_walk.specs.WalkForms.{place_of, Indexed, target_held, in_turn_against}
use Rattle.edit_history.proofs.EditsHeld.{target-parts, any-edit-on, any-edit-at, chosen_more, object-snoc}
use Rattle.edit_history.proofs.RecordsPassed.{InTurn, one_place}
use Rattle.edit_walk.proofs.LatestDecides.{target-same}
use Rattle.edit_walk.proofs.NewsDecide.{turn-against}
use Rattle.table_drawing.specs.declared.Counters.{Counters}
use Rattle.table_index.specs.IndexForms.{number_at, places_on, limit_at, limited_on, IndexOf, Holds}
use Rattle.table_index.proofs.PlacesOfSets.{places-sets, places-length}

module _ (c : Counters) (rs : List ℕ) (h : Holds c rs) where
  abbrev n : ℕ
  n = c.records

  abbrev es : List Edit
  es = edits_of rs n

  -- ---- the number of an object

  object-one :
      (e : Edit) (m : ℕ) →
      object_of e (edits_of rs (suc m))
      ≡ object_of e (edits_of rs m)
      + cond (is_create (record_at rs m) && not (any (is_target e) (edits_of rs m) || is_target e (record_at rs m))) 1 0
  unfolding edits_of
  object-one e m = object-snoc e (edits_of rs m) (record_at rs m)

  create-one : (m : ℕ) → number_at rs (suc m) ≡ number_at rs m + cond (is_create (record_at rs m)) 1 0
  unfolding creates
  create-one m = chosen_more is_create rs m

  none-among :
      (e : Edit) (m : ℕ) → ((p : ℕ) → p < m → is_target e (record_at rs p) ≡ false) →
      any (is_target e) (edits_of rs m) ≡ false
  none-among e m f =
      off (any (is_target e) (edits_of rs m))
      (λ y. let (p, j, u) = any-edit-at (is_target e) rs m y in
      clash u (f p j))

  -- where the target is not among them every Create counts
  object-none :
      (e : Edit) (m : ℕ) → ((p : ℕ) → p < m → is_target e (record_at rs p) ≡ false) →
      object_of e (edits_of rs m) ≡ number_at rs m
  unfolding object_of creates index_of edits_of filter
  object-none e zero f = refl
  object-none e (suc m) f =
      object-one e m
      ∙ rw (none-among e m (λ p l. f p (omega arith)), f m (omega arith)) (go (is_create (record_at rs m)))
      ∙ ap (λ (k : ℕ). k + cond (is_create (record_at rs m)) 1 0) (object-none e m (λ p l. f p (omega arith)))
      ∙ sym (create-one m)
    where
      go : (b : Bool) →
          object_of e (edits_of rs m) + cond (b && true) 1 0 ≡ object_of e (edits_of rs m) + cond b 1 0
      go true = refl
      go false = refl

  module _ (e : Edit) (q : ℕ) (l : q < n) (t : is_target e (record_at rs q) ≡ true) where
    -- no other edit is the target
    alone : (p : ℕ) → p < n → is_target e (record_at rs p) ≡ true → p ≡ q
    alone p k u =
        let a = target-parts e (record_at rs p) u in
        let b = target-parts e (record_at rs q) t in
        one_place c.sites rs n h.pass p q k l (a.site ∙ sym b.site) (a.seq ∙ sym b.seq)

    not-before : (p : ℕ) → p < q → is_target e (record_at rs p) ≡ false
    not-before p k = off (is_target e (record_at rs p)) (λ u. let z = alone p (omega arith) u in omega arith)

    -- after the target none does
    object-after : (m : ℕ) → q < m → m ≤ n → object_of e (edits_of rs m) ≡ number_at rs q
    object-after zero a b = absurd (omega arith)
    object-after (suc m) a b = go (last a) (λ k. object-after m k (omega arith))
      where
        stays : (k : ℕ) (b : Bool) → k + cond (b && false) 1 0 ≡ k
        stays k true = omega arith
        stays k false = omega arith

        go : (q < m) ⊎ (q ≡ m) → (q < m → object_of e (edits_of rs m) ≡ number_at rs q) →
            object_of e (edits_of rs (suc m)) ≡ number_at rs q
        go (inl k) ih =
            object-one e m
            ∙ rw (any-edit-on (is_target e) rs m q k t) (stays (object_of e (edits_of rs m)) (is_create (record_at rs m)))
            ∙ ih k
        go (inr z) ih =
            object-one e m
            ∙ rw (none-among e m (λ p k. not-before p (omega arith)), rw z at t)
            (stays (object_of e (edits_of rs m)) (is_create (record_at rs m)))
            ∙ object-none e m (λ p k. not-before p (omega arith))
            ∙ ap (number_at rs) (sym z)

    pub object-is : object_of e es ≡ number_at rs q
    object-is = object-after n l (omega arith)

  -- ---- an edit to which none of 1 to 3 applies

  pub turn : (e : Edit) → in_turn_against c.sites c.held e ≡ true → InTurn c.sites es e
  turn e y = turn-against c.sites h.few-sites c.held es h.held e y

  module _ (ps : List ℕ) (ix : Indexed rs n ps) where
    pub held-is :
        (e : Edit) → length c.held ≡ most_sites → target_held c.held rs ps e ≡ any (is_target e) es
    held-is e long = target-same c.sites h.few-sites rs n h.pass ps ix c.held long h.held e

    -- where the target stands, by the index of places
    pub target-placed :
        (e : Edit) → any (is_target e) es ≡ true →
        let q = place_of ps e.tsite.0 e.tseq.0 in
        (q < n) × (is_target e (record_at rs q) ≡ true)
    target-placed e held =
        let (q, l, t) = any-edit-at (is_target e) rs n held in
        let parts = target-parts e (record_at rs q) t in
        let at : place_of ps e.tsite.0 e.tseq.0 ≡ q = rw (parts.site, parts.seq) at (ix q l) in
        rw at (l, t)

    -- a survey of an edit whose target stands where the index says
    pub survey-found :
        (e : Edit) → any (is_target e) es ≡ true → (limited : Bool) (o k plain : ℕ) →
        o ≡ number_at rs (place_of ps e.tsite.0 e.tseq.0) → k ≡ length (sets_on e.tsite e.tseq es) →
        plain ≡ plain_marks e (sets_on e.tsite e.tseq es) →
        limited ≡ any is_limited (sets_on e.tsite e.tseq es) →
        record { object = o; sets = k; plain = plain; limited = limited }
        ≡ survey_of es e
    unfolding survey_of
    survey-found e held limited o k plain z w v u =
        let (l, t) = target-placed e held in
        rw (z, w, v, u, object-is e (place_of ps e.tsite.0 e.tseq.0) l t)

-- ---- by the whole index

module _
    (c : Counters)
    (rs : List ℕ)
    (h : Holds c rs)
    (ps ns cs hs : List ℕ)
    (x : IndexOf rs c.records ps ns cs hs) where
  abbrev edits : List Edit
  edits = edits_of rs c.records

  -- where the target of an edit stands, and what the index has of it
  pub record Aimed (e : Edit) (q : ℕ) : Type 0 where
    pub low : q < c.records
    pub target : is_target e (record_at rs q) ≡ true
    pub number : get_or ns q 0 ≡ number_at rs q
    pub count : get_or cs (number_at rs q) 0 ≡ length (sets_on e.tsite e.tseq edits)
    pub sets : map (record_at rs) (places_on rs c.records q) ≡ sets_on e.tsite e.tseq edits
    pub limits :
        get_or hs (limit_at (number_at rs q)) 0 ≡ cond (any is_limited (sets_on e.tsite e.tseq edits)) 1 0

  module _ (e : Edit) (held : any (is_target e) edits ≡ true) where
    at_place : (q : ℕ) → q < c.records → is_target e (record_at rs q) ≡ true → Aimed e q
    unfolding limited_on
    at_place q l t =
        let parts = target-parts e (record_at rs q) t in
        let same : sets_on (record_at rs q).site (record_at rs q).seq edits ≡ sets_on e.tsite e.tseq edits
        = ap₂ (λ (s : Site) (p : Seq). sets_on s p edits) (same-site (record_at rs q).site e.tsite parts.site)
        (same-seq (record_at rs q).seq e.tseq parts.seq) in
        let all : map (record_at rs) (places_on rs c.records q) ≡ sets_on e.tsite e.tseq edits
        = places-sets rs q c.records ∙ same in
        record {
          low = l;
          target = t;
          number = x.numbered q l parts.create;
          count = x.counted q l parts.create ∙ places-length rs q c.records ∙ ap length same;
          sets = all;
          limits =
              x.chained.limited q l parts.create
              ∙ ap (λ (ms : List Edit). cond (any is_limited ms) 1 0) all;
        }

    pub aimed : Aimed e (place_of ps e.tsite.0 e.tseq.0)
    aimed =
        let (l, t) = target-placed c rs h ps x.indexed e held in
        at_place (place_of ps e.tsite.0 e.tseq.0) l t
