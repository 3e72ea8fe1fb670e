-- Sound tables have what the laws here assume: no identity stands twice (`held-apart`), of any two edits one ranks
-- before the other (`held-ranked`), and the fields are of their lengths; so the objects, put in order by their keys,
-- stand as the list has them. Assumes nothing.
use mathlib.Core.Path.{◌≡◌, refl, sym, ap, ◌∙◌}
use mathlib.Core.Bool.{true}
use mathlib.Core.List.{List, [], map}
use Prim.Native.Nat.{ℕ, ◌<◌}
use native.Mathlib.Omega.{arith}
use native.Mathlib.Decide.{ℕ_discrete}
use lib.Dec.{ltb}
use lib.ListN.{get_or}
use Rattle.math_lists.specs.NumbersBelow.{keep}
use Rattle.math_lists.specs.SortedLists.{Asc, gather_by}
use Rattle.math_lists.proofs.NumbersBelow.{keep_at, keep-on}
use Rattle.math_lists.proofs.Elements.{elem→mem, mem→elem}
use Rattle.edit_record.specs.declared.Edit.{Edit}
use Rattle.edit_record.specs.RecordBytes.{no_edit}
use Rattle.edit_record.specs.Answer1.{is_create}
use Rattle.edit_history.specs.EditsHeld.{record_at, creates}
use Rattle.edit_history.proofs.RecordsPassed.{passed-at, formed-at, next-at}
use Rattle.edit_history.proofs.EditsHeld.{count-few}
use Rattle.table_drawing.specs.Tables.{Tables, place_at, held_by}
use Rattle.table_soundness.proofs.SoundFacts.{Sound}
use Rattle.table_soundness.proofs.ObjectsByNumber.{object-create}
use Rattle.math_lists.specs.Rearranged.{Mem}
use Rattle.math_lists.proofs.ListMembers.{chosen_at}
use Rattle.edit_history.proofs.EditsByPlaces.{edit-in}
use Rattle.list_version.proofs.NeverShared.{held-apart}
use Rattle.list_version.proofs.MembersByTest.{map-keep-same, all-places}
use Rattle.list_version.proofs.RanksStrict.{held-ranked}
use Rattle.list_order.specs.Layers.{deciding, standing}
use Rattle.list_order.specs.LayerForms.{key_of}
use Rattle.list_order.specs.Moves.{layered_order, moved}
use Rattle.list_order.proofs.Standing.{OneRanks, standing-made}
use Rattle.list_order.proofs.Deciding.{deciding-held, named-ranked, named-held}
use Rattle.list_order.proofs.Keys.{Sized, standing-by-numbers}
use Rattle.list_order.proofs.Moves.{theorem-of-the-moves}

-- ---- the objects of the tables: their numbers, and the Create of each

abbrev pub numbers : Tables → List ℕ
numbers t = keep t.counters.objects (λ o. true)

abbrev pub create_at : Tables → ℕ → Edit
create_at t o = record_at t.records (place_at t.objects o)

pub number-below : (t : Tables) (o : ℕ) → Mem o (numbers t) → o < t.counters.objects
number-below t o m = (keep_at t.counters.objects (λ o. true) o (mem→elem m)).0

pub number-on : (t : Tables) (o : ℕ) → o < t.counters.objects → Mem o (numbers t)
number-on t o l = elem→mem o (numbers t) (keep-on t.counters.objects (λ o. true) o l refl)

module _ (t : Tables) (s : Sound t) where
  abbrev sites : ℕ
  sites = t.counters.sites

  abbrev rs : List ℕ
  rs = t.records

  abbrev n : ℕ
  n = t.counters.records

  -- they are the Creates held
  pub creates-are : map (create_at t) (numbers t) ≡ creates (held_by t)
  creates-are =
      map-keep-same (create_at t) (λ o. get_or (creates (held_by t)) o no_edit) (λ o. true) t.counters.objects
      (λ o l h. sym (object-create t s no_edit o l))
      ∙ ap (λ (k : ℕ). map (λ o. get_or (creates (held_by t)) o no_edit) (keep k (λ o. true))) s.objects
      ∙ all-places no_edit (creates (held_by t))

  -- ---- the edits held

  place-sized : (p : ℕ) → p < n → Sized (record_at rs p)
  place-sized p l =
      let e = record_at rs p in
      let formed = formed-at sites rs n s.pass p l in
      record {
        site = omega (arith, formed.site, s.few-sites);
        entries = λ i k. elim (ℕ_discrete i e.site.0) [
          | yes q ↦
              (let own : e.seq.0 ≡ get_or e.vector i 0
              = formed.own ∙ ap (λ (x : ℕ). get_or e.vector x 0) (sym q) in
              omega (arith, s.few-records, next-at sites rs n s.pass p l, count-few e.site.0 rs p))
          | no d ↦
              omega (
                arith,
                s.few-records,
                (passed-at sites rs n s.pass p l).in_turn.others i k d,
                count-few i rs p,
              )
        ];
      }

  pub held-sized : (e : Edit) → Mem e (held_by t) → Sized e
  held-sized e m = let (p, l, q) = edit-in rs n e m in rw q (place-sized p l)

  -- ---- the objects in the order of the list

  -- what decides the place of each
  abbrev last : ℕ → Edit
  last o = deciding (held_by t) (create_at t o)

  pub objects-ranked : Asc (OneRanks last) (numbers t)
  objects-ranked = named-ranked (held_by t) (held-apart t s) (held-ranked t s) (create_at t) (numbers t) creates-are

  deciding-sized : (o : ℕ) → Mem o (numbers t) → Sized (last o)
  unfolding creates
  deciding-sized o m =
      held-sized (last o)
      (deciding-held (held_by t) (create_at t o)
      (chosen_at is_create (create_at t o) (held_by t)
      (named-held (held_by t) (create_at t) (numbers t) creates-are o m)).0)

  pub objects-by-keys :
      (key : ℕ → ℕ) → ((o : ℕ) → o < t.counters.objects → key o ≡ key_of (last o)) →
      gather_by (λ a b. ltb (key a) (key b)) [] (numbers t) ≡ standing last (numbers t)
  objects-by-keys key are =
      standing-by-numbers last (numbers t) objects-ranked deciding-sized key
      (λ o m. are o (number-below t o m))

  -- their Creates stand as those of the edits held do
  pub objects-layered : map (create_at t) (standing last (numbers t)) ≡ layered_order (held_by t)
  unfolding layered_order
  objects-layered =
      standing-made (create_at t) (deciding (held_by t)) (numbers t) ∙ ap (standing (deciding (held_by t))) creates-are

  -- the theorem of the moves, of a drawing
  pub held-by-moves : moved (held_by t) ≡ layered_order (held_by t)
  held-by-moves = theorem-of-the-moves (held_by t) (held-apart t s) (held-ranked t s)
