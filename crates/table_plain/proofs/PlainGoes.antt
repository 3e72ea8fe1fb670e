-- A record that goes the short way: what the code asks, and what it leaves is what taking the record leaves, with the
-- index of the tables after it. Assumes nothing.
use mathlib.Core.Path.{◌≡◌, refl, ◌∙◌}
use mathlib.Core.Logic.{inl, inr}
use mathlib.Core.Bool.{true, false, cond}
use mathlib.Core.List.{List}
use Prim.Native.Nat.{ℕ, ◌+◌}
use lib.Dec.{eqb}
use lib.ListN.{length, set}
use borrow.Author.Tests.{eqb-true}
use Rattle.math_lists.proofs.Booleans.{clash, decide, either, or_left, or_off}
use Rattle.edit_record.specs.declared.Edit.{Edit}
use Rattle.edit_record.specs.Layout.{record_length, set_kind}
use Rattle.edit_record.specs.RecordBytes.{decode_of, span_of}
use Rattle.edit_record.specs.Answer1.{is_create, is_set, is_limited}
use Rattle.edit_record.proofs.AgreeingBytes.{span-plain}
use Rattle.edit_history.specs.SurveyForms.{bump}
use Rattle.edit_sum.specs.WordSum.{record_words, wrapped, sum_of}
use Rattle.table_drawing.specs.Tables.{Tables, tables_of}
use Rattle.table_soundness.specs.Sound.{sound}
use Rattle.table_soundness.proofs.SoundFacts.{Sound, sound-at}
use Rattle.table_index.specs.IndexForms.{Holds, counters_of, FitOf}
use Rattle.table_index.specs.declared.Looked.{Looked}
use Rattle.table_arrival.specs.Arrival.{put_record}
use Rattle.table_arrival.proofs.CodeInHand.{holds}
use Rattle.table_arrival.proofs.PlainTaken.{fit-admitted, create-stored, layer-stored, set-stored, row_kept}
use Rattle.table_arrival.proofs.PlainTaken.{object-few, used-few, used-ascends, used-small, used-apart, zero-behind}
use Rattle.table_plain.specs.TakingForms.{TakesShort, LeavesShort, spot_of}
use Rattle.table_plain.specs.TakingForms.{Enters, Steps, StoresBeside, StoredBeside}
use Rattle.table_plain.proofs.IndexAfter.{enter-asks, create-leaves, layer-leaves, set-leaves}

-- the look asks of the counters all but the sum
pub look-asks :
    (sites n m sum : ℕ) (held rs os gs : List ℕ) →
    sound (tables_of (counters_of sites n m held sum) rs os gs) ≡ true → Holds (counters_of sites n m held 0) rs
look-asks sites n m sum held rs os gs is_sound =
    let h = holds (tables_of (counters_of sites n m held sum) rs os gs) is_sound in
    record {
      few-sites = h.few-sites;
      few-records = h.few-records;
      few-objects = h.few-objects;
      pass = h.pass;
      held = h.held;
      objects = h.objects;
      few-sets = h.few-sets;
    }

module _
    (sites n m sum : ℕ)
    (held rs os gs ps ns cs hs b : List ℕ)
    (p : TakesShort (tables_of (counters_of sites n m held sum) rs os gs) ps ns cs hs b)
    (r : Looked)
    (f : FitOf sites n m rs ps ns cs (decode_of b) r) where
  abbrev t : Tables
  t = tables_of (counters_of sites n m held sum) rs os gs

  abbrev e : Edit
  e = decode_of b

  abbrev s : Sound t
  s = sound-at t p.takes.is_sound

  abbrev whole : length b ≡ span_of b
  whole = p.whole

  pub span-is : span_of b ≡ record_length
  span-is = span-plain b f.plain

  pub long-is : length b ≡ record_length
  long-is = whole ∙ span-is

  set-kind : is_set e ≡ true → e.kind ≡ set_kind
  set-kind k = elim (either (eqb e.kind set_kind) (is_limited e) k) [
    | inl y ↦ eqb-true e.kind set_kind y
    | inr y ↦ clash y f.plain
  ]

  -- ---- what the code asks

  set-steps : is_set e ≡ true → Steps os gs ns cs hs e.key r
  set-steps k =
      record {
        object = object-few t b s whole p.few ps ns cs r f k;
        sets = (f.set k).room;
        groups = used-few t b s whole p.few ps ns cs r f k;
        ascending = used-ascends t b s whole p.few ps ns cs r f k;
        below = used-small t b s whole p.few ps ns cs r f k;
        apart = used-apart t b s whole p.few ps ns cs r f k p.takes.apart;
        rest = zero-behind t b s whole p.few ps ns cs r f k;
        objects-long = s.objects-long;
        groups-long = s.groups-long;
        numbers-long = p.takes.index.numbers-long;
        counts-long = p.takes.index.counts-long;
        chains-long = p.takes.index.chained.chains-long;
        few = (fit-admitted t b s whole p.few ps ns cs r f).formed.key;
        count = rw (← (f.set k).count) (f.set k).room;
      }

  set-by-kind : eqb e.kind set_kind ≡ true → is_set e ≡ true
  set-by-kind = or_left (eqb e.kind set_kind) (is_limited e)

  no-set-by-kind : eqb e.kind set_kind ≡ false → is_set e ≡ false
  no-set-by-kind k = or_off (eqb e.kind set_kind) (is_limited e) k f.plain

  pub store_asks : StoresBeside m os gs ns cs hs e r
  store_asks =
      record {
        of-set = λ k. set-steps (set-by-kind k);
        of-create = f.create-room;
        objects-long = s.objects-long;
        numbers-long = p.takes.index.numbers-long;
      }

  -- ---- what it leaves

  module _ (os' gs' ns' cs' hs' : List ℕ) where
    -- where there is no room for the groups of its object
    pub not-stored :
        StoredBeside n m e r false os gs ns cs hs os' gs' ns' cs' hs' →
        LeavesShort t b false (tables_of (counters_of sites n m held sum) rs os' gs') ps ns cs hs ps ns' cs' hs'
    not-stored st = elim (decide (eqb e.kind set_kind)) [
      | inl k ↦
          (let (g, _, crowded) = st.of-set k in
          let (many, o, a, c, h) = crowded refl in
          record {
            taken = λ y. clash y refl;
            tables =
                λ y. rw (o, g, row_kept t b s whole p.few ps ns cs r f (set-by-kind k) many);
            index = λ y. (refl, a, c, h);
          })
      | inr k ↦ clash (st.no-set k).0 refl
    ]

    module _ (st : StoredBeside n m e r true os gs ns cs hs os' gs' ns' cs' hs') where
      pub enters : Enters held n ps b
      enters = elim (decide (eqb e.kind set_kind)) [
        | inl k ↦ enter-asks sites n m sum held rs os gs ps ns cs hs b p _ (set-stored t b s whole p.few ps ns
            cs r f (set-by-kind k) ((st.of-set k).1
            refl).0)
        | inr k ↦ elim (decide (is_create e)) [
          | inl c ↦ enter-asks sites n m sum held rs os gs ps ns cs hs b p _ (create-stored t b s whole p.few ps
              ns cs r f c)
          | inr c ↦ enter-asks sites n m sum held rs os gs ps ns cs hs b p _ (layer-stored t b s whole p.few ps
              ns cs r f c (no-set-by-kind k))
        ]
      ]

      module _
          (held' rs' ps' : List ℕ)
          (m' sum' : ℕ)
          (bumped : held' ≡ bump held e.site)
          (put : rs' ≡ put_record rs n b)
          (placed : ps' ≡ set ps (spot_of ps b) n)
          (made : m' ≡ m + cond (is_create e) 1 0)
          (added : sum' ≡ wrapped (sum + sum_of (record_words b) b)) where
        abbrev Left : Type 0
        Left =
            LeavesShort t b true (tables_of (counters_of sites (n + 1) m' held' sum') rs' os' gs') ps ns cs hs ps' ns'
            cs' hs'

        create-left : is_create e ≡ true → eqb e.kind set_kind ≡ false → Left
        create-left c k =
            let (_, g, d, h) = st.no-set k in
            let (o, a) = st.of-create c in
            rw (bumped, put, placed, made, added, o, g, a, d, h, c)
            (create-leaves sites n m sum held rs os gs ps ns cs hs b p _ (create-stored t b s whole p.few ps ns
            cs r f c) c)

        layer-left : is_create e ≡ false → eqb e.kind set_kind ≡ false → Left
        layer-left c k =
            let (_, g, d, h) = st.no-set k in
            let (o, a) = st.of_layer c k in
            let no-set = no-set-by-kind k in
            rw (bumped, put, placed, made, added, o, g, a, d, h, c)
            (layer-leaves sites n m sum held rs os gs ps ns cs hs b p _ (layer-stored t b s whole p.few ps ns cs
            r f c no-set) c no-set)

        set-left : eqb e.kind set_kind ≡ true → Left
        set-left k =
            let is = set-by-kind k in
            let (g, fits, _) = st.of-set k in
            let (few, o, a, d, h) = fits refl in
            let no-create : is_create e ≡ false = rw (eqb-true e.kind set_kind k) refl in
            rw (bumped, put, placed, made, added, o, g, a, d, h, no-create)
            (rw (set-kind is) at (set-leaves sites n m sum held rs os gs ps ns cs hs b p _ (set-stored t b s whole
            p.few ps ns cs r f is few) r.object
            (f.set is).number is))

        pub stored-left : Left
        stored-left = elim (decide (eqb e.kind set_kind)) [
          | inl k ↦ set-left k
          | inr k ↦ elim (decide (is_create e)) [
            | inl c ↦ create-left c k
            | inr c ↦ layer-left c k
          ]
        ]
