-- The answer to an edit over the list of the edits held, and what is true of a list of edits that is accepted:
-- `Settled` has no order in it but the numbers of the Sets, which `settled-in-any-order` shows not to matter, and
-- `Causal` is all that the order has to keep. n is the number of sites. Assumes nothing.
use Rattle.std.specs.Prelude.{◌≡◌, Bool, true, false, ◌&&◌, ◌||◌, List, [], ◌∷◌, ◌++◌, ℕ, ◌≤◌, ◌<◌, length, get_or, leb, ltb}
use Rattle.math_lists.specs.SortedLists.{Asc, elem}
use Rattle.edit_record.specs.declared.Edit.{Edit}
use Rattle.edit_record.specs.declared.Site.{Site}
use Rattle.edit_record.specs.declared.Seq.{Seq}
use Rattle.edit_record.specs.Layout.{most_sites, two_bytes, create_kind}
use Rattle.edit_record.specs.Answer1.{is_create, is_set, is_limited, is_aimed, unfit, name_of}
use Rattle.edit_causal.specs.Causal.{comes_before}
use Rattle.edit_causal.specs.Conflict.{listed_by, box_on}
use Rattle.edit_causal.specs.ConflictForms.{saw}
use Rattle.edit_history.specs.EditsHeld.{creates, is_set_on, sets_on, is_target, most_records}
use Rattle.edit_history.specs.Answers2to5.{is_repeated, is_early, tears, is_torn, is_astray}
use Rattle.edit_history.specs.Answer16.{is_nameless}
use Rattle.group_step.specs.GroupRows.{most_objects, most_sets, most_groups}
use Rattle.math_contexts.specs.Versions.{AllNamed}
use Rattle.table_arrival.specs.Answers6and7.{first_of, in_turn}
use Rattle.group_true.specs.TrueGroups.{true_groups}
use Rattle.group_true.specs.Identities.{AllDiffer}
use Rattle.math_lists.specs.Rearranged.{Mem}

-- ---- the answer over a list

-- the Create s.q: of it only the identity counts
abbrev pub create_named : Site → Seq → Edit
create_named s q =
    record {
      kind = create_kind;
      site = s;
      seq = q;
      vector = [];
      tsite = record { 0 = 0 };
      key = 0;
      tseq = record { 0 = 0 };
      value = 0;
      count = 0;
      members = [];
    }

-- the one that e names
abbrev pub named : Edit → Edit
named e = create_named e.tsite e.tseq

-- 6 and 7, with the edits themselves for the counters and the definition of the groups for the row
unfoldable pub full_over : List Edit → Edit → Bool
full_over es e =
    leb most_records (length es)
    || is_create e && leb most_objects (length (creates es))
    || is_set e && leb most_sets (length (sets_on e.tsite e.tseq es))

unfoldable pub crowded_over : List Edit → Edit → Bool
crowded_over es e = is_set e && ltb most_groups (length (true_groups (es ++ (e ∷ [])) (named e)))

-- 1 to 7 in turn, with 16 after 5, for an edit that came in a record of the right length
abbrev pub list_reasons : ℕ → List Edit → Edit → List Bool
list_reasons n es e =
    unfit n e
    ∷ is_repeated es e
    ∷ is_early es e
    ∷ is_torn es e
    ∷ is_astray es e
    ∷ is_nameless es e
    ∷ full_over es e
    ∷ crowded_over es e
    ∷ []

unfoldable pub list_answer : ℕ → List Edit → Edit → ℕ
list_answer n es e = first_of in_turn (list_reasons n es e)

-- each edit is answered 0 over those before it
abbrev pub AllAccepted : ℕ → List Edit → Type 0
AllAccepted n es = (xs ys : List Edit) (e : Edit) → es ≡ xs ++ (e ∷ ys) → list_answer n xs e ≡ 0

-- ---- what the order has to keep

-- a may stand before b: b is none that a's author had applied
abbrev pub MayPrecede : Edit → Edit → Type 0
MayPrecede a b = comes_before b a ≡ false

-- no edit stands after one that had seen it
abbrev pub Causal : List Edit → Type 0
Causal es = Asc MayPrecede es

-- ---- what has no order in it

-- every sequence number fits two bytes
abbrev pub SeqsFit : List Edit → Type 0
SeqsFit es = (e : Edit) → Mem e es → e.seq.0 < two_bytes

-- each name that a limited Set lists is that of a Set of its object that it has seen
abbrev pub Known : List Edit → Type 0
Known es =
    (e : Edit) → Mem e es → is_limited e ≡ true → (x : ℕ) → elem x (listed_by e) ≡ true →
    (m : Edit) × Mem m es × (is_set_on e.tsite e.tseq m ≡ true) × (saw e m ≡ true) × (name_of m ≡ x)

-- each limited Set names a version
abbrev pub Named : List Edit → Type 0
Named es = (s : Site) (q : Seq) → AllNamed (box_on (sets_on s q es)) (length (sets_on s q es))

pub record Settled (n : ℕ) (es : List Edit) : Type 0 where
  pub fit : (e : Edit) → Mem e es → unfit n e ≡ false
  pub apart : AllDiffer es
  -- every edit that one has seen is there, so that a site's sequence numbers are 1, 2, .. up to its count
  pub closed :
      (e : Edit) → Mem e es → (s q : ℕ) → s < most_sites → 0 < q → q ≤ get_or e.vector s 0 →
      (a : Edit) × Mem a es × (a.site.0 ≡ s) × (a.seq.0 ≡ q)
  -- no vector is torn
  pub whole : (a e : Edit) → Mem a es → Mem e es → tears e a ≡ false
  -- a Set or a layer edit has seen its Create
  pub aimed : (e : Edit) → Mem e es → is_aimed e ≡ true → (c : Edit) × Mem c es × (is_target e c ≡ true)
  pub numbered : SeqsFit es
  pub known : Known es
  pub versions : Named es
  pub few-records : length es ≤ most_records
  pub few-objects : length (creates es) ≤ most_objects
  pub few-sets : (c : Edit) → Mem c es → is_create c ≡ true → length (sets_on c.site c.seq es) ≤ most_sets
  pub few-groups : (c : Edit) → Mem c es → is_create c ≡ true → length (true_groups es c) ≤ most_groups
