-- P1 to P12 hold: one theorem for the one list of the cases. What stands in the tables is known from the edits held, so
-- the cases are computed over the edits alone. Assumes nothing.
use mathlib.Core.Path.{◌≡◌, refl, sym, ap, ◌∙◌}
use mathlib.Core.Bool.{false}
use mathlib.Core.List.{List, [], ◌∷◌, ◌++◌, map, flat_map}
use Prim.Native.Nat.{ℕ, suc, ◌-◌, ◌^◌, ◌≤◌, ◌<◌}
use native.Mathlib.Omega.{arith}
use lib.Dec.{eqb}
use lib.ListN.{length, length-map, drop}
use Rattle.math_lists.specs.NumbersBelow.{some, all, sum, keep}
use Rattle.math_maximal.specs.MaximalSets.{with}
use Rattle.math_contexts.specs.BoxByArrival.{rel}
use Rattle.math_contexts.specs.NamedVersions.{conflicts_by, contexts_named}
use Rattle.math_lists.specs.SortedLists.{any, filter, insert_by, gather_by, insert, gather}
use Rattle.edit_record.specs.declared.Edit.{Edit}
use Rattle.edit_form.specs.OldForm.{long_form, long_from, start_of, stored_in}
use Rattle.edit_form.proofs.Stretches.{stored-whole}
use Rattle.edit_record.specs.RecordBytes.{counts, count_bytes, first_fours, span_of}
use Rattle.edit_record.specs.Answer1.{nonzero_past, unfit}
use Rattle.edit_causal.specs.Conflict.{conflicts_in}
use Rattle.edit_causal.specs.TotalOrder.{vector_sum}
use Rattle.edit_history.specs.EditsHeld.{count_from, creates, sets_on}
use Rattle.edit_history.specs.Answers2to5.{is_repeated, is_early, larger_somewhere, is_torn, is_astray}
use Rattle.edit_history.specs.Answer16.{nameless_among}
use Rattle.edit_sum.specs.SumOfEdits.{words_in, words_over, sum_over}
use Rattle.math_maximal.specs.Groups.{bit, fits, is_maximal, groups}
use Rattle.table_arrival.specs.Answers6and7.{first_of}
use Rattle.group_true.specs.TrueGroups.{groups_of, true_groups}
use Rattle.group_true.specs.Disputed.{is_disputed}
use Rattle.table_given.specs.Replay.{replay_of, edits_in}
use Rattle.demand_any_order.specs.Settled.{full_over, crowded_over, list_answer}
use Rattle.list_text.specs.Decimal.{last_digits, decimal}
use Rattle.list_text.specs.Pieces.{newline, sites_word, objects_word, versions_word, sum_word, word_digits}
use Rattle.list_text.specs.HeadAndRefusal.{head_line}
use Rattle.list_text.proofs.OneDecimal.{all_digits}
use Rattle.list_version.specs.Members.{members_of}
use Rattle.list_version.specs.Identifier.{identifier_of}
use Rattle.list_version.specs.Values.{later, last_after, last_with}
use Rattle.list_version.specs.VersionOrder.{lex, is_ahead, versions_of}
use Rattle.list_line.specs.Line.{identifier_text, setting_text, settings_text, version_line, object_lines}
use Rattle.list_order.specs.Layers.{in_order, last_on, deciding, standing}
use Rattle.list_order.specs.Moves.{layered_order}
use Rattle.demand_list.specs.ListOverEdits.{lines_in, version_lines, lines_over}
use Rattle.demand_list.specs.WorkedCases.{Expected, refused, prints, Case, bytes_of, sites, record_bytes, Meets}
use Rattle.demand_list.specs.WorkedCases.{CaseHolds, AllHold, cases}
use Rattle.demand_list.proofs.ReplayAnswered.{answer_over, index-next, answered, printed}

-- ---- what is computed of a case

-- line 0, with the digits of the sum
abbrev head_with : ℕ → ℕ → List ℕ → List ℕ
head_with objects versions sum =
    sites_word ++ decimal sites
    ++ objects_word ++ decimal objects
    ++ versions_word ++ decimal versions
    ++ sum_word ++ sum
    ++ (newline ∷ [])

head-with :
    (objects versions : ℕ) (es : List Edit) →
    head_line sites objects versions (sum_over es) ≡ head_with objects versions (last_digits word_digits (sum_over es))
unfolding head_line
head-with objects versions es =
    let few : sum_over es < 10 ^ word_digits = unfold sum_over in omega arith in
    ap (head_with objects versions) (all_digits word_digits (sum_over es) (omega arith) few)

-- the edits that its records give; and what they are answered and print: the lines of the versions are computed once,
-- and line 0 from their number
abbrev pub Gives : List Edit → ℕ → Expected → Type 0
Gives es k (refused a) = (answer_over sites es k ≡ 0) × (answer_over sites es (suc k) ≡ a) × (eqb a 0 ≡ false)
Gives es k (prints []) = ⊥
Gives es k (prints (l ∷ ls)) =
    (answer_over sites es (suc k) ≡ 0)
    × (version_lines es ≡ map bytes_of ls)
    × (head_with (length (creates es)) (length ls) (last_digits word_digits (sum_over es)) ≡ bytes_of l)

abbrev pub Computed : Case → Type 0
Computed c =
    let es = c.arrivals in
    (length es ≡ suc (length es - 1))
    × (start_of long_form (record_bytes es) (length es) ≡ length (record_bytes es))
    × (edits_in (stored_in long_form (record_bytes es)) (length es) ≡ es)
    × Gives es (length es - 1) c.expected

abbrev pub AllComputed : List Case → Type 0
AllComputed [] = Unit {0}
AllComputed (c ∷ cs) = Computed c × AllComputed cs

by-computing : (c : Case) → Computed c → CaseHolds c
by-computing c (some-edit, long, are, gives) = go c.expected gives
  where
    es : List Edit
    es = c.arrivals

    rs : ℕ → List ℕ
    rs = stored_in long_form (record_bytes es)

    records-whole : (k : ℕ) → k < length es → length (rs k) ≡ span_of (rs k)
    records-whole k l =
        stored-whole long_form (record_bytes es) (length es) (omega (arith, long)) k l

    n : ℕ
    n = length es

    k : ℕ
    k = n - 1

    answer : (i : ℕ) → i ≤ n → (replay_of sites rs i).answer ≡ answer_over sites es i
    answer = answered sites (omega arith) (omega arith) rs n records-whole es are

    to_last : {A : Type 0} (f : ℕ → A) → f n ≡ f (suc k)
    to_last f = ap f some-edit

    go : (x : Expected) → Gives es k x → Meets (replay_of sites rs n) n x
    go (refused a) (before, last, some-answer) =
        let z : (replay_of sites rs k).answer ≡ 0 = answer k (omega arith) ∙ before in
        let all : (replay_of sites rs n).answer ≡ a
        = answer n (omega arith) ∙ to_last (answer_over sites es) ∙ last in
        let one_more_lem : (replay_of sites rs (suc k)).answer ≡ a = sym (to_last (λ i. (replay_of sites rs i).answer)) ∙ all in
        let place : (replay_of sites rs n).index ≡ k
        = to_last (λ i. (replay_of sites rs i).index)
        ∙ index-next sites rs k z (ap (λ (i : ℕ). eqb i 0) one_more_lem ∙ some-answer) in
        (all, omega arith)
    go (prints []) none = absurd none
    go (prints (l ∷ ls)) (last, lines, head) =
        let all : (replay_of sites rs n).answer ≡ 0
        = answer n (omega arith) ∙ to_last (answer_over sites es) ∙ last in
        let whole : lines_over sites es ≡ bytes_of l ∷ map bytes_of ls
        = unfold lines_over in
        ap (λ (vs : List (List ℕ)). head_line sites (length (creates es)) (length vs) (sum_over es) ∷ vs) lines
        ∙ ap (λ (h : List ℕ). h ∷ map bytes_of ls)
        (ap (λ (v : ℕ). head_line sites (length (creates es)) v (sum_over es)) (length-map ls bytes_of)
        ∙ head-with (length (creates es)) (length ls) es ∙ head) in
        (all, printed sites (omega arith) (omega arith) rs n records-whole es are all ∙ whole)

pub all-by-computing : (cs : List Case) → AllComputed cs → AllHold cs
all-by-computing [] h = tt
all-by-computing (c ∷ cs) (h, hs) = (by-computing c h, all-by-computing cs hs)

-- ---- the cases

infixr 20 ◌also◌
abbrev pub ◌also◌ : {A B : Type 0} → A → B → A × B
◌also◌ a b = (a, b)

-- P10 to P12, and the example of 'The printed list'
computed-last : AllComputed (drop 14 cases)
unfolding cases bytes_of flat_map count_bytes counts first_fours edits_in long_from start_of span_of answer_over list_answer
    first_of unfit nonzero_past is_repeated is_early count_from is_torn larger_somewhere is_astray nameless_among full_over
    crowded_over some all sum keep any filter creates sets_on true_groups groups_of groups is_maximal fits conflicts_in
    conflicts_by contexts_named rel with bit lines_over version_lines lines_in layered_order
    standing deciding last_on in_order gather_by insert_by gather insert vector_sum object_lines versions_of is_ahead lex
    identifier_of members_of is_disputed version_line identifier_text settings_text setting_text last_with last_after later
    head_line decimal last_digits sum_over words_over words_in
computed-last =
    (refl, refl, refl, (refl, refl, refl))
    also (refl, refl, refl, (refl, refl, refl))
    also (refl, refl, refl, (refl, refl, refl))
    also (refl, refl, refl, (refl, refl, refl))
    also tt

-- P8 and P9
computed-later : AllComputed (drop 12 cases)
unfolding cases bytes_of flat_map count_bytes counts first_fours edits_in long_from start_of span_of answer_over list_answer
    first_of unfit nonzero_past is_repeated is_early count_from is_torn larger_somewhere is_astray nameless_among full_over
    crowded_over some all sum keep any filter creates sets_on true_groups groups_of groups is_maximal fits conflicts_in
    conflicts_by contexts_named rel with bit lines_over version_lines lines_in layered_order
    standing deciding last_on in_order gather_by insert_by gather insert vector_sum object_lines versions_of is_ahead lex
    identifier_of members_of is_disputed version_line identifier_text settings_text setting_text last_with last_after later
    head_line decimal last_digits sum_over words_over words_in
computed-later =
    (refl, refl, refl, (refl, refl, refl))
    also (refl, refl, refl, (refl, refl, refl))
    also computed-last

-- P7 in all six orders
computed-seventh : AllComputed (drop 6 cases)
unfolding cases bytes_of flat_map count_bytes counts first_fours edits_in long_from start_of span_of answer_over list_answer
    first_of unfit nonzero_past is_repeated is_early count_from is_torn larger_somewhere is_astray nameless_among full_over
    crowded_over some all sum keep any filter creates sets_on true_groups groups_of groups is_maximal fits conflicts_in
    conflicts_by contexts_named rel with bit lines_over version_lines lines_in layered_order
    standing deciding last_on in_order gather_by insert_by gather insert vector_sum object_lines versions_of is_ahead lex
    identifier_of members_of is_disputed version_line identifier_text settings_text setting_text last_with last_after later
    head_line decimal last_digits sum_over words_over words_in
computed-seventh =
    (refl, refl, refl, (refl, refl, refl))
    also (refl, refl, refl, (refl, refl, refl))
    also (refl, refl, refl, (refl, refl, refl))
    also (refl, refl, refl, (refl, refl, refl))
    also (refl, refl, refl, (refl, refl, refl))
    also (refl, refl, refl, (refl, refl, refl))
    also computed-later

-- P1 to P6
computed : AllComputed cases
unfolding cases bytes_of flat_map count_bytes counts first_fours edits_in long_from start_of span_of answer_over list_answer
    first_of unfit nonzero_past is_repeated is_early count_from is_torn larger_somewhere is_astray nameless_among full_over
    crowded_over some all sum keep any filter creates sets_on true_groups groups_of groups is_maximal fits conflicts_in
    conflicts_by contexts_named rel with bit lines_over version_lines lines_in layered_order
    standing deciding last_on in_order gather_by insert_by gather insert vector_sum object_lines versions_of is_ahead lex
    identifier_of members_of is_disputed version_line identifier_text settings_text setting_text last_with last_after later
    head_line decimal last_digits sum_over words_over words_in
computed =
    (refl, refl, refl, (refl, refl, refl))
    also (refl, refl, refl, (refl, refl, refl))
    also (refl, refl, refl, (refl, refl, refl))
    also (refl, refl, refl, (refl, refl, refl))
    also (refl, refl, refl, (refl, refl, refl))
    also (refl, refl, refl, (refl, refl, refl))
    also computed-seventh

pub worked-cases : AllHold cases
worked-cases = all-by-computing cases computed
