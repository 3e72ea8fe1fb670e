-- The case of document 02's Req 06, from the records to the printed lists: an engineer who has two versions before him
-- recolours one, and the other keeps its colour. By computing, as `WorkedCases`. Assumes nothing.
use mathlib.Core.Path.{refl}
use mathlib.Core.List.{flat_map}
use Rattle.math_lists.specs.NumbersBelow.{some, all, sum, keep}
use Rattle.math_lists.specs.SortedLists.{any, filter, insert_by, gather_by, insert, gather}
use Rattle.math_maximal.specs.MaximalSets.{with}
use Rattle.math_maximal.specs.Groups.{bit, below, fits, is_maximal, groups}
use Rattle.math_contexts.specs.Box.{disputed}
use Rattle.math_contexts.specs.BoxByArrival.{rel}
use Rattle.math_contexts.specs.NamedVersions.{conflicts_by, has_list, versions_named, contexts_named, names_none}
use Rattle.edit_form.specs.OldForm.{long_from, start_of}
use Rattle.edit_record.specs.RecordBytes.{counts, count_bytes, first_fours, four_bytes, span_of}
use Rattle.edit_record.specs.Answer1.{nonzero_past, list_unfit, unfit}
use Rattle.edit_causal.specs.Conflict.{conflicts_in}
use Rattle.edit_causal.specs.TotalOrder.{vector_sum}
use Rattle.edit_history.specs.EditsHeld.{count_from, creates, sets_on}
use Rattle.edit_history.specs.Answers2to5.{is_repeated, is_early, larger_somewhere, is_torn, is_astray}
use Rattle.edit_history.specs.Answer16.{nameless_among}
use Rattle.edit_sum.specs.SumOfEdits.{words_in, words_over, sum_over}
use Rattle.table_arrival.specs.Answers6and7.{first_of}
use Rattle.group_true.specs.TrueGroups.{groups_of, true_groups}
use Rattle.group_true.specs.Disputed.{is_disputed}
use Rattle.table_given.specs.Replay.{edits_in}
use Rattle.demand_any_order.specs.Settled.{full_over, crowded_over, list_answer}
use Rattle.list_text.specs.Decimal.{last_digits, decimal}
use Rattle.list_text.specs.HeadAndRefusal.{head_line}
use Rattle.list_version.specs.Members.{members_of}
use Rattle.list_version.specs.Identifier.{identifier_of}
use Rattle.list_version.specs.Values.{later, last_after, last_with}
use Rattle.list_version.specs.VersionOrder.{lex, is_ahead, versions_of}
use Rattle.list_line.specs.Line.{identifier_text, setting_text, settings_text, version_line, object_lines}
use Rattle.list_order.specs.Layers.{in_order, last_on, deciding, standing}
use Rattle.list_order.specs.Moves.{layered_order}
use Rattle.demand_list.specs.ListOverEdits.{lines_in, version_lines, lines_over}
use Rattle.demand_list.specs.WorkedCases.{bytes_of, AllHold, story}
use Rattle.demand_list.proofs.ReplayAnswered.{answer_over}
use Rattle.demand_list.proofs.WorkedCases.{AllComputed, all-by-computing, ◌also◌}

computed : AllComputed story
unfolding story bytes_of flat_map count_bytes counts first_fours four_bytes edits_in long_from start_of span_of answer_over
    list_answer first_of unfit nonzero_past list_unfit is_repeated is_early count_from is_torn larger_somewhere is_astray
    nameless_among names_none versions_named has_list disputed below full_over crowded_over some all sum keep any filter
    creates sets_on true_groups groups_of groups is_maximal fits conflicts_in conflicts_by contexts_named rel with
    bit lines_over version_lines lines_in layered_order standing deciding last_on in_order gather_by insert_by gather insert
    vector_sum object_lines versions_of is_ahead lex identifier_of members_of is_disputed version_line identifier_text
    settings_text setting_text last_with last_after later head_line decimal last_digits sum_over words_over words_in
computed =
    (refl, refl, refl, (refl, refl, refl))
    also (refl, refl, refl, (refl, refl, refl))
    also (refl, refl, refl, (refl, refl, refl))
    also (refl, refl, refl, (refl, refl, refl))
    also (refl, refl, refl, (refl, refl, refl))
    also (refl, refl, refl, (refl, refl, refl))
    also tt

pub one-version-recoloured : AllHold story
one-version-recoloured = all-by-computing story computed
