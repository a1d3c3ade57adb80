use Rattle.journal_text.proofs.Names.{number, number_within, whole_number, list_of, kind_named, handle_named, handle_of_word, handle_text, head_from, head_in, head_of, head_text, number_behind, numbers_behind, settings_from, with_setting, entries_from, journal_from, journal_of, journal_text, line_adds_entry, entry_by, entry_from, entry_of_line, entry_text, op_from, reply_from, seat_of, skipped_from, lock_op, node_op, op_of, op_row, op_spelled, op_word_of, queue_op, segment_op, task_op, work_op, reply_of, reply_row, reply_spelled, reply_word_of, args_of, completed_of, end_of_words, failed_of, group_of, mrapi_of, mtapi_of, status_of_word, value_of_words, value_words, values_onto, word_value}
unfoldable use Rattle.std.specs.Fmt.{digits}
unfoldable use Rattle.number_text.specs.Lists.{wholes}
unfoldable use Rattle.action_fn.specs.Answers.{fits, answer_of}
use Rattle.journal_text.proofs.laws.worked_journals.Goals as goal

pub returns : goal.returns
unfolding digits number number_within whole_number wholes list_of kind_named handle_named handle_of_word handle_text head_from head_in head_of head_text
    number_behind
    numbers_behind settings_from with_setting entries_from journal_from journal_of journal_text line_adds_entry entry_by entry_from entry_of_line entry_text
    op_from
    reply_from seat_of skipped_from lock_op node_op op_of op_row op_spelled op_word_of queue_op segment_op task_op work_op reply_of reply_row reply_spelled
    reply_word_of args_of completed_of end_of_words failed_of group_of mrapi_of mtapi_of status_of_word value_of_words value_words values_onto word_value fits
    answer_of
returns c = search
