use Rattle.workload_file.proofs.Cited.{line_gives, change_with, settings_by, value_absent, value_given, with_node_setting, kind_named, words_of, args_in, cores_in, deed_with, flag_in, is_begin, kind_in, lock_deed, mode_in, number_given, place_in, place_there, queue_deed, segment_deed, timeout_in, whole_in, is_faulty, is_misplaced, is_ninth_caller, is_taken, place_of, has_twice, text_of, empty_reading, key_text, statement_row, word_of, cores_of, flag_of, is_name, mode_of, number_in_32, number_from_to, timeout_of}
unfoldable use Rattle.number_text.specs.Numbers.{number as wide_number, number_within as wide_within, whole_number}
unfoldable use Rattle.number_text.specs.Lists.{wholes, list_of}
unfoldable use Rattle.number_text.specs.Cores.{bits_from}
unfoldable use Rattle.workload_file.specs.Deeds.{binds}
use Rattle.workload_file.proofs.laws.worked_lines.Goals as goal

pub returns : goal.returns
unfolding line_gives change_with settings_by value_absent value_given with_node_setting kind_named words_of args_in cores_in deed_with flag_in is_begin kind_in
    lock_deed mode_in number_given place_in place_there queue_deed segment_deed timeout_in whole_in is_faulty is_misplaced is_ninth_caller is_taken place_of
    has_twice text_of empty_reading key_text statement_row word_of cores_of flag_of is_name mode_of number_in_32 number_from_to timeout_of wide_number
    wide_within whole_number wholes list_of
    bits_from binds
returns c = search
