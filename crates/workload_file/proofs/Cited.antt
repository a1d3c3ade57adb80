-- The names that the proofs of this crate cite of lower crates and of its own specs/, passed on from one place. Declares nothing.
pub use Rattle.std.proofs.Common.{All, Bool, Err, List, None, Ok, Option, Result, Some, [], ap, append_assoc, arith, cond, drop, eqb, false, get_or, inl, inr, length, length-append, map, not, pow-add, pow_mono, pow_pos, refl, replicate, subst, suc, sym, take, true, zero, ℕ, ℤ, ◌&&◌, ◌*◌, ◌++◌, ◌+◌, ◌-◌, ◌<◌, ◌^◌, ◌||◌, ◌∙◌, ◌∷◌, ◌≡◌, ◌≤◌, ◌⊎◌}
pub use Rattle.byte_io.specs.Causes.{ReadsWhole}
pub use Rattle.byte_io.specs.declared.whole.ReadAllError.TheVariants.{TooLong}
pub use Rattle.mtapi_values.specs.Attributes.{NodeSettings}
pub use Rattle.mtapi_values.specs.Kinds.{kind_all, kind_word}
pub use Rattle.mtapi_values.specs.declared.kinds.Kind.{Kind}
pub use Rattle.mtapi_values.specs.declared.lists.Args.{Args}
pub use Rattle.mtapi_values.specs.declared.masks.Mask.{Mask}
pub use Rattle.mtapi_values.specs.declared.timeouts.Timeout.{Timeout}
pub use Rattle.number_text.proofs.Parsing.{some_cond}
pub use Rattle.number_text.proofs.Pieces.{after_len, between_joined, joined, led_append, left_len}
pub use Rattle.number_text.proofs.Slices.{first_rest, on_ok, rest_of}
pub use Rattle.number_text.proofs.Reading.{bind_some, cores_fit, list_fits, whole_fits}
pub use Rattle.number_text.proofs.Spelling.{cores_spelled, list_spelled, number_spelled, whole_spelled}
pub use Rattle.number_text.specs.Cores.{cores_text}
pub use Rattle.number_text.specs.Lists.{between, led, list_of, pieces_of}
pub use Rattle.number_text.specs.Numbers.{whole_number}
pub use Rattle.std.proofs.Math.ListN.{drop_of_length-le}
pub use Rattle.std.proofs.lemmas.Bool.{and_from, and_parts, cases_Bool, cases_eq, eq-eqb, eqb-true, le-leb, le-ltb, leb-false, leb-true, lt-ltb, ltb-false, ltb-true, ne_eqb, not-false, not-true, or_cases, or_from, or_left, or_parts, or_right}
pub use Rattle.std.proofs.lemmas.List.{length-replicate, append-nil, length-map, length_push, map-append, replicate_more, take_all, take_more}
pub use Rattle.std.proofs.lemmas.List.Elements.{filter-append, All-from_recursion}
pub use Rattle.std.proofs.lemmas.List.Folds.{position_or_len_push}
pub use Rattle.std.proofs.lemmas.List.Quantifiers.{position-Some}
pub use Rattle.std.proofs.lemmas.List.Splits.{join_with_byte-slice_split, length-slice_split, slice_split_at, slice_split_none}
pub use Rattle.std.proofs.lemmas.List.Sums.{passes_at_first, split_at_first}
pub use Rattle.std.proofs.lemmas.Option.{slice_get-map}
pub use Rattle.std.proofs.lemmas.Result.{err_from_is_err_and}
pub use Rattle.std.proofs.lemmas.Slice.Eq.{bytes_eq-Decides}
pub use Rattle.std.specs.Fmt.{decimal}
pub use Rattle.std.specs.Global.{Vec}
pub use Rattle.std.specs.Io.KnownBytes.{IsAtEnd}
pub use Rattle.std.specs.List.{AllByRecursion, find, flat_map, join_with_byte, list_all, list_any, onto_first, position_or_len}
pub use Rattle.std.specs.Option.{option_map}
pub use Rattle.std.specs.Prelude.{IfSome, OnOk, codes, filter, is_some, nat_le, nat_lt, option_and_then, slice_get}
pub use Rattle.std.specs.Str.{bytes_eq}
pub use Rattle.workload_file.specs.Alike.{AddsAlike, AddsNothing, AreStill, DifferAt, GivesStill, IsInserted, IsPlain, IsSwapped, IsWrittenOut, has_equals, still, still_part}
pub use Rattle.workload_file.specs.Changes.{bound_name, change_of, is_bad, is_missing, names_nothing, or_bad, or_unbound, number_or_zero, usual_settings, option_value_at, values_in}
pub use Rattle.workload_file.specs.Deeds.{Spelled, setting_values, used_place, used_with, values, word_for}
pub use Rattle.workload_file.specs.Faulty.{first_met, is_comment, is_printable, is_statement, statement_causes, word_causes, words_meet}
pub use Rattle.workload_file.specs.Formed.{AllFit, AreStatements, FitsShape, HaveDifferentNames, IsBoundAt, IsFurther, IsMain, IsNew, IsPart, IsStatement, IsTimeout, MainFirst, Rise, WellFormed, begins, has_name, line_if_any, part_lines, statement_lines}
pub use Rattle.workload_file.specs.Indexed.{IsReader, first_of_two}
pub use Rattle.workload_file.specs.Led.{last_line}
pub use Rattle.workload_file.specs.Loading.{ReadsClean}
pub use Rattle.workload_file.specs.Names.{bound_at, has_second, is_binding, is_called, is_unbound, name_in, options_in, use_in}
pub use Rattle.workload_file.specs.Options.{key_of, field_of, gives_option, is_known, value_of}
pub use Rattle.workload_file.specs.Reading.{Fails, IsFirstFault, at_line, finished, name_text, refused_for, unless, words_say, ◌>>=◌}
pub use Rattle.workload_file.specs.Table.{fields, naming, word_text, words}
pub use Rattle.workload_file.specs.Texts.{texts_of_words}
pub use Rattle.workload_file.specs.Values.{begins_with_letter, is_letter, is_name_byte}
pub use Rattle.workload_file.specs.Written.{TextLine, bound_words, caller_text, canonical, if_any, is_usual, line_text, workload_lines, lines_of_part, name_at, name_of, node_text, option_words, statement_text, used_words}
pub use Rattle.workload_file.specs.declared.faults.Cause.{Cause}
pub use Rattle.workload_file.specs.declared.faults.Fault.{Fault}
pub use Rattle.workload_file.specs.declared.faults.LineError.{LineError}
pub use Rattle.workload_file.specs.declared.reading.LineEffect.{LineEffect}
pub use Rattle.workload_file.specs.declared.reading.Reading.{Reading}
pub use Rattle.workload_file.specs.declared.table.Absent.{Absent}
pub use Rattle.workload_file.specs.declared.table.Field.{Field}
pub use Rattle.workload_file.specs.declared.table.Key.{Key}
pub use Rattle.workload_file.specs.declared.table.Naming.{Naming}
pub use Rattle.workload_file.specs.declared.table.OptionShape.{OptionShape}
pub use Rattle.workload_file.specs.declared.table.Sort.{Sort}
pub use Rattle.workload_file.specs.declared.table.Word.{Word}
pub use Rattle.workload_file.specs.declared.values.OptionValue.{OptionValue}
pub use Rattle.workload_file.specs.declared.workload.Deed.{Deed}
pub use Rattle.workload_file.specs.declared.workload.Part.{Part}
pub use Rattle.workload_file.specs.declared.workload.Statement.{Statement}
pub use Rattle.workload_file.specs.declared.workload.Workload.{Workload}
pub use denote.Ref.{Bor}
unfoldable pub use Rattle.mtapi_values.specs.Kinds.{kind_named}
unfoldable pub use Rattle.number_text.proofs.Pieces.{Lacks}
unfoldable pub use Rattle.workload_file.specs.Changes.{change_with, settings_by, value_absent, value_given, with_node_setting}
unfoldable pub use Rattle.workload_file.specs.Cuts.{words_of}
unfoldable pub use Rattle.workload_file.specs.Deeds.{args_in, cores_in, deed_spelled, deed_with, flag_in, is_begin, kind_in, lock_deed}
unfoldable pub use Rattle.workload_file.specs.Deeds.{mode_in, number_given, place_in, place_there, queue_deed, segment_deed, timeout_in, whole_in}
unfoldable pub use Rattle.workload_file.specs.Faulty.{is_faulty}
unfoldable pub use Rattle.workload_file.specs.Names.{is_misplaced, is_ninth_caller, is_taken, place_of}
unfoldable pub use Rattle.workload_file.specs.Options.{has_twice, text_of}
unfoldable pub use Rattle.workload_file.specs.Reading.{line_adds, line_gives, lines_add, empty_reading, with_change, workload_of}
unfoldable pub use Rattle.workload_file.specs.Table.{key_text, statement_row, word_of}
unfoldable pub use Rattle.workload_file.specs.Values.{cores_of, flag_of, is_name, mode_of, number_in_32, number_from_to, timeout_of}
unfoldable pub use Rattle.workload_file.specs.Written.{is_default, laid_out, options_words, statement_lines_behind, timeout_text, value_text}
