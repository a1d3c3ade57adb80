-- The names that the proofs of this crate cite, passed on from one place. Declares nothing.
pub use Rattle.action_fn.specs.Answers.{Answered, IsAnswered}
pub use Rattle.byte_io.specs.{Causes.ReadsWhole, declared.whole.ReadAllError.TheVariants.TooLong}
pub use Rattle.journal_text.specs.Fits.{AllPartsFit, AreArgs, EntriesFit, EntryFits, HasPlace, HeadFits, IsWritable, JournalFits, ValueFits}
pub use Rattle.journal_text.specs.Handles.{generation, handle_led, kind_letter, kind_lettered, kind_numbered, named_text, object_kinds, slot}
pub use Rattle.journal_text.specs.Heads.{first_texts, has_callers, last_texts, or_else, setting_text, usual_head_settings, version}
pub use Rattle.journal_text.specs.Journals.{FailsAs, ReadsJournalClean, at_end, entry_lines, head_for, in_line, lines_text, no_entries, no_line, with_kept, ◌>>=◌}
pub use Rattle.journal_text.specs.Lines.{entry_texts, has_words, if_spelled, is_seated, op_texts, reply_texts, seat_text, skipped_texts}
pub use Rattle.journal_text.specs.declared.heads.Head.{Head}
pub use Rattle.journal_text.specs.{Ops.finished_of, Ops.or_op, declared.op_words.OpWord.OpWord, declared.values.Status.Status, declared.values.Value.Value}
pub use Rattle.journal_text.specs.{Splits.IsSplit, Splits.OfParts, Splits.begins_journal, declared.reply_words.ReplyWord.ReplyWord, declared.values.Shape.Shape}
pub use Rattle.journal_text.specs.{Values.args_text, Values.end_value, Values.one, Values.status_from, Values.values_words, declared.faults.TextError.TextError}
pub use Rattle.mtapi_machine.specs.{Legal.IsHonest, Legal.NodeEntry, declared.ops.Op.Op, declared.replies.Reply.Reply}
pub use Rattle.mtapi_values.proofs.ValueTables.{kind_finds_each, mrapi_finds_each, mtapi_finds_each}
pub use Rattle.mtapi_values.specs.declared.kinds.Kind.{Kind}
pub use Rattle.mtapi_values.specs.{Attributes.AreNodeSettings, Attributes.NodeSettings, Kinds.kind_word, declared.handles.ObjectKind.TheVariants.Action}
pub use Rattle.mtapi_values.specs.{Layouts.named_kind, Layouts.object_number, declared.handles.Layout.TheVariants.One, declared.handles.Layout.TheVariants.Two}
pub use Rattle.mtapi_values.specs.{Statuses.mrapi_name, Statuses.mtapi_name, declared.ends.TaskEnd.TaskEnd, declared.handles.Layout.Layout}
pub use Rattle.mtapi_values.specs.{declared.handles.ObjectKind.ObjectKind, declared.statuses.MrapiStatus.MrapiStatus, declared.statuses.MtapiStatus.MtapiStatus}
pub use Rattle.node_journals.specs.{Journals.KeptEntries, declared.entries.Journal.Journal}
pub use Rattle.number_text.proofs.{Parsing.own, Reading.bind_some, Writing.list_written, Writing.number_written, Writing.whole_written, Writing.within_written}
pub use Rattle.number_text.proofs.{Pieces.joined, Pieces.led_append, Slices.first_rest, Slices.rest_of}
pub use Rattle.number_text.specs.Lists.{between, led, list_text, pieces_of}
pub use Rattle.std.proofs.Common.{Bool, Err, List, None, Ok, Option, Result, Some, [], ap, append_assoc, arith, cond, drop, drop_of_length-le, eqb, false, get_or, inl, inr, length, length-append, length-take-le, map, negsuc, pos, refl, subst, suc, sym, take, take-append-drop, true, zero, ℕ, ℤ, ◌%◌, ◌&&◌, ◌*◌, ◌++◌, ◌+◌, ◌-◌, ◌/◌, ◌<◌, ◌^◌, ◌∙◌, ◌∷◌, ◌≡◌, ◌≤◌, ◌⊎◌}
pub use Rattle.std.proofs.lemmas.Bool.{and_from, and_parts, cases_Bool, cases_order, eq-eqb, eqb-true, le-leb, leb-true, lt-ltb, ltb-false, ltb-true, ne_eqb, cond_both}
pub use Rattle.std.proofs.lemmas.List.Splits.{join_with_byte-slice_split, slice_split_at, slice_split_none}
pub use Rattle.std.proofs.{Math.Seq.drop-append_seam, Math.Seq.take-append_seam, lemmas.List.Elements.All-from_recursion, lemmas.Slice.Eq.bytes_eq-Decides}
pub use Rattle.std.proofs.{lemmas.Fmt.digits_decimal, lemmas.List.append-nil, lemmas.Option.cond_some}
pub use Rattle.std.specs.List.{AllByRecursion, after_first, before_first, flat_map, join_with_byte, list_all, onto_first, position_or_len}
pub use Rattle.std.specs.Prelude.{FitsSigned, IfOk, IfSome, OnOk, codes, find, nat_le, nat_lt, option_map, unwrap_or}
pub use Rattle.std.specs.{Char.is_ascii_digit, Fmt.decimal, Fmt.signed_decimal, Global.Vec, Int.w64, Io.KnownBytes.IsAtEnd, Str.bytes_eq}
unfoldable pub use Rattle.journal_text.specs.Handles.{handle_named, handle_of_word, handle_text}
unfoldable pub use Rattle.journal_text.specs.Heads.{head_from, head_in, head_of, head_text, number_behind, numbers_behind, settings_from, with_setting}
unfoldable pub use Rattle.journal_text.specs.Journals.{entries_from, journal_from, journal_of, journal_text, line_adds_entry}
unfoldable pub use Rattle.journal_text.specs.Lines.{entry_by, entry_from, entry_of_line, entry_text, op_from, reply_from, seat_of, skipped_from}
unfoldable pub use Rattle.journal_text.specs.Ops.{lock_op, node_op, op_of, op_row, op_spelled, op_word_of, queue_op, segment_op, task_op, work_op}
unfoldable pub use Rattle.journal_text.specs.Replies.{reply_of, reply_row, reply_spelled, reply_word_of}
unfoldable pub use Rattle.journal_text.specs.Values.{args_of, completed_of, end_of_words, failed_of, group_of, mrapi_of}
unfoldable pub use Rattle.journal_text.specs.Values.{mtapi_of, status_of_word, value_of_words, value_words, values_onto, word_value}
unfoldable pub use Rattle.mtapi_values.specs.Kinds.{kind_named}
unfoldable pub use Rattle.number_text.specs.{Lists.list_of, Numbers.number, Numbers.number_within, Numbers.whole_number}
pub use Rattle.number_text.proofs.Pieces.{left_len}
pub use Rattle.number_text.proofs.Names.{named_exact, unnamed_exact}
pub use Rattle.std.proofs.lemmas.List.{length_push}
pub use Rattle.std.proofs.lemmas.Option.{IfSome_then}
