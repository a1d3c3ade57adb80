-- The names that the proofs of this crate cite, passed on from one place. Declares nothing.
pub use Rattle.action_fn.specs.Answers.{is_pure}
pub use Rattle.handle_pool.specs.Issued.{Listed, any_listed, any_live, count_listed, gone, how_many, live_object, lookup, with_fields}
pub use Rattle.handle_pool.specs.Slots.{generation_of}
pub use Rattle.history.specs.Histories.{entries_of, entry}
pub use Rattle.history_law.proofs.Quiet.{IsCalm, calm_along, calm_next, calm_opening, none_impure, none_withdrawn, quiet_tasks_end_plainly}
pub use Rattle.history_law.proofs.lists.Every.{Every, always, every_at, every_change, every_issue, every_map}
pub use Rattle.history_law.proofs.lists.Found.{FoundAs, at_head, at_here, at_past, at_skip, found_changed, found_issued}
pub use Rattle.history_law.proofs.lists.Objects.{HasObject, StartedAs, cut_after, cut_from, has_behind, has_new, started_as, task_then}
pub use Rattle.history_law.proofs.{Accepted.accepted_end, Accepted.front_stays, SeatMoves.May, SeatMoves.by_made_moves}
pub use Rattle.history_law.proofs.{Ages.AgesEach, Ages.SameFields, Ages.SameTask, Ages.Under, Ages.kind_move, Ages.live_listed, Ages.same_task, Bounds.by_seats}
pub use Rattle.history_law.proofs.{Answered.none_first, Answered.none_some, Answered.second_false, Answered.true_false, Answered.whether, Behind.enter_behind}
pub use Rattle.history_law.proofs.{Moves.once_from, Reuse.fresh_apart, Reuse.fresh_unlisted, Reuse.issues_fresh, Reuse.listed_move, lists.KindNumbers.same_kind}
pub use Rattle.history_law.proofs.{OnceIssued.listed_next, Ordered.end_found, Unmoved.live_stays, lists.Handles.OnceIn, lists.Handles.once_rest}
pub use Rattle.history_law.proofs.{Others.terms_stay, Sorts.sort_move}
pub use Rattle.history_law.proofs.{RowReplies.OfEachReply, RowReplies.said, RowReplies.says_only, lists.AtHandles.at_issue_here, lists.AtHandles.at_issue_other}
pub use Rattle.history_law.specs.Seats.{BySeats, NoClose, closes, is_release_op, is_released}
pub use Rattle.history_law.specs.Words.{entries_that, is_this_handle as is_that_handle, issues, makes_object, some_entry, times}
pub use Rattle.history_law.specs.{Accepted.EndsOnce, Accepted.accepted, Accepted.accepted_by, Quiet.AreQuiet, Quiet.IsPlainEnd, Quiet.is_quiet}
pub use Rattle.mtapi_machine.proofs.Made.{AllGives, both_true, fst_true, given, not_false, not_true, on_live, on_only, snd_true}
pub use Rattle.mtapi_machine.proofs.{Changes.some_same, Lists.Legal-front, Lists.Legal-prefix, Lists.Legal-rest, Moves.by_moves, Moves.sorts_keep}
pub use Rattle.mtapi_machine.specs.Laws.{AltersObject, DeletesGroup, EnablesAction, FreesMembers, IsMade, MakesAction, NotesTask, RemovesObject, StartsTask, TakesEnded, all_live, is_status, makes_of_sort, turns}
pub use Rattle.mtapi_machine.specs.Moves.{Groups, Move, Queues, after_moves, alters, apply, enables, ends_task, ends_waiting, frees_members, is_fresh, is_served, leaves, lets_members_go, makes, makes_action, notes, phase_is, released, removes, runs_task, starts_task, withdraws}
pub use Rattle.mtapi_machine.specs.Row.{Allows, Row, after_row, gives, handle_of, live, moves_of, never, only, unless}
pub use Rattle.mtapi_machine.specs.State.{FieldsOf, State, groups, is_open, is_up, objects_of, opening, queues, tasks, workers}
pub use Rattle.mtapi_machine.specs.TaskRows.{asked_for, asked_of, is_detached_member, looks_at as looks_row, number_of}
pub use Rattle.mtapi_machine.specs.declared.replies.Reply.TheVariants.{Handle, Mtapi, Ok}
pub use Rattle.mtapi_machine.specs.declared.terms.Phase.TheVariants.{Closed, Closing, New, Open}
pub use Rattle.mtapi_machine.specs.{Ends.end_in, Kept.is_pending}
pub use Rattle.mtapi_machine.specs.{GroupRows.verdict, Rows.row, WorkRows.task_end, declared.ops.Op.Op, declared.terms.Phase.Phase, declared.terms.Terms.Terms}
pub use Rattle.mtapi_machine.specs.{Legal.IsNext, Legal.Legal, Legal.NodeEntry, Legal.after, Legal.next, QueueRows.new_queue, declared.replies.Reply.Reply}
pub use Rattle.mtapi_objects.specs.Actions.{Action, has_enabled_job, has_job, is_eligible, is_job, new_action, some_below, with_enabled}
pub use Rattle.mtapi_objects.specs.Groups.{Ending, Group, fault_of, first_fault, freed, insert, insert_ended, is_member, is_unended_member, let_go, new_group}
pub use Rattle.mtapi_objects.specs.Queues.{Queue, is_in, is_unended_in}
pub use Rattle.mtapi_objects.specs.Tasks.{Ended, NewTask, Notes, Running, Task, TaskState, end_of, ended, is_unended, is_unstarted, kind_number, new_task, with_notes, with_state, with_waiter}
pub use Rattle.mtapi_values.specs.{Attributes.NodeSettings, Masks.in_mask, Seats.is_other}
pub use Rattle.mtapi_values.specs.{Conditions.holds, Statuses.mtapi_all, Statuses.mtapi_name, Statuses.mtapi_number, declared.statuses.MtapiStatus.MtapiStatus}
pub use Rattle.mtapi_values.specs.{declared.ends.TaskEnd.TaskEnd, declared.handles.Layout.Layout, declared.kinds.Kind.Kind, declared.masks.Mask.Mask}
pub use Rattle.mtapi_values.specs.{declared.ends.TaskEnd.TheVariants.Failed, declared.handles.GroupHandle.GroupHandle, declared.handles.QueueHandle.QueueHandle}
pub use Rattle.mtapi_values.specs.{declared.handles.ObjectKind.ObjectKind, declared.handles.TaskHandle.TaskHandle, declared.timeouts.Timeout.Timeout}
pub use Rattle.run_report.proofs.RunReplies.{reads_the_run}
pub use Rattle.run_report.specs.Calls.{call_line, call_lines, is_task, marked_line, status_shown, task_line, task_lines}
pub use Rattle.run_report.specs.{Replies.Told, Replies.all_told, declared.totals.Totals.Totals}
pub use Rattle.run_report.specs.{Report.parts_told, Report.run_terms, Summary.no_totals, Summary.with_end, Summary.with_task_total as with_counted, Tasks.ended_text}
pub use Rattle.workload_runs.specs.Calls.{Call, Looking, Once, call_of, group_at, handle_at}
pub use Rattle.workload_runs.specs.Lines.{Line, LookedLines, MadeLines, before_it, head_lines, in_lines, line_with, tail_of_main}
pub use Rattle.workload_runs.specs.{Parts.CallerRan, Parts.MainRan, Parts.PartsRan, RunOf.RunOf, RunOf.WorkerRan, RunOf.is_work}
pub use Rattle.settled_runs.specs.Granted.{Asks, CallsAreGranted, GroupIsMade, HasAction, HasObjectRoom, IsGranted, IsOpened, IsQueued, IsJobServed, IsThere, MadeObject as MadeBy, MadeObjectsStay, QuietCallsAreGranted, is_any_handle, makes_one, makes_queue, puts, did_put_into as puts_entry}
pub use Rattle.settled_runs.specs.Plain.{Faults, action_in, actions_in, all_statements, no_faults, plain_call_lines, plain_task_line, plain_task_lines, queue_at, queue_in, with_group_fault, with_task_asked}
pub use Rattle.settled_runs.specs.PlainReplies.{IsPlainTask, PlainRepliesShowPlainReport}
pub use Rattle.settled_runs.specs.RunGranted.{AllGranted, GrantedTo, PartsGranted, SettledRun, SettledStatementsAreGranted}
pub use Rattle.settled_runs.specs.RunReplies.{PartsReplyPlainly, SettledRepliesArePlain}
pub use Rattle.settled_runs.specs.RunReport.{SettledReportsAreAlike, SettledReportsArePlain}
pub use Rattle.settled_runs.specs.Settled.{are_settled_parts, both, fault_in, has_new_id, has_one_fault_a_group, has_room, is_alone, is_infinite, is_settled_further, is_settled_part, is_startable, is_action_deed as makes_one_action, makes_group, makes_task, deed_puts_into, serves, set_up, sets_up, waits_for}
pub use Rattle.settled_runs.specs.Verdicts.{GoOn, IsGroupVerdict, QuietVerdicts, fault_at, goes_on, looks_at_all, members_behind, starts_member, with_new}
pub use Rattle.settled_runs.specs.{PlainSummary.SettledSummariesArePlain, PlainSummary.with_plain_task, RunEnds.SettledTasksEndAsPlanned}
pub use Rattle.settled_runs.specs.{Waits.AreLeft, Waits.QuietLooksAreAnswered, Waits.is_look_at, Waits.starts_alone, Worked.WorkedSettled, Worked.WorkedUnsettled}
pub use Rattle.std.proofs.Common.{Bool, List, None, Option, Some, [], ap, append_assoc, arith, cond, false, inl, inr, length, refl, rules, subst, suc, sym, true, zero, ℕ, ℤ, ◌++◌, ◌+◌, ◌<◌, ◌∙◌, ◌∷◌, ◌≡◌, ◌≤◌, ◌⊎◌}
pub use Rattle.std.proofs.lemmas.Bool.{and_parts, and_right, cases_Bool, cases_eq, cases_order, cond-false, cond-true, cond_both, eq-eqb, eqb-true, false_from_ne_true, le-leb, leb-true, ltb-true, or_cases, or_from, or_left, or_parts, or_right}
pub use Rattle.std.proofs.lemmas.List.{append-nil, get_or_append_left, get_or_at, length-append, length-map, length_push, map-append, map_push}
pub use Rattle.std.proofs.{lemmas.Bool.Decides.nat_tests, lemmas.List.Folds.list_any-append, lemmas.Option.slice_get_cases}
pub use Rattle.std.specs.Cmp.{both_ways}
pub use Rattle.std.specs.Prelude.{IfSome, is_none, is_some, map, nat_le, nat_lt, not, option_and_then, slice_get, ◌&&◌, ◌==◌, ◌||◌}
pub use Rattle.std.specs.{List.AllByRecursion as Each, List.find, List.flat_map, List.list_all, List.list_any, Option.option_map, Option.option_or}
pub use Rattle.workload_file.specs.Formed.{AllFit, AreStatements, IsBoundAt, IsFurther, IsPart, IsStatement, MainFirst, begins}
pub use Rattle.workload_file.specs.{Deeds.place_used, Deeds.values, Deeds.word_for, declared.workload.Statement.Statement, declared.workload.Workload.Workload}
pub use Rattle.workload_file.specs.{Reading.name_text, Table.fields, declared.table.Sort.Sort, declared.workload.Deed.Deed, declared.workload.Part.Part}
unfoldable pub use Rattle.action_fn.specs.Answers.{answer_of, fits}
unfoldable pub use Rattle.handle_pool.specs.Issued.{change, change_all, is_full, issue, issued_at, listed, live_of, may_issue, retired}
unfoldable pub use Rattle.history_law.specs.Quiet.{task_at}
unfoldable pub use Rattle.mtapi_machine.specs.Ends.{end_at}
unfoldable pub use Rattle.mtapi_machine.specs.{Legal.LegalFrom, Legal.after_from, WorkRows.can_take, WorkRows.has_better, WorkRows.is_ready, Worked.one_task}
unfoldable pub use Rattle.mtapi_objects.specs.{Actions.has_worker, Groups.endings, Tasks.end_each}
unfoldable pub use Rattle.run_report.specs.Report.{report}
unfoldable pub use Rattle.run_report.specs.{Calls.call_lines_of, Calls.shown_of, Calls.task_lines_of, Calls.task_name, Tasks.end_text, Tasks.numbers_text}
unfoldable pub use Rattle.run_report.specs.{Replies.decided, Replies.further_told, Summary.totals, Summary.totals_text, Summary.with_parts, Summary.with_tasks}
unfoldable pub use Rattle.workload_runs.specs.{Lines.lines_of, Parts.CallersRan, Parts.Carried, Parts.has_begin, RunOf.all_work}
unfoldable pub use Rattle.settled_runs.specs.Plain.{faults_behind, plain_call_line, plain_calls_from, plain_end, plain_fault, plain_report, task_in}
unfoldable pub use Rattle.settled_runs.specs.PlainReplies.{ArePlain, IsPlainReply, PartsArePlain}
unfoldable pub use Rattle.settled_runs.specs.Settled.{
  are_settled,
  has_different_ids,
  has_one_kind_a_job,
  have_one_fault_a_group,
  is_settled,
  is_settled_deed,
  keep_limits,
  sets_up_first,
}
unfoldable pub use Rattle.settled_runs.specs.{PlainSummary.plain_summary, PlainSummary.with_plain_parts, PlainSummary.with_plain_tasks, Verdicts.members_of}
unfoldable pub use Rattle.std.specs.Fmt.{digits}
unfoldable pub use Rattle.workload_file.specs.{Deeds.binds, Deeds.deed_spelled, Deeds.is_begin, Table.statement_row as word_row}
