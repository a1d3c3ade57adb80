-- The names that the proofs of this crate cite of lower crates and of its own specs/, passed on from one place. Declares nothing.
pub use Rattle.std.proofs.Common.{Bool, List, None, Option, Some, [], ap, arith, cond, false, inl, inr, refl, subst, suc, sym, true, zero, ℕ, ◌++◌, ◌+◌, ◌<◌, ◌∙◌, ◌∷◌, ◌≡◌, ◌≢◌, ◌≤◌, ◌⊎◌}
pub use Rattle.handle_pool.proofs.ListedLemmas.{listed-issue}
pub use Rattle.std.proofs.Math.Bool.{and-false}
pub use Rattle.std.proofs.Math.IntN.{+ℤ_assoc, +ℤ_comm, +ℤ_idl}
pub use Rattle.std.proofs.lemmas.Bool.{and_left, cond_both, eq-eqb, eqb-true, false_from_ne_true, lt-ltb, true_from_ne_false}
pub use Rattle.std.proofs.lemmas.Bool.Decides.{Decides-int_eq, nat_tests}
pub use Rattle.std.proofs.lemmas.List.{append-nil, append_assoc, get_or-set_other, get_or-set_same, length-set}
pub use Rattle.std.proofs.lemmas.Slice.Eq.{slice_eq-Decides}
pub use Rattle.std.specs.Bool.{MatchBool}
pub use Rattle.std.specs.Cmp.Lexicographic.{pointwise}
pub use Rattle.std.specs.Ordering.{int_eq}
pub use Rattle.std.specs.Prelude.{IsSome, is_none, is_some, length, nat_lt, not, option_map, pos, replicate, slice_index, slice_index_or, slice_set, ℤ, ◌&&◌, ◌+ℤ◌, ◌-◌, ◌==◌, ◌||◌}
pub use Rattle.action_fn.specs.Answers.{Answered, IsAnswered, is_pure}
pub use Rattle.handle_pool.specs.Issued.{Listed, any_listed, any_live, count_listed, gone, how_many, live_object, update, with_fields}
pub use Rattle.history.specs.Histories.{entry}
pub use Rattle.history_law.specs.Accepted.{EndsOnce, TasksEndOnce, accepted, accepted_by}
pub use Rattle.history_law.specs.Affinity.{ObeysMasks, action_mask, task_mask}
pub use Rattle.history_law.specs.Ends.{EndsAfterClose}
pub use Rattle.history_law.specs.Exclusion.{HasMutex, HoldsByLooks, HoldsByTally, HoldsMutex, MadeWith, MutexesKeepTo, OneWriter, ReadersAlone, RwlsKeepTo, SemsKeepTo, by_seat, ends_tally, gets_mutex, gets_rwl, gets_sem, gives_mutex, gives_rwl, gives_sem, is_tally_end, limit_in_op, looks_at_mutex, looks_at_rwl, looks_at_sem, says_end, says_number, tally_got, unlocks_mutex, unlocks_rwl, unlocks_sem}
pub use Rattle.history_law.specs.Order.{EndedBefore, GivenInOrder, is_given, looks_for_any}
pub use Rattle.history_law.specs.Ordered.{RunsInOrder, asks_ordered, is_picked, makes_ordered, puts_task, puts_this_into}
pub use Rattle.history_law.specs.Quiet.{AreQuiet, EndsPlainly, HasPure, IsPlainEnd, QuietTasksEndPlainly, is_quiet}
pub use Rattle.history_law.specs.Refused.{LawsRefuse, again, both_hold, both_own, caller_gets, cancelled_first, completed_then, final_first, gets_none, given_twice, gives_anothers, gives_back_unread, gives_unlocked, makes_rwl, makes_sem, on_another_core, one_for_two, one_reads_twice, picks_second, puts_one, reads_beside, reads_none, second_core_mask, three_read, two_ends}
pub use Rattle.history_law.specs.RefusedRuns.{RunLawsRefuse, a_task, adding, by_no_seat, closes_it, ends_entries, ends_late, enters_first, finishes_it, has_got_both, has_looked, has_no_marks, has_stopped, listed_once, looks_last, opens_entries, releases, takes, waits_entries, was_cancelled, state_with_tasks}
pub use Rattle.history_law.specs.Reuse.{NeverAgain, NotInBoth}
pub use Rattle.history_law.specs.Seats.{AreUntouched, BySeats, EndsInTime, EntersBehindRelease, FinalsBehindStops, Free, HasMarks, HoldsTask, IsUntouched, IsWaiter, KeepsEarly, KeepsOnce, KeepsPhase, KeepsRelease, KeepsStops, KeepsWaiter, NoClose, NoPhase, NoRelease, OnceListed, Others, RunsWith, WaitsFor, Work, WorkerKeeps, closes, is_late_end, is_release_op, is_released, is_stop_of, moves_phase, says_ok, says_stop}
pub use Rattle.history_law.specs.Served.{AsksOf, IsStepServed, ServesOp}
pub use Rattle.history_law.specs.Tally.{HoldsTheSum, NamesOneMutex, adds_to, completed_in, is_completed, mutex_in, number_added, sum_of, writes_to}
pub use Rattle.history_law.specs.TallyHolds.{IsAttached, TalliesHold, got_both}
pub use Rattle.history_law.specs.Told.{TellsItsEnd, told_by}
pub use Rattle.history_law.specs.Words.{entries_that, is_this_handle, is_live_object, issues, some_entry, times}
pub use Rattle.history_law.specs.Worked.{OneTaskEnds}
pub use Rattle.history_law.specs.WorkedSum.{TalliesAddUp, tallies_begin, gets_both, two_workers}
pub use Rattle.mtapi_machine.proofs.Answered.{answered}
pub use Rattle.mtapi_machine.proofs.Changes.{at-update, some_same}
pub use Rattle.mtapi_machine.proofs.EachKind.{at_opening, own_kind}
pub use Rattle.mtapi_machine.proofs.Ends.{after_grows}
pub use Rattle.mtapi_machine.proofs.Lines.{fits_of}
pub use Rattle.mtapi_machine.proofs.Lists.{Legal-front, Legal-prefix, Legal-rest, after-append, after-one}
pub use Rattle.mtapi_machine.proofs.Made.{AllGives, found_holds, fst_true, not_false, not_true, row_made, snd_true, unstarted_unended}
pub use Rattle.mtapi_machine.proofs.Moves.{along, by_moves, rest_keeps}
pub use Rattle.mtapi_machine.proofs.Replays.{legal_if}
pub use Rattle.mtapi_machine.proofs.Worked.{one_task-legal}
pub use Rattle.mtapi_machine.specs.Ends.{end_in}
pub use Rattle.mtapi_machine.specs.KeyedRows.{alters_one, deletes, looks_one, mrapi, mrapi_open, mrapi_unless}
pub use Rattle.mtapi_machine.specs.Laws.{AltersObject, AreMade, DropsToSame, EndsTask, Grows, IsMade, MakesAction, RemovesObject, StartsTask, WithdrawsAction, all_live, ends_many, is_pick, leads_to, makes_of_sort, may_move}
pub use Rattle.mtapi_machine.specs.Legal.{IsHonest, IsNext, Legal, NodeEntry, after, next, row_of}
pub use Rattle.mtapi_machine.specs.Moves.{Fields, Groups, Move, Mutexes, Queues, Rwls, Segments, Sems, Sort, after_moves, all_of, alters, apply, enables, ends_task, ends_waiting, frees_members, is_fresh, is_served, leaves, lets_members_go, makes, makes_action, notes, phase_is, released, removes, runs_task, starts_task, stops, withdraws}
pub use Rattle.mtapi_machine.specs.QueueRows.{new_queue}
pub use Rattle.mtapi_machine.specs.Row.{Allows, Row, after_row, gives, live, moves_of, never, only, says, unless}
pub use Rattle.mtapi_machine.specs.Rows.{row}
pub use Rattle.mtapi_machine.specs.State.{FieldsOf, Objects, State, object_changed, is_new, is_open, is_past_open, objects_of, opening, seats, tasks, workers}
pub use Rattle.mtapi_machine.specs.Tables.{h1}
pub use Rattle.mtapi_machine.specs.TaskRows.{asked_for, asked_of}
pub use Rattle.mtapi_machine.specs.WorkRows.{task_end}
pub use Rattle.mtapi_machine.specs.Worked.{add_task, every_core_mask, finishes_first, worked_first_handle, main_entry, next_handle, picks_first, task_handle, the_action, usual, worker}
pub use Rattle.mtapi_machine.specs.declared.ops.Op.{Op}
pub use Rattle.mtapi_machine.specs.declared.ops.Op.TheVariants.{Close, Final, Initialize, TallyEnd}
pub use Rattle.mtapi_machine.specs.declared.replies.Reply.{Reply}
pub use Rattle.mtapi_machine.specs.declared.replies.Reply.TheVariants.{Handle, Idle, Mrapi, Mtapi, Ok, Pending, Picked, Stop}
pub use Rattle.mtapi_machine.specs.declared.terms.Phase.{Phase}
pub use Rattle.mtapi_machine.specs.declared.terms.Phase.TheVariants.{Open}
pub use Rattle.mtapi_machine.specs.declared.terms.Terms.{Terms}
pub use Rattle.mtapi_objects.specs.Actions.{Action, has_enabled_job, is_eligible, new_action, with_enabled}
pub use Rattle.mtapi_objects.specs.Groups.{Ending, freed, in_no_group, insert, insert_ended, is_member, let_go}
pub use Rattle.mtapi_objects.specs.Mutexes.{Mutex, locked_by, new_mutex, unlocked}
pub use Rattle.mtapi_objects.specs.Queues.{Queue, is_head, is_in, is_shut_in, is_unended_in, lets}
pub use Rattle.mtapi_objects.specs.Rwls.{Rwl, new_rwl, rwl_busy, rwl_given, rwl_held, rwl_taken}
pub use Rattle.mtapi_objects.specs.Segments.{Segment, cell_of, new_segment, with_attached, with_cell}
pub use Rattle.mtapi_objects.specs.Sems.{Sem, new_sem, sem_busy, sem_given, sem_taken, total}
pub use Rattle.mtapi_objects.specs.Tasks.{Adds, Ended, NewTask, Notes, Running, Scheduled, TallyNotes, Task, TaskState, added, asked_once, cell_in, end_of, ended, is_unended, is_unstarted, kind_number, new_task, no_tally, number_in, runner, runs_as, runs_on, scheduled, tally_args, tally_failed, tally_has, tally_read, tally_written, watch_end, with_notes, with_state, with_tally, with_waiter}
pub use Rattle.mtapi_values.specs.Conditions.{holds}
pub use Rattle.mtapi_values.specs.Layouts.{named_kind, names_kind, object_number}
pub use Rattle.mtapi_values.specs.Masks.{in_mask}
pub use Rattle.mtapi_values.specs.Seats.{all_marked, any_mark, is_other, is_seat, marked, no_marks}
pub use Rattle.mtapi_values.specs.declared.ends.TaskEnd.{TaskEnd}
pub use Rattle.mtapi_values.specs.declared.ends.TaskEnd.TheVariants.{Cancelled, Completed, Failed}
pub use Rattle.mtapi_values.specs.declared.handles.ActionHandle.{ActionHandle}
pub use Rattle.mtapi_values.specs.declared.handles.Layout.{Layout}
pub use Rattle.mtapi_values.specs.declared.handles.Layout.TheVariants.{Two}
pub use Rattle.mtapi_values.specs.declared.handles.ObjectKind.{ObjectKind}
pub use Rattle.mtapi_values.specs.declared.handles.TaskHandle.{TaskHandle}
pub use Rattle.mtapi_values.specs.declared.kinds.Kind.{Kind}
pub use Rattle.mtapi_values.specs.declared.statuses.MrapiStatus.{MrapiStatus}
pub use Rattle.mtapi_values.specs.declared.statuses.MtapiStatus.{MtapiStatus}
pub use Rattle.mtapi_values.specs.declared.statuses.MtapiStatus.TheVariants.{ErrTaskInvalid, Timeout}
unfoldable pub use Rattle.action_fn.specs.Answers.{answer_of, fits}
unfoldable pub use Rattle.handle_pool.specs.Issued.{change, change_all, is_full, issue, issued_at, listed, live_of, may_issue, retired}
unfoldable pub use Rattle.history_law.specs.Order.{number_at}
unfoldable pub use Rattle.history_law.specs.Quiet.{task_at}
unfoldable pub use Rattle.history_law.specs.Refused.{beside_a_tally, too_early, two_put, up_to_the_end, written_untold}
unfoldable pub use Rattle.history_law.specs.RefusedRuns.{started}
unfoldable pub use Rattle.history_law.specs.Tally.{record_of}
unfoldable pub use Rattle.history_law.specs.WorkedSum.{two_tallies}
unfoldable pub use Rattle.mtapi_machine.specs.Ends.{end_at}
unfoldable pub use Rattle.mtapi_machine.specs.Kept.{kept}
unfoldable pub use Rattle.mtapi_machine.specs.Legal.{LegalFrom, after_from}
unfoldable pub use Rattle.mtapi_machine.specs.Replay.{replay}
unfoldable pub use Rattle.mtapi_machine.specs.WorkRows.{can_take, has_better, is_ready}
unfoldable pub use Rattle.mtapi_machine.specs.Worked.{one_task}
unfoldable pub use Rattle.mtapi_objects.specs.Actions.{has_worker}
unfoldable pub use Rattle.mtapi_objects.specs.Groups.{endings}
unfoldable pub use Rattle.mtapi_objects.specs.Tasks.{end_each}
pub use Rattle.mtapi_machine.specs.Answers.{Answers, gives_up_with, tally_verdict}
