-- The names that the proofs of this crate cite of lower crates and of its own specs/, passed on from one place. Declares nothing.
pub use Rattle.std.proofs.Common.{rules, Bool, List, None, Option, Some, [], ap, arith, cond, false, inl, inr, length, refl, subst, suc, sym, take, true, zero, ℕ, ◌&&◌, ◌++◌, ◌+◌, ◌<◌, ◌||◌, ◌↔◌, ◌∙◌, ◌∷◌, ◌≡◌, ◌≤◌}
pub use Rattle.std.proofs.lemmas.Bool.{eq-eqb, eqb-true}
pub use Rattle.std.proofs.lemmas.Bool.Decides.{Decides-eqb, nat_tests}
pub use Rattle.std.specs.Bool.{Decides, MatchBool, beq}
pub use Rattle.std.specs.Cmp.{booleans_Decides, signed_Decides}
pub use Rattle.std.specs.Cmp.Lexicographic.{pointwise}
pub use Rattle.std.specs.Cmp.Rules.{signed_items}
pub use Rattle.std.specs.Option.{IfSome, option_map, option_or}
pub use Rattle.std.specs.Ordering.{int_eq}
pub use Rattle.std.specs.Prelude.{is_none, is_some, nat_le, nat_lt, not, pos, slice_set, ℤ, ◌==◌}
pub use Rattle.action_fn.specs.Answers.{is_pure}
pub use Rattle.action_fn.specs.declared.finished.ActEnd.{ActEnd}
pub use Rattle.handle_pool.proofs.InsideLemmas.{at-inside, change-inside, count-inside, issue-inside, retire-inside, update-inside}
pub use Rattle.handle_pool.proofs.ListedLemmas.{issued_at-issue, length-issue, listed-issue, retired-issue}
pub use Rattle.handle_pool.proofs.LiveLemmas.{any_live-at, same_tests}
pub use Rattle.handle_pool.specs.Inside.{Agree, Apart}
pub use Rattle.handle_pool.specs.Issued.{Listed, any_listed, count_listed, first_handle, gone, how_many, live_object, retire, update, with_fields}
pub use Rattle.handle_pool.specs.Slots.{generation_of, slot_of}
pub use Rattle.mtapi_machine.proofs.EachKind.{OnEach, at_opening, each_so, each_with, of_sort, own_kind, sort_at}
pub use Rattle.mtapi_machine.proofs.Lists.{after-one}
pub use Rattle.mtapi_machine.proofs.Made.{fst_true, row_made, snd_true}
pub use Rattle.mtapi_machine.proofs.Moves.{along, by_moves, moves_keep, rest_keeps}
pub use Rattle.mtapi_machine.proofs.Replays.{answer-allowed}
pub use Rattle.mtapi_machine.specs.GroupRows.{gives_end, gives_first, verdict}
pub use Rattle.mtapi_machine.specs.KeyedRows.{Keyed, alters_one, creates_keyed, deletes, found, gets, keyed_mutexes, keyed_queues, keyed_rwls, keyed_segments, keyed_sems, looks_one, mrapi_unless}
pub use Rattle.mtapi_machine.specs.Laws.{IsMade, MakesAction, StartsTask, WithdrawsAction}
pub use Rattle.mtapi_machine.specs.Legal.{IsHonest, IsNext, NodeEntry, after, next, row_of}
pub use Rattle.mtapi_machine.specs.Moves.{Fields, Groups, Move, Mutexes, Queues, Rwls, Segments, Sems, Sort, after_moves, all_of, alters, apply, enables, ends_task, ends_waiting, frees_members, is_fresh, is_served, leaves, lets_members_go, makes, makes_action, notes, phase_is, released, removes, runs_task, starts_task, stops, withdraws}
pub use Rattle.mtapi_machine.specs.QueueRows.{new_queue}
pub use Rattle.mtapi_machine.specs.Replay.{answer_of_row}
pub use Rattle.mtapi_machine.specs.Row.{Allows, Row, after_row, chosen, creates, gives, handle_of, live, moves_of, mtapi_unless, never, not_yet, on, only, says, unless}
pub use Rattle.mtapi_machine.specs.Rows.{row}
pub use Rattle.mtapi_machine.specs.State.{FieldsOf, Objects, State, actions, end_tasks, is_new, is_past_open, is_stop, objects_of, opening, queues, seats, tasks, workers}
pub use Rattle.mtapi_machine.specs.TallyRows.{gives_back, gives_up, locks, on_tally, takes_both}
pub use Rattle.mtapi_machine.specs.TaskRows.{asked_for, asked_of, cancels, looks_at, start_refusals}
pub use Rattle.mtapi_machine.specs.WorkRows.{picks, task_end}
pub use Rattle.mtapi_machine.specs.declared.ops.Op.{Op}
pub use Rattle.mtapi_machine.specs.declared.ops.Op.TheVariants.{Finish}
pub use Rattle.mtapi_machine.specs.declared.replies.Reply.{Reply}
pub use Rattle.mtapi_machine.specs.declared.replies.Reply.TheVariants.{Asked, Ended, Given, Handle, Idle, Mrapi, Mtapi, Number, Ok, Pending, Picked, Stop}
pub use Rattle.mtapi_machine.specs.declared.terms.Phase.{Phase}
pub use Rattle.mtapi_machine.specs.declared.terms.Phase.TheVariants.{Closing}
pub use Rattle.mtapi_machine.specs.declared.terms.Terms.{Terms}
pub use Rattle.mtapi_objects.specs.Actions.{Action, has_enabled_job, has_job, is_eligible, new_action, some_below, with_enabled}
pub use Rattle.mtapi_objects.specs.Groups.{Ending, Group, fault_of, first_fault, freed, in_no_group, insert, insert_ended, is_member, is_unended_member, let_go, new_group}
pub use Rattle.mtapi_objects.specs.Mutexes.{Mutex, locked_by, mutex_busy, mutex_delete_refusals, mutex_look_refusals, mutex_unlock_refusals, new_mutex, unlocked}
pub use Rattle.mtapi_objects.specs.Queues.{Queue, is_head, is_in, is_shut_in, is_unended_in, lets, opened, put_refusals}
pub use Rattle.mtapi_objects.specs.Rwls.{new_rwl, rwl_busy, rwl_create_refusals, rwl_delete_refusals, rwl_given, rwl_look_refusals, rwl_taken, rwl_unlock_refusals}
pub use Rattle.mtapi_objects.specs.Segments.{Segment, attach_refusals, cell_refusals, detach_refusals, new_segment, shmem_create_refusals, shmem_delete_refusals, with_attached, with_cell}
pub use Rattle.mtapi_objects.specs.Sems.{new_sem, sem_busy, sem_create_refusals, sem_delete_refusals, sem_given, sem_taken, sem_unlock_refusals}
pub use Rattle.mtapi_objects.specs.Tasks.{Adds, NewTask, Notes, Running, Scheduled, Task, TaskState, asked_once, cell_in, end_of, ended, is_unended, is_unstarted, kind_number, new_task, runs_on, tally_args, tally_has, tally_written, with_notes, with_state, with_tally}
pub use Rattle.mtapi_renaming.specs.Counts.{MakesNone, MakesOne, is_next_of, made_at, made_in, most_of}
pub use Rattle.mtapi_renaming.specs.Follows.{FitsState, Follows, HasEach, HasNotes, HasOrNone, HasTaskNames, NoHandle, Only, listed_in}
pub use Rattle.mtapi_renaming.specs.Gone.{AreGone, TakenAreMade}
pub use Rattle.mtapi_renaming.specs.Kinds.{CanBe, is_kind_full, is_fresh_of, is_full_of, is_handle, is_live_of, limit_of, live_in, made_kind, takes_task}
pub use Rattle.mtapi_renaming.specs.Lasts.{MakesLast, gone_of, lasts_of, with_last_handle}
pub use Rattle.mtapi_renaming.specs.Laws.{CreateRenames, LiveAlike, StartRenames, StepRenames, row_in}
pub use Rattle.mtapi_renaming.specs.Ops.{answered_kind, renamed_answer, renamed_op, renamed_reply}
pub use Rattle.mtapi_renaming.specs.Refusals.{CanAnswer, makes_or_not, refusal_of}
pub use Rattle.mtapi_renaming.specs.Renamed.{Room, renamed, renamed_list, renamed_notes, renamed_task}
pub use Rattle.mtapi_renaming.specs.Renaming.{HasOtherName, IsOneToOne, Renaming, with_pair}
pub use Rattle.mtapi_renaming.specs.Verdicts.{IsDecided, is_answer, is_honest, may_come, same_act, same_end, same_reply}
pub use Rattle.mtapi_values.specs.Conditions.{holds}
pub use Rattle.mtapi_values.specs.Layouts.{object_number}
pub use Rattle.mtapi_values.specs.Statuses.{mrapi_number, mtapi_number}
pub use Rattle.mtapi_values.specs.declared.ends.TaskEnd.{TaskEnd}
pub use Rattle.mtapi_values.specs.declared.ends.TaskEnd.TheVariants.{Cancelled, Failed}
pub use Rattle.mtapi_values.specs.declared.handles.ActionHandle.{ActionHandle}
pub use Rattle.mtapi_values.specs.declared.handles.GroupHandle.{GroupHandle}
pub use Rattle.mtapi_values.specs.declared.handles.ObjectKind.{ObjectKind}
pub use Rattle.mtapi_values.specs.declared.handles.QueueHandle.{QueueHandle}
pub use Rattle.mtapi_values.specs.declared.handles.TaskHandle.{TaskHandle}
pub use Rattle.mtapi_values.specs.declared.kinds.Kind.{Kind}
pub use Rattle.mtapi_values.specs.declared.statuses.MrapiStatus.{MrapiStatus}
pub use Rattle.mtapi_values.specs.declared.statuses.MtapiStatus.{MtapiStatus}
unfoldable pub use Rattle.action_fn.specs.Answers.{answer_of, fits}
unfoldable pub use Rattle.handle_pool.specs.Inside.{inside}
unfoldable pub use Rattle.handle_pool.specs.Issued.{change, change_all, is_full, issue, issued_at, listed, live_of, may_issue, retired}
unfoldable pub use Rattle.mtapi_machine.specs.Legal.{LegalFrom, after_from}
unfoldable pub use Rattle.mtapi_machine.specs.WorkRows.{can_take, has_better, is_ready}
unfoldable pub use Rattle.mtapi_objects.specs.Actions.{has_worker}
unfoldable pub use Rattle.mtapi_objects.specs.Groups.{endings}
unfoldable pub use Rattle.mtapi_objects.specs.Tasks.{end_each}
unfoldable pub use Rattle.mtapi_renaming.specs.Lasts.{lasts_in}
unfoldable pub use Rattle.mtapi_renaming.specs.Refusals.{refusal_in}
unfoldable pub use Rattle.mtapi_renaming.specs.Verdicts.{first_illegal}
