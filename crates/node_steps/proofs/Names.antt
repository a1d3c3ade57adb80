-- The names that the proofs of this crate cite of lower crates and of its own specs/, passed on from one place. Declares nothing.
pub use Rattle.std.proofs.Common.{Bool, Err, FitsSigned, List, None, Ok, Option, Result, Some, [], ap, arith, cond, drop, eqb-true, false, inl, inr, length, length-append, lt-ltb, map, not, refl, replicate, rules, slice_get, subst, suc, sym, true, w64, zero, ℕ, ◌++◌, ◌+◌, ◌-◌, ◌<◌, ◌^◌, ◌↔◌, ◌∙◌, ◌∷◌, ◌≡◌, ◌≢◌, ◌≤◌, ◌⊎◌}
pub use Rattle.std.proofs.lemmas.Bool.{and_from, and_parts, and_right, eq-eqb, ne_eqb, not-false, or_right}
pub use Rattle.std.proofs.lemmas.Bool.Decides.{Decides-int_eq, eqb_tells, nat_tests}
pub use Rattle.std.proofs.lemmas.Int.{to_z-of_z}
pub use Rattle.std.specs.Option.{IfSome, option_map}
pub use Rattle.std.specs.Ordering.{int_eq}
pub use Rattle.std.specs.Prelude.{IsNone, if◌then◌else◌, is_none, is_some, nat_le, nat_lt, slice_index_or, ℤ, ◌&&◌, ◌+ℤ◌, ◌-ℤ◌, ◌==◌, ◌||◌}
pub use Rattle.action_fn.proofs.Numbers.{fits_from, fitting_from}
pub use Rattle.action_fn.specs.Answers.{Answered, IsAnswered, fits, fitting}
pub use Rattle.group_core.specs.Members.{GroupTable, Members, counts_of, no_members}
pub use Rattle.handle_pool.proofs.AnswerLemmas.{any-live, any-none, any-some, change_all-none, count-slots, first_live-absent, first_live-only}
pub use Rattle.handle_pool.proofs.LiveLemmas.{Distinct-without, how_many-without, lookup-without, pairs_without, passing, same_tests}
pub use Rattle.handle_pool.specs.Issued.{Listed, any_listed, any_live, count_listed, first_handle, gone, handles_of, how_many, issue, listed, live_object, lookup, retire, update, with_fields}
pub use Rattle.handle_pool.specs.Slots.{Inserts, IsFull, Slot, Slots, changed, free_slot, put, slot_of, slot_value, used_at, with_value, without}
pub use Rattle.handle_pool.specs.Stands.{Distinct}
pub use Rattle.handle_pool.specs.Walks.{NoneLive, SomeLive}
pub use Rattle.job_table.specs.Answers.{Covers, IsUnion, Passes, job_of, runs_job_on}
pub use Rattle.job_table.specs.declared.cover.Cover.{Cover}
pub use Rattle.job_table.specs.declared.cover.Cover.TheVariants.{AllDisabled, Cores, NoAction}
pub use Rattle.linked_places.specs.Lists.{has_handle, list_at, without_handle}
pub use Rattle.mtapi_layouts.specs.Ops.{HandleIsSmall, IssuesSmall, inward_op}
pub use Rattle.mtapi_machine.specs.Laws.{AreAbove, Rises, start_numbers}
pub use Rattle.mtapi_machine.specs.Legal.{IsHonest, IsNext, Legal, NodeEntry, after, next}
pub use Rattle.mtapi_machine.specs.Moves.{Groups, Move, Mutexes, Queues, Rwls, Segments, Sems, after_moves, alters, apply, ends_task, ends_waiting, is_fresh, makes, makes_action, notes, starts_task, withdraws}
pub use Rattle.mtapi_machine.specs.QueueRows.{new_queue}
pub use Rattle.mtapi_machine.specs.Row.{Allows, Row, after_row, chosen, creates, gives, handle_of, live, mtapi_unless, never, only, says, unless}
pub use Rattle.mtapi_machine.specs.Rows.{row}
pub use Rattle.mtapi_machine.specs.State.{Objects, State, actions, end_tasks, groups, is_new, is_open, is_past_open, is_stop, is_up, mutexes, opening, queues, rwls, segments, sems, tasks, workers}
pub use Rattle.mtapi_machine.specs.TaskRows.{asked_for, cancels, is_detached_member, looks_at, number_of, start_refusals}
pub use Rattle.mtapi_machine.specs.WorkRows.{picks, task_end}
pub use Rattle.mtapi_machine.specs.declared.ops.Op.{Op}
pub use Rattle.mtapi_machine.specs.declared.replies.Reply.{Reply}
pub use Rattle.mtapi_machine.specs.declared.replies.Reply.TheVariants.{Handle, Mtapi}
pub use Rattle.mtapi_machine.specs.declared.terms.Phase.TheVariants.{Closing, New}
pub use Rattle.mtapi_objects.specs.Actions.{Action, action_create_refusals, has_enabled_job, has_job, is_eligible, new_action, some_below, with_enabled}
pub use Rattle.mtapi_objects.specs.Groups.{Ending, Group, first_fault, freed, in_no_group, insert, insert_ended, is_member, is_unended_member, let_go, new_group}
pub use Rattle.mtapi_objects.specs.Mutexes.{Mutex, locked_by, new_mutex, unlocked}
pub use Rattle.mtapi_objects.specs.Queues.{Queue, is_head, is_in, is_shut_in, is_unended_in, lets, opened, put_refusals}
pub use Rattle.mtapi_objects.specs.Rwls.{new_rwl}
pub use Rattle.mtapi_objects.specs.Segments.{Segment, cell_of, new_segment, with_attached, with_cell}
pub use Rattle.mtapi_objects.specs.Sems.{new_sem}
pub use Rattle.mtapi_objects.specs.Tasks.{Ended, NewTask, Running, Scheduled, TallyNotes, Task, TaskState, added, asked_once, asked_refusals, cancel_requested, cell_in, end_of, ended, finish_refusals, is_unended, is_unstarted, kind_number, new_task, no_tally, runner, runs_as, runs_on, tally_args, tally_failed, tally_has, tally_read, tally_written, task_look_refusals, watch_end, watch_end_refusals, with_notes, with_state, with_tally, with_waiter}
pub use Rattle.mtapi_renaming.specs.Ops.{other_queue, renamed_op}
pub use Rattle.mtapi_renaming.specs.Refusals.{CanAnswer, makes_or_not, refusal_of}
pub use Rattle.mtapi_values.specs.Attributes.{AreNodeSettings, NodeSettings, QueueAttributes}
pub use Rattle.mtapi_values.specs.Conditions.{first, holds}
pub use Rattle.mtapi_values.specs.Masks.{in_mask}
pub use Rattle.mtapi_values.specs.Seats.{all_marked, no_marks}
pub use Rattle.mtapi_values.specs.declared.ends.TaskEnd.{TaskEnd}
pub use Rattle.mtapi_values.specs.declared.ends.TaskEnd.TheVariants.{Cancelled, Completed}
pub use Rattle.mtapi_values.specs.declared.handles.ActionHandle.{ActionHandle}
pub use Rattle.mtapi_values.specs.declared.handles.GroupHandle.{GroupHandle}
pub use Rattle.mtapi_values.specs.declared.handles.Layout.TheVariants.{One}
pub use Rattle.mtapi_values.specs.declared.handles.QueueHandle.{QueueHandle}
pub use Rattle.mtapi_values.specs.declared.handles.TaskHandle.{TaskHandle}
pub use Rattle.mtapi_values.specs.declared.kinds.Kind.{Kind}
pub use Rattle.mtapi_values.specs.declared.masks.Mask.{Mask}
pub use Rattle.mtapi_values.specs.declared.statuses.MtapiStatus.{MtapiStatus}
pub use Rattle.node_resources.specs.Holds.{HoldsAll, ResourceTable, resource_lists}
pub use Rattle.mtapi_machine.specs.Answers.{is_mrapi}
pub use Rattle.node_resources.specs.Steps.{Does, IsAt}
pub use Rattle.node_steps.specs.Keeps.{Keeps, ListsByStart}
pub use Rattle.node_steps.specs.Picks.{IsToward, MayPick}
pub use Rattle.node_steps.specs.Sound.{Sound}
pub use Rattle.node_steps.specs.Stands.{Holds, Lists, Live, Pools, PoolNodeSteps, seat_count, state_of, terms_of}
pub use Rattle.node_steps.specs.Tallies.{GivesBack, NoTally, RunsTally, tally_number}
pub use Rattle.node_steps.specs.declared.node.PoolNode.{PoolNode}
pub use Rattle.queue_core.specs.Held.{Finds, HasQueueId, HeldQueue, QueueTable, facts_of, held, live_reply, with_opened}
pub use Rattle.queue_core.specs.declared.facts.QueueFacts.{QueueFacts}
pub use Rattle.task_board.proofs.SchedulerLemmas.{job-found}
pub use Rattle.task_board.proofs.MappedLemmas.{IsFull-mapped, mapped-changed, mapped-insert, mapped-new, mapped-without, value-mapped}
pub use Rattle.task_board.proofs.MoveLemmas.{has-self, or-right, order-index}
pub use Rattle.task_board.proofs.PartLemmas.{Member, ended-member, ended-so, member-from, unended-member, unended-so}
pub use Rattle.task_board.proofs.SeenLemmas.{seen-as, seen-live, some_same, takes-from, takes-to, unstarted-seen}
pub use Rattle.task_board.specs.Scheduler.{AreWaiting, Becomes, BecomesWith, SchedulerTable, IsScheduler, group_slots, records_of, running_on}
pub use Rattle.task_board.specs.Ends.{AreServed, EndsUnserved, EndsWaiting, ended_each, ended_if, is_shut, is_unserved}
pub use Rattle.task_board.specs.GroupMoves.{Each, FreesAll, LetsAllGo, NoneTaken, Regroups, ends_numbered, ending_of, endings_of, frees, is_ended_member, lets_go}
pub use Rattle.task_board.specs.Keyed.{AreKeyed, RisesBy}
pub use Rattle.task_board.specs.Mapped.{mapped_slot}
pub use Rattle.task_board.specs.Members.{MayJoin, end_number_in, members_seen, membership, names_dead, start_in, without_members}
pub use Rattle.task_board.specs.Picks.{IsBest, IsChoice, IsChoiceOf, NoneBetter, NoneTakeable, RunsBy, Takeable}
pub use Rattle.task_board.specs.Queued.{ListInOrder, begins_in}
pub use Rattle.task_board.specs.Seen.{Seen, seen, seen_as, seen_in}
pub use Rattle.task_board.specs.declared.scheduler.Choice.{Choice}
pub use Rattle.task_core.specs.Answers.{after_asked, look_at_end, task_look_reply, look_unless, unless_refused, waiter_after, watch_end_of, without_group}
pub use Rattle.task_core.specs.Table.{IsLiveAnd, TaskTable, ended_in, looked_in, unended_count}
pub use Rattle.task_core.specs.Tallies.{adds_of, notes_of, tallied}
pub use Rattle.task_core.specs.declared.tallies.TallyState.TheVariants.{Begun, Locked, Read, Written}
unfoldable pub use Rattle.handle_pool.specs.Issued.{change, change_all, live_of}
unfoldable pub use Rattle.mtapi_machine.specs.Legal.{LegalFrom, after_from}
unfoldable pub use Rattle.mtapi_machine.specs.WorkRows.{can_take, has_better, is_ready}
unfoldable pub use Rattle.mtapi_objects.specs.Actions.{has_worker}
unfoldable pub use Rattle.mtapi_objects.specs.Groups.{endings}
unfoldable pub use Rattle.mtapi_objects.specs.Tasks.{end_each}
unfoldable pub use Rattle.mtapi_renaming.specs.Refusals.{refusal_in}
pub use Rattle.std.proofs.lemmas.Option.{none-some, same_Some}
