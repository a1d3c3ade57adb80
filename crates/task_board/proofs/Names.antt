-- The names that the proofs of this crate cite of lower crates and of its own specs/, passed on from one place. Declares nothing.
pub use Rattle.std.proofs.Common.{Bool, Err, IsSome, List, None, Ok, Option, Result, Some, [], ap, arith, bit_and, cond, false, fold, inl, inr, length, length-set, map, not, refl, replicate, set, slice_get, subst, suc, sym, true, zero, ℕ, ◌++◌, ◌+◌, ◌<◌, ◌^◌, ◌↔◌, ◌∙◌, ◌∷◌, ◌≡◌, ◌≢◌, ◌≤◌, ◌⊎◌}
pub use Rattle.std.proofs.lemmas.Bool.{and_from, and_parts, cases_Bool, cases_eq, false≢true, not-true}
pub use Rattle.std.proofs.lemmas.Bool.Decides.{nat_tests}
pub use Rattle.std.proofs.lemmas.List.{append-nil, get_or-set_other, get_or-set_same, length-map, length-replicate, map-set}
pub use Rattle.std.proofs.lemmas.Nat.Bits.{bit_at-lt, bit_at_and}
pub use Rattle.std.proofs.lemmas.Option.{none-some, same_Some, slice_get-map, slice_get_within}
pub use Rattle.std.specs.Bool.{OnFalse, OnTrue}
pub use Rattle.std.specs.Option.{option_map, option_or}
pub use Rattle.std.specs.Prelude.{IfSome, if◌then◌else◌, is_none, is_some, slice_index_or, slice_set, ◌%◌, ◌&&◌, ◌==◌, ◌||◌}
pub use Rattle.group_core.specs.Members.{CreatesGroup, GroupTable, IsUnendedMember, LiveAreUsed, Members, NoMemberAt, delete_reply, ended_of, first_ended, first_unended, no_members, rest_of, with_ended, with_member, without_first, without_first_unended}
pub use Rattle.handle_pool.proofs.GetLemmas.{get-insert_before, get-insert_other, get-insert_same, get-with_value_other, get-with_value_same, get-without_other, get-without_same}
pub use Rattle.handle_pool.proofs.ListReads.{set-same, slice_get-set_other, slice_get-set_same}
pub use Rattle.handle_pool.proofs.StandsLemmas.{get-fresh, used_at_live, value_at-none}
pub use Rattle.handle_pool.proofs.WalkLemmas.{slot_of-live}
pub use Rattle.handle_pool.specs.Slots.{Inserts, IsFull, Slot, Slots, changed, free_slot, generation_of, is_live, is_retired, max_of, put, slot_after, slot_of, slot_value, used_at, used_slot, value_at, with_value, without}
pub use Rattle.handle_pool.specs.Walks.{NoneLive, SomeLive}
pub use Rattle.job_table.specs.Answers.{Chooses, Covers, IsUnion, Passes, job_of, runs_job_on}
pub use Rattle.job_table.specs.declared.cover.Cover.TheVariants.{Cores}
pub use Rattle.linked_places.proofs.HandleLemmas.{has-first, list_at-set_other, list_at-set_same}
pub use Rattle.linked_places.proofs.NextLemmas.{has-index, index-has}
pub use Rattle.linked_places.specs.Lists.{NowhereAt, has_handle, list_at, stands_at, without_handle}
pub use Rattle.mtapi_objects.specs.Actions.{Action, has_enabled_job, new_action, some_below, with_enabled}
pub use Rattle.mtapi_objects.specs.Groups.{fault_of, first_fault, is_member, is_unended_member, new_group}
pub use Rattle.mtapi_objects.specs.Queues.{Queue, is_in}
pub use Rattle.mtapi_objects.specs.Tasks.{Ended, NewTask, Notes, Running, Scheduled, Task, TaskState, asked_once, asked_refusals, cancel_requested, end_of, is_unended, is_unstarted, new_task, runner, runs_on, scheduled, task_look_refusals, with_notes, with_state, with_tally, with_waiter}
pub use Rattle.mtapi_values.specs.Attributes.{NodeSettings}
pub use Rattle.mtapi_values.specs.Conditions.{first, holds}
pub use Rattle.mtapi_values.specs.Masks.{in_mask}
pub use Rattle.mtapi_values.specs.declared.ends.TaskEnd.{TaskEnd}
pub use Rattle.mtapi_values.specs.declared.handles.GroupHandle.{GroupHandle}
pub use Rattle.mtapi_values.specs.declared.handles.QueueHandle.{QueueHandle}
pub use Rattle.mtapi_values.specs.declared.handles.TaskHandle.{TaskHandle}
pub use Rattle.mtapi_values.specs.declared.kinds.Kind.{Kind}
pub use Rattle.mtapi_values.specs.declared.statuses.MtapiStatus.{MtapiStatus}
pub use Rattle.mtapi_values.specs.declared.statuses.MtapiStatus.TheVariants.{ErrGroupLimit, ErrQueueExists, ErrQueueLimit}
pub use Rattle.queue_core.specs.Held.{AreRetiredEmpty, HeldQueue, NoTaskAt, QueueTable, facts_of, held, live_reply, new_queue_of, tasks_of, with_opened, with_task, without_task}
pub use Rattle.ready_index.specs.Marks.{HasNoneFor, IsFirst, ReadyMarks, is_for, is_for_at, mark_at}
pub use Rattle.ready_index.specs.declared.marks.Mark.{Mark}
pub use Rattle.task_board.specs.Scheduler.{AreRanked, AreRunning, AreStarted, AreWaiting, Becomes, SchedulerTable, IsScheduler, IsFresh, IsFreshAt, IsFreshFor, IsMarkOf, Marked, Remarked, RemarkedUnless, StandsBefore, group_slots, records_of, running_on}
pub use Rattle.task_board.specs.contracts.scheduler.Scheduler.{the_view}
pub use Rattle.task_board.specs.Ends.{EndsWaiting, ended_each, ended_if, ended_next, ends_by, is_unserved, passes, walk_of}
pub use Rattle.task_board.specs.GroupMoves.{Each, Freed, FreesAll, Leaves, Left, LetsAllGo, LetsUnendedGo, ends_numbered, ending_of, endings_of, frees, is_ended_member, lets_go}
pub use Rattle.task_board.specs.Keyed.{AreKeyed, ListsBy, RisesByNumber}
pub use Rattle.task_board.specs.Mapped.{mapped, mapped_slot}
pub use Rattle.task_board.specs.Members.{AreMembers, MayJoin, Membership, end_number_in, ended_member, joined, member_as, members_seen, membership, start_in, unless_ended, without_members}
pub use Rattle.task_board.specs.Picks.{IsBest, IsChoice, NoneBetter, NoneTakeable, Takeable}
pub use Rattle.task_board.specs.Queued.{AreQueued, HasHad, ListInOrder, IsRoomFor, NoneWaitsIn, WasGiven, begins_in, head_of_queue, left_queue}
pub use Rattle.task_board.specs.Seen.{Seen, seen, seen_as, seen_in}
pub use Rattle.task_board.specs.Waiting.{WaitingTable, job_list, with_waiting, without_waiting}
pub use Rattle.task_board.specs.Walks.{AreByJob, AreIn, AreSeen, is_walked, waits_at, walked}
pub use Rattle.task_board.specs.declared.walks.Walk.{Walk}
pub use Rattle.task_board.specs.declared.walks.Walk.TheVariants.{OfJob, Queued, Waiting}
pub use Rattle.task_core.specs.Answers.{after_asked, waiter_after, without_group}
pub use Rattle.task_core.specs.Records.{asked_task, group_number, number_noted, queue_number, shown_state}
pub use Rattle.task_core.specs.Table.{AddsTask, IsLiveAnd, TaskTable, detached_in, ended_in, looked_in}
pub use Rattle.task_core.specs.Tallies.{notes_of, tallied}
