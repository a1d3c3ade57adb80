-- The names that the definitions of this crate cite of lower crates, passed on from one place. Declares nothing.
pub use Rattle.action_fn.specs.Answers.{Answered, answer_of, fits, is_pure}
pub use Rattle.action_fn.specs.declared.finished.ActEnd.TheVariants.{Done, Fails}
pub use Rattle.handle_pool.specs.Issued.{Listed, change, count_listed, gone, listed, live_object, live_of, with_fields}
pub use Rattle.history.specs.Histories.{entries_of, entry}
pub use Rattle.mtapi_machine.specs.Ends.{end_at, end_in}
pub use Rattle.mtapi_machine.specs.Legal.{IsNext, Legal, LegalFrom, NodeEntry, after, after_from}
pub use Rattle.mtapi_machine.specs.State.{State, is_past_open, objects_of, opening, seats, workers}
pub use Rattle.mtapi_machine.specs.Tables.{action, action_of, group, h1, h2, mutex, node_of, picked, queue, rwl, segment, sem, start}
pub use Rattle.mtapi_machine.specs.WorkRows.{task_end}
pub use Rattle.mtapi_machine.specs.Worked.{add_task, every_core_mask, finishes_first, worked_first_handle, main_entry, next_handle, one_task, picks_first, the_action, usual, worker}
pub use Rattle.mtapi_machine.specs.declared.ops.Op.{Op}
pub use Rattle.mtapi_machine.specs.declared.ops.Op.TheVariants.{ActionCreate, ActionDelete, ActionDisable, ActionEnable, AnyLook, Close, Enter, Final, Finish, GroupCreate, GroupDelete, Initialize, MutexCreate, MutexLook, MutexUnlock, Pick, QueueCreate, QueueDelete, QueueDisable, QueueEnable, Release, RwlCreate, RwlLook, RwlUnlock, SemCreate, SemLook, SemUnlock, ShmemCreate, ShmemWrite, TallyEnd, TallyLock, TallyRead, TallyWrite, TaskCancel, TaskEnqueue, TaskLook, TaskStart, WatchEnd}
pub use Rattle.mtapi_machine.specs.declared.replies.Reply.{Reply}
pub use Rattle.mtapi_machine.specs.declared.replies.Reply.TheVariants.{Given, Handle, Mtapi, Number, Ok, Picked, Stop}
pub use Rattle.mtapi_machine.specs.declared.terms.Terms.{Terms}
pub use Rattle.mtapi_objects.specs.Actions.{Action, has_worker, new_action, with_enabled}
pub use Rattle.mtapi_objects.specs.Queues.{Queue, is_in, is_shut_in}
pub use Rattle.mtapi_objects.specs.Segments.{Segment, cell_of}
pub use Rattle.mtapi_objects.specs.Tasks.{Adds, Running, Scheduled, TallyNotes, Task, TaskState, added, cell_in, is_unstarted, new_task, no_tally, number_in, runs_on, tally_args, watch_end, with_notes, with_state}
pub use Rattle.mtapi_values.specs.Seats.{is_seat, marked}
pub use Rattle.mtapi_values.specs.declared.ends.TaskEnd.{TaskEnd}
pub use Rattle.mtapi_values.specs.declared.ends.TaskEnd.TheVariants.{Cancelled, Completed, Failed}
pub use Rattle.mtapi_values.specs.declared.handles.ActionHandle.{ActionHandle}
pub use Rattle.mtapi_values.specs.declared.handles.Layout.TheVariants.{Two}
pub use Rattle.mtapi_values.specs.declared.handles.ObjectKind.{ObjectKind}
pub use Rattle.mtapi_values.specs.declared.handles.QueueHandle.{QueueHandle}
pub use Rattle.mtapi_values.specs.declared.handles.TaskHandle.{TaskHandle}
pub use Rattle.mtapi_values.specs.declared.kinds.Kind.{Kind}
pub use Rattle.mtapi_values.specs.declared.masks.Mask.{Mask}
pub use Rattle.mtapi_values.specs.declared.statuses.MtapiStatus.TheVariants.{ErrActionDeleted, ErrActionDisabled, ErrActionFailed, ErrQueueDeleted, ErrSpent, ErrTaskInvalid, Timeout}
