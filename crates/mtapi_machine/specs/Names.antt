-- The names that the definitions of this crate cite of lower crates, passed on from one place. Declares nothing.
pub use Rattle.action_fn.specs.Answers.{Answered, IsAnswered, fits}
pub use Rattle.action_fn.specs.declared.finished.ActEnd.{ActEnd}
pub use Rattle.action_fn.specs.declared.finished.ActEnd.TheVariants.{Done, Fails}
pub use Rattle.handle_pool.specs.Issued.{Listed, any_listed, change, change_all, count_listed, first_handle, gone, is_full, issue, live_object, live_of, may_issue, retire, update, with_fields}
pub use Rattle.history.specs.Histories.{entry}
pub use Rattle.history.specs.Row.{RowOfMachine, after_each_move}
pub use Rattle.mtapi_objects.specs.Actions.{Action, action_create_refusals, has_enabled_job, has_job, has_worker, is_eligible, new_action, with_enabled}
pub use Rattle.mtapi_objects.specs.Groups.{Ending, Group, endings, first_fault, freed, in_no_group, is_member, is_unended_member, let_go, new_group}
pub use Rattle.mtapi_objects.specs.Mutexes.{Mutex, locked_by, mutex_busy, mutex_delete_refusals, mutex_look_refusals, mutex_unlock_refusals, new_mutex, unlocked}
pub use Rattle.mtapi_objects.specs.Queues.{Queue, is_in, is_shut_in, is_unended_in, lets, opened, put_refusals}
pub use Rattle.mtapi_objects.specs.Rwls.{Rwl, new_rwl, rwl_busy, rwl_create_refusals, rwl_delete_refusals, rwl_given, rwl_look_refusals, rwl_taken, rwl_unlock_refusals}
pub use Rattle.mtapi_objects.specs.Segments.{Segment, attach_refusals, cell_of, cell_refusals, detach_refusals, new_segment, shmem_create_refusals, shmem_delete_refusals, with_attached, with_cell}
pub use Rattle.mtapi_objects.specs.Sems.{Sem, new_sem, sem_busy, sem_create_refusals, sem_delete_refusals, sem_given, sem_taken, sem_unlock_refusals}
pub use Rattle.mtapi_objects.specs.Tasks.{Adds, Ended, NewTask, Notes, Running, Scheduled, Task, TaskState, added, asked_once, asked_refusals, cancel_requested, cell_in, end_each, end_of, ended, finish_refusals, is_unended, is_unstarted, new_task, runs_as, runs_on, tally_args, tally_failed, tally_has, tally_read, tally_written, task_look_refusals, watch_end, watch_end_refusals, with_notes, with_state, with_tally, with_waiter}
pub use Rattle.mtapi_values.specs.Attributes.{AreNodeSettings, NodeSettings}
pub use Rattle.mtapi_values.specs.Conditions.{holds}
pub use Rattle.mtapi_values.specs.Seats.{all_marked, is_seat, no_marks}
pub use Rattle.mtapi_values.specs.declared.ends.TaskEnd.{TaskEnd}
pub use Rattle.mtapi_values.specs.declared.ends.TaskEnd.TheVariants.{Cancelled, Completed, Failed}
pub use Rattle.mtapi_values.specs.declared.handles.ActionHandle.{ActionHandle}
pub use Rattle.mtapi_values.specs.declared.handles.GroupHandle.{GroupHandle}
pub use Rattle.mtapi_values.specs.declared.handles.Layout.TheVariants.{One, Two}
pub use Rattle.mtapi_values.specs.declared.handles.MutexHandle.{MutexHandle}
pub use Rattle.mtapi_values.specs.declared.handles.QueueHandle.{QueueHandle}
pub use Rattle.mtapi_values.specs.declared.handles.RwlHandle.{RwlHandle}
pub use Rattle.mtapi_values.specs.declared.handles.SemHandle.{SemHandle}
pub use Rattle.mtapi_values.specs.declared.handles.ShmemHandle.{ShmemHandle}
pub use Rattle.mtapi_values.specs.declared.handles.TaskHandle.{TaskHandle}
pub use Rattle.mtapi_values.specs.declared.kinds.Kind.{Kind}
pub use Rattle.mtapi_values.specs.declared.masks.Mask.{Mask}
pub use Rattle.mtapi_values.specs.declared.statuses.MrapiStatus.{MrapiStatus}
pub use Rattle.mtapi_values.specs.declared.statuses.MtapiStatus.{MtapiStatus}
