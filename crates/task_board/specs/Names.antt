-- The names that the definitions of this crate cite of lower crates, passed on from one place. Declares nothing.
pub use Rattle.group_core.specs.Members.{GroupTable, Members, no_members, with_ended, with_member}
pub use Rattle.handle_pool.specs.Slots.{Slot, Slots, changed, free_slot, generation_of, max_of, slot_of, slot_value, without}
pub use Rattle.handle_pool.specs.Walks.{SomeLive}
pub use Rattle.job_table.specs.Answers.{IsUnion, Passes, runs_job_on}
pub use Rattle.linked_places.specs.Lists.{has_handle, list_at}
pub use Rattle.mtapi_objects.specs.Actions.{Action, some_below}
pub use Rattle.mtapi_objects.specs.Groups.{Ending, Group, first_fault, is_member, new_group}
pub use Rattle.mtapi_objects.specs.Queues.{Queue, is_in}
pub use Rattle.mtapi_objects.specs.Tasks.{Ended, NewTask, Running, Scheduled, Task, TaskState, end_of, is_unended, is_unstarted}
pub use Rattle.mtapi_values.specs.Conditions.{holds}
pub use Rattle.mtapi_values.specs.Masks.{in_mask}
pub use Rattle.mtapi_values.specs.declared.ends.TaskEnd.{TaskEnd}
pub use Rattle.mtapi_values.specs.declared.handles.TaskHandle.{TaskHandle}
pub use Rattle.queue_core.specs.Held.{HeldQueue, QueueTable, put_reply, tasks_of, without_task}
pub use Rattle.task_core.specs.Table.{TaskTable, detached_in, ended_in}
