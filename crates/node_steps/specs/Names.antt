-- The names that the definitions of this crate cite of lower crates, passed on from one place. Declares nothing.
pub use Rattle.handle_pool.specs.Issued.{Listed, any_listed, live_object, live_of}
pub use Rattle.handle_pool.specs.Slots.{Slots, changed, slot_value, used_at}
pub use Rattle.mtapi_machine.specs.Row.{Allows, after_row}
pub use Rattle.mtapi_machine.specs.Rows.{row}
pub use Rattle.mtapi_machine.specs.State.{State, is_open, terms_with, workers}
pub use Rattle.mtapi_machine.specs.declared.replies.Reply.{Reply}
pub use Rattle.mtapi_machine.specs.declared.replies.Reply.TheVariants.{Ended, Picked}
pub use Rattle.mtapi_objects.specs.Actions.{Action, has_job}
pub use Rattle.mtapi_objects.specs.Groups.{Ending, Group, endings, is_unended_member}
pub use Rattle.mtapi_objects.specs.Queues.{Queue, is_unended_in}
pub use Rattle.mtapi_objects.specs.Tasks.{Running, Task, is_unstarted, runs_as, runs_on, tally_args, with_state}
pub use Rattle.mtapi_values.specs.Conditions.{first, holds}
pub use Rattle.mtapi_values.specs.declared.handles.TaskHandle.{TaskHandle}
pub use Rattle.mtapi_values.specs.declared.statuses.MtapiStatus.{MtapiStatus}
pub use Rattle.mtapi_values.specs.declared.statuses.MtapiStatus.TheVariants.{ErrJobInvalid, ErrNodeNotinit, ErrParameter, ErrQueueDisabled, ErrQueueExists, ErrQueueLimit, ErrTaskInvalid}
pub use Rattle.node_resources.specs.Holds.{HoldsAll, ResourceLists, ResourceTable, ResourcesStand}
pub use Rattle.queue_core.specs.Held.{HeldQueue, facts_of}
pub use Rattle.task_board.specs.Scheduler.{Becomes, SchedulerTable, group_slots, records_of, running_on}
