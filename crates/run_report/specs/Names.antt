-- The names that the definitions of this crate cite of lower crates, passed on from one place. Declares nothing.
pub use Rattle.mtapi_machine.specs.Ends.{end_at}
pub use Rattle.mtapi_machine.specs.Legal.{NodeEntry, after}
pub use Rattle.mtapi_machine.specs.State.{State, terms_with}
pub use Rattle.mtapi_machine.specs.Worked.{add_task, closed, every_core_mask, finishes_first, worked_first_handle, main_entry, next_handle, one_task, picks_first, task_handle}
pub use Rattle.mtapi_machine.specs.declared.replies.Reply.{Reply}
pub use Rattle.mtapi_objects.specs.Actions.{Action, has_worker, with_enabled}
pub use Rattle.mtapi_values.specs.Statuses.{mrapi_name, mtapi_name}
pub use Rattle.mtapi_values.specs.declared.ends.TaskEnd.{TaskEnd}
pub use Rattle.mtapi_values.specs.declared.ends.TaskEnd.TheVariants.{Cancelled, Completed, Failed}
pub use Rattle.mtapi_values.specs.declared.handles.Layout.{Layout}
pub use Rattle.mtapi_values.specs.declared.masks.Mask.{Mask}
pub use Rattle.workload_file.specs.Reading.{name_text}
pub use Rattle.workload_file.specs.declared.workload.Deed.{Deed}
pub use Rattle.workload_file.specs.declared.workload.Part.{Part}
pub use Rattle.workload_file.specs.declared.workload.Statement.{Statement}
pub use Rattle.workload_file.specs.declared.workload.Workload.{Workload}
