-- The names that the definitions of this crate cite of lower crates, passed on from one place. Declares nothing.
pub use Rattle.action_fn.specs.Answers.{answer_of, is_pure}
pub use Rattle.handle_pool.specs.Issued.{how_many, live_object}
pub use Rattle.history.specs.Histories.{entry}
pub use Rattle.history_law.specs.Quiet.{AreQuiet}
pub use Rattle.history_law.specs.Seats.{NoClose, closes}
pub use Rattle.mtapi_machine.specs.Ends.{end_at}
pub use Rattle.mtapi_machine.specs.GroupRows.{verdict}
pub use Rattle.mtapi_machine.specs.Laws.{StartsTask, is_status}
pub use Rattle.mtapi_machine.specs.Legal.{Legal, NodeEntry, after}
pub use Rattle.mtapi_machine.specs.QueueRows.{new_queue}
pub use Rattle.mtapi_machine.specs.State.{State, objects_of}
pub use Rattle.mtapi_machine.specs.declared.ops.Op.{Op}
pub use Rattle.mtapi_machine.specs.declared.ops.Op.TheVariants.{ActionCreate, AllLook, GroupCreate, Initialize, QueueCreate, TaskEnqueue, TaskLook, TaskStart}
pub use Rattle.mtapi_machine.specs.declared.replies.Reply.{Reply}
pub use Rattle.mtapi_machine.specs.declared.replies.Reply.TheVariants.{Ended, Handle, Ok, Pending}
pub use Rattle.mtapi_machine.specs.declared.terms.Terms.{Terms}
pub use Rattle.mtapi_objects.specs.Actions.{Action, has_job, is_eligible, is_job, new_action, some_below}
pub use Rattle.mtapi_objects.specs.Groups.{fault_of, new_group}
pub use Rattle.mtapi_objects.specs.Queues.{Queue}
pub use Rattle.mtapi_objects.specs.Tasks.{NewTask, kind_number}
pub use Rattle.mtapi_values.specs.Attributes.{NodeSettings}
pub use Rattle.mtapi_values.specs.Conditions.{holds}
pub use Rattle.mtapi_values.specs.Statuses.{mtapi_name, mtapi_number}
pub use Rattle.mtapi_values.specs.declared.ends.TaskEnd.{TaskEnd}
pub use Rattle.mtapi_values.specs.declared.handles.GroupHandle.{GroupHandle}
pub use Rattle.mtapi_values.specs.declared.handles.Layout.{Layout}
pub use Rattle.mtapi_values.specs.declared.kinds.Kind.{Kind}
pub use Rattle.mtapi_values.specs.declared.masks.Mask.{Mask}
pub use Rattle.mtapi_values.specs.declared.statuses.MtapiStatus.{MtapiStatus}
pub use Rattle.run_report.specs.Report.{report, report_by, run_terms}
pub use Rattle.run_report.specs.Summary.{no_totals, summary, totals_text, with_end}
pub use Rattle.workload_file.specs.declared.workload.Deed.{Deed}
pub use Rattle.workload_file.specs.declared.workload.Part.{Part}
pub use Rattle.workload_file.specs.declared.workload.Statement.{Statement}
pub use Rattle.workload_file.specs.declared.workload.Workload.{Workload}
pub use Rattle.workload_runs.specs.RunOf.{RunOf}
