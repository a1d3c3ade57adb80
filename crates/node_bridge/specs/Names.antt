-- The names that the definitions of this crate cite of lower crates, passed on from one place. Declares nothing.
pub use Rattle.action_fn.specs.Answers.{Answered, answer_of, is_pure}
pub use Rattle.history.specs.Histories.{entries_of, entry}
pub use Rattle.mtapi_machine.specs.Legal.{Legal, NodeEntry, after}
pub use Rattle.mtapi_machine.specs.WorkRows.{task_end}
pub use Rattle.mtapi_machine.specs.declared.replies.Reply.{Reply}
pub use Rattle.mtapi_objects.specs.Tasks.{Task, kind_number, no_tally}
pub use Rattle.mtapi_values.specs.declared.ends.TaskEnd.{TaskEnd}
pub use Rattle.mtapi_values.specs.declared.ends.TaskEnd.TheVariants.{Completed, Failed}
pub use Rattle.mtapi_values.specs.declared.handles.ActionHandle.{ActionHandle}
pub use Rattle.mtapi_values.specs.declared.handles.TaskHandle.{TaskHandle}
pub use Rattle.mtapi_values.specs.declared.kinds.Kind.{Kind}
pub use Rattle.mtapi_values.specs.declared.statuses.MtapiStatus.TheVariants.{ErrActionFailed, ErrParameter, ErrTaskLimit}
pub use Rattle.node_core.specs.Stands.{NodeStands, some_terms, terms_of_node}
pub use Rattle.turn_looks.specs.Turns.{SameSeat}
