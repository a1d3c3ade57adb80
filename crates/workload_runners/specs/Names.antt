-- The names that the definitions of this crate cite of lower crates, passed on from one place. Declares nothing.
pub use Rattle.action_fn.specs.Answers.{Answered, fits}
pub use Rattle.history.specs.Histories.{StartsWith, entries_of, entry}
pub use Rattle.history_law.specs.Seats.{Free, HoldsTask, OnceListed, Work}
pub use Rattle.mtapi_machine.specs.Kept.{is_pending}
pub use Rattle.mtapi_machine.specs.Legal.{Legal, LegalFrom, NodeEntry, after}
pub use Rattle.mtapi_machine.specs.Row.{Allows, handle_of}
pub use Rattle.mtapi_machine.specs.State.{State, opening, terms_with}
pub use Rattle.mtapi_machine.specs.declared.ops.Op.{Op}
pub use Rattle.mtapi_machine.specs.declared.ops.Op.TheVariants.{Close}
pub use Rattle.mtapi_machine.specs.declared.replies.Reply.{Reply}
pub use Rattle.mtapi_machine.specs.declared.replies.Reply.TheVariants.{Ok, Pending}
pub use Rattle.mtapi_values.specs.declared.ends.TaskEnd.{TaskEnd}
pub use Rattle.mtapi_values.specs.declared.handles.TaskHandle.{TaskHandle}
pub use Rattle.mtapi_values.specs.declared.kinds.Kind.{Kind}
pub use Rattle.mtapi_values.specs.declared.statuses.MtapiStatus.{MtapiStatus}
pub use Rattle.node_core.specs.Keeping.{KeptAs}
pub use Rattle.node_core.specs.Logs.{journal_legal}
pub use Rattle.node_core.specs.declared.journaled.JournaledTerms.{JournaledTerms}
pub use Rattle.run_beside.specs.Pairs.{HasRisen}
pub use Rattle.turn_cell.specs.Seats.{CellView, HasSeenMore, IsSeatOf, SeatView, fresh_seat, fresh_seats}
pub use Rattle.workload_file.specs.declared.workload.Part.{Part}
pub use Rattle.workload_file.specs.declared.workload.Statement.{Statement}
pub use Rattle.workload_runs.specs.Lines.{is_timeout}
pub use Rattle.workload_runs.specs.Parts.{CallerRan, Carried, Form, MainRan, has_begin}
pub use Rattle.workload_runs.specs.Whole.{RunBy, WorkerBy, in_turns}
pub use Rattle.workload_runs.specs.declared.calls.Wanted.{Wanted}
