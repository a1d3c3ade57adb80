-- The names that several proof files cite, from one place.
pub use Rattle.mtapi_machine.specs.Kept.{counted, counts_next, drops, is_dropped, is_pending, no_counts}
pub use Rattle.mtapi_machine.specs.Legal.{NodeEntry, next}
pub use Rattle.mtapi_machine.specs.Row.{Allows, handle_of}
pub use Rattle.mtapi_machine.specs.State.{State, opening}
pub use Rattle.mtapi_machine.specs.declared.ops.Op.{Op}
pub use Rattle.mtapi_machine.specs.declared.replies.Reply.{Reply}
pub use Rattle.mtapi_machine.specs.declared.terms.Terms.{Terms}
pub use Rattle.std.proofs.Common.{Bool, List, None, Some, [], ap, append_assoc, arith, cond, false, get_or, length, not, refl, set, subst, suc, sym, true, zero, ℕ, ◌++◌, ◌+◌, ◌<◌, ◌∙◌, ◌∷◌, ◌≡◌, ◌≤◌}
pub use Rattle.std.specs.Prelude.{replicate, ◌&&◌, ◌==◌}
pub use Rattle.workload_file.specs.declared.workload.Deed.{Deed}
pub use Rattle.workload_file.specs.declared.workload.Statement.{Statement}
pub use Rattle.workload_runs.specs.Calls.{Call, IsOnce, Looking, Once, call_of, handle_at}
pub use Rattle.workload_runs.specs.Lines.{Entered, KeepsTimeout, Line, MadeLines, head_lines, in_lines, is_timeout, line_with, tail_of_main}
pub use Rattle.workload_runs.specs.Parts.{CallerRan, Form, MainRan, PartsRan, has_begin}
pub use Rattle.workload_runs.specs.RunOf.{ClosesAtEnd, RunOf, WorkerRan, is_work}
pub use Rattle.workload_runs.specs.Turns.{Turn, stayed, turn_of}
