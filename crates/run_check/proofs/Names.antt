-- The names that the proofs of this crate cite of lower crates and of its own specs/, passed on from one place. Declares nothing.
pub use Rattle.std.proofs.Common.{Bool, List, None, Option, [], ap, append_assoc, arith, cond, drop, false, get_or, inl, inr, length, length-drop, refl, subst, suc, sym, take, true, ℕ, ◌++◌, ◌+◌, ◌-◌, ◌<◌, ◌∙◌, ◌∷◌, ◌≡◌, ◌≤◌, ◌⊎◌}
pub use Rattle.std.proofs.Math.Seq.{take-length}
pub use Rattle.std.proofs.lemmas.Bool.Decides.{Decides-eqb}
pub use Rattle.std.proofs.lemmas.Grind.{take_at_read}
pub use Rattle.std.proofs.lemmas.List.{append-nil, drop_more, length-take-le, nil_from_length}
pub use Rattle.std.specs.Prelude.{IfNone, IfSome, IsTrue, ◌&&◌, ◌==◌, ◌↔◌}
pub use Rattle.mtapi_machine.specs.Kept.{is_pending}
pub use Rattle.mtapi_machine.specs.Legal.{NodeEntry}
pub use Rattle.mtapi_machine.specs.Row.{handle_of}
pub use Rattle.mtapi_machine.specs.declared.ops.Op.{Op}
pub use Rattle.mtapi_machine.specs.declared.replies.Reply.{Reply}
pub use Rattle.run_check.specs.Ends.{Closes, StaysClosed}
pub use Rattle.run_check.specs.Same.{IsStated}
pub use Rattle.run_check.specs.Takes.{DecidesAs, Takes}
pub use Rattle.workload_file.specs.declared.workload.Part.{Part}
pub use Rattle.workload_file.specs.declared.workload.Statement.{Statement}
pub use Rattle.workload_runs.specs.Calls.{Call, IsOnce, Looking, Once, call_of}
pub use Rattle.workload_runs.specs.Lines.{Line, MadeLines, before_it, head_lines, in_lines, line_with, looks_before, tail_of_main}
pub use Rattle.workload_runs.specs.Parts.{CallerRan, MainRan, PartsRan, has_begin}
pub use Rattle.workload_runs.specs.RunOf.{ClosesAtEnd, WorkerRan, is_work}
pub use Rattle.workload_runs.specs.Wants.{IsTimed, Stated, op_of_look, shape, waits}
pub use Rattle.workload_runs.specs.declared.calls.Wanted.{Wanted}
pub use Rattle.workload_runs.specs.declared.calls.Wanted.TheVariants.{AllMembers, Entrance, FirstMember, Mutex, Rwl, Sem, Task}
unfoldable pub use Rattle.run_check.specs.Takes.{CarriedTo}
unfoldable pub use Rattle.workload_runs.specs.Lines.{lines_of}
unfoldable pub use Rattle.workload_runs.specs.Parts.{CallersRan, Carried}
unfoldable pub use Rattle.workload_runs.specs.RunOf.{all_work}
