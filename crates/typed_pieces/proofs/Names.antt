-- The names that several proof files cite, from one place.
pub use Rattle.history.specs.Histories.{entries_of, entry}
pub use Rattle.mtapi_machine.specs.Legal.{Legal, NodeEntry}
pub use Rattle.mtapi_machine.specs.declared.replies.Reply.{Reply}
pub use Rattle.mtapi_values.specs.Attributes.{NodeSettings, TaskAttributes}
pub use Rattle.mtapi_values.specs.declared.handles.TaskHandle.{TaskHandle}
pub use Rattle.mtapi_values.specs.declared.statuses.MtapiStatus.{MtapiStatus}
pub use Rattle.node_journals.specs.declared.entries.Journal.{Journal}
pub use Rattle.node_with_workers.proofs.Lemmas.{causes_alone, refused_weaker, run_alone}
pub use Rattle.node_with_workers.specs.Clients.{CallerEnters, SeatGoesOn, HasCalled, IfRefused, MainOpens}
pub use Rattle.node_with_workers.specs.Runs.{HaveCalled, IsClientRun, IsRunOfAll, RefusesOne, terms_among, terms_of_main}
pub use Rattle.sched_workers.specs.Answers.{AnswersReply, Called, Waited, start_of, with_handle_number}
pub use Rattle.std.proofs.Common.{Err, IfErr, IfOk, IfSome, List, None, Ok, OkIff, Option, Result, Some, Vec, [], ap, append_assoc, arith, drop, false, get_or, inl, inr, length, map, negsuc, pos, refl, rules, slice_get, slice_set, subst, suc, sum_by, sym, take, unsigned_abs, vec_len, zero, ℕ, ℤ, ⊎_elim, ◌*◌, ◌++◌, ◌+◌, ◌-◌, ◌<◌, ◌^◌, ◌∙◌, ◌∷◌, ◌≡◌, ◌≤◌, ◌⊎◌}
pub use Rattle.std.proofs.Math.Seq.{drop-append_seam, take-add, take-append_seam}
pub use Rattle.std.proofs.lemmas.Bool.Decides.{nat_tests}
pub use Rattle.std.proofs.lemmas.List.{append-nil, drop-drop, length-append, length-map, length-set, map-append, nil_from_length, same_from_push}
pub use Rattle.std.proofs.lemmas.List.Elements.{All-cons, All-map, All-nil, All-push}
pub use Rattle.std.proofs.lemmas.List.Sums.{sum_by-append}
pub use Rattle.std.proofs.lemmas.Option.{get_or_from_slice_get, none-some, same_Some, slice_get_read, slice_get_within}
pub use Rattle.std.specs.List.{All, AllZip}
pub use Rattle.std.specs.declared.alloc.Global.{Global}
pub use Rattle.typed_pieces.specs.Levels.{AreOpen, GivesResult, Waits, parts_of, pending_of}
pub use Rattle.typed_pieces.specs.Places.{AreFrom, AreKept, IsKeptAt}
pub use Rattle.typed_pieces.specs.Runs.{EndsRefused, FailsBy, HasAwaited, HasRun, HasRunAll, HasStarted, RefusesPieces, StopsAt, at_action, at_group, at_start, at_look, spent, every_worker, starts_of}
pub use Rattle.typed_pieces.specs.Split.{AllKept, IsKeptBy, JoinsTo}
pub use Rattle.typed_pieces.specs.SplitRuns.{AreLevelsCounted, HaveRun, IsOver, SplitFails, pieces_of_levels}
pub use Rattle.typed_pieces.specs.declared.level.Pending.{Pending}
pub use Rattle.typed_pieces.specs.declared.split_run.LevelRun.{LevelRun}
pub use Rattle.workload_runners.specs.Replies.{done, given, handle_told, mtapi_standard}
pub use Rattle.workload_runners.specs.Turns.{SameNodeSeat, Seat}
pub use Rattle.workload_runs.specs.declared.calls.Wanted.{Wanted}
pub use base.Logic.{mono_r, via}
pub use borrow.Fn.Kinds.{sig_of}
pub use contract.Monad.{fact_mono}
pub use denote.Triple.Entry.{on_entry}
pub use mathlib.Core.Logic.{∥∥₁_elim}
pub use seplogic.Bi.Basic.{Entails-prop}
