-- The names that several proof files cite, from one place.
pub use Rattle.history.specs.Histories.{StartsWith, entries_of, entry}
pub use Rattle.mtapi_machine.specs.Legal.{Legal, NodeEntry}
pub use Rattle.mtapi_machine.specs.declared.ops.Op.{Op}
pub use Rattle.mtapi_machine.specs.declared.ops.Op.TheVariants.{Close, Final, Initialize, Release}
pub use Rattle.mtapi_machine.specs.declared.replies.Reply.{Reply}
pub use Rattle.mtapi_machine.specs.declared.terms.Terms.{Terms}
pub use Rattle.mtapi_values.specs.Attributes.{NodeSettings}
pub use Rattle.mtapi_values.specs.declared.statuses.MtapiStatus.{MtapiStatus}
pub use Rattle.node_core.specs.Keeping.{KeptAs}
pub use Rattle.node_core.specs.Logs.{journal_seats}
pub use Rattle.node_core.specs.declared.journaled.JournaledTerms.{JournaledTerms}
pub use Rattle.node_journals.specs.declared.entries.Journal.{Journal}
pub use Rattle.node_with_workers.specs.Clients.{CallerEnters, Enters, SeatGoesOn, HasCalled, IfRefused, IsKeptOut, IsNotOpened, IsCallRefused, IsUnbegun, IsUnopened, HasThreads, IfFailed, IfNoThread, MadeNoCall, MainOpens, Opens, SaysOf, is_no_thread}
pub use Rattle.node_with_workers.specs.Runs.{AreRefused, HasEndedBy, HaveCalled, IsNotEnded, IsRunBy, IsRunOfAllBy, Refuses, RefusesOne, terms_among}
pub use Rattle.sched_workers.specs.Answers.{AnswersReply, Called, Waited, with_handle_number}
pub use Rattle.workload_runners.specs.Replies.{done, handle_told, mtapi_standard}
pub use Rattle.workload_runners.specs.Turns.{SameNodeSeat, Seat}
pub use Rattle.std.proofs.Common.{Err, List, None, Ok, Option, Result, Some, [], ap, append_assoc, arith, drop, inl, inr, length, map, refl, rules, subst, suc, sym, take, true, Vec, vec_len, zero, ℕ, ◌++◌, ◌+◌, ◌-◌, ◌<◌, ◌^◌, ◌∙◌, ◌∷◌, ◌≡◌, ◌≤◌}
pub use Rattle.std.proofs.lemmas.Bool.Decides.{nat_tests}
pub use Rattle.std.proofs.lemmas.List.{append-nil, length-append, length-map, length-take, same_from_push, take-append-drop, take-append-le, take_all}
pub use Rattle.std.proofs.lemmas.Result.{IfErr-weaker, IfOk-at_ok, IfOk-weaker}
pub use Rattle.std.specs.Prelude.{All, IfErr, IfOk, false}
pub use Rattle.turn_cell.specs.Lists.{AllItems}
pub use Rattle.turn_cell.specs.Seats.{IsComplete, IsSeatOf, fresh_seat, fresh_seats}
pub use Rattle.workload_runs.specs.declared.calls.Wanted.TheVariants.{Entrance}
