-- The names that the proofs of this crate cite of lower crates and of its own specs/, passed on from one place. Declares nothing.
pub use Rattle.std.proofs.Common.{Bool, List, None, Option, Result, Some, [], ap, append_assoc, arith, cond, drop, false, get_or, inl, inr, length, length-drop, refl, rules, set, subst, suc, sym, take, true, zero, ℕ, ℤ, ◌&&◌, ◌++◌, ◌+◌, ◌-◌, ◌<◌, ◌∙◌, ◌∷◌, ◌≡◌, ◌≤◌, ◌⊎◌}
pub use Rattle.std.proofs.lemmas.Bool.{and_parts, eqb-true, or_parts}
pub use Rattle.std.proofs.lemmas.Bool.Decides.{nat_tests}
pub use Rattle.std.proofs.lemmas.Grind.{take_at_read}
pub use Rattle.std.proofs.lemmas.List.{append-nil, drop-drop, drop-map, drop_more, get_or-map, length-append, length-map, map-append, nil_from_length, take_all}
pub use Rattle.std.specs.Fmt.{signed_decimal}
pub use Rattle.std.specs.HashMap.{get}
pub use Rattle.std.specs.List.{flat_map, list_any, remove, take-map}
pub use Rattle.std.specs.Prelude.{IfOk, OnOk, codes, is_none, is_some, map, nat_eq, nat_lt, not, option_map, slice_get, ◌==◌, ◌||◌}
pub use Rattle.handle_pool.proofs.ListedLemmas.{Distinct-issue, Distinct-retire, Distinct-update, at-issue, at-retire, at-update, listed-change, listed-issue, live_of-issue, live_of-retire, live_of-update}
pub use Rattle.handle_pool.specs.Issued.{Listed, any_live, gone, live_object, retire, update, with_fields}
pub use Rattle.handle_pool.specs.Stands.{Distinct}
pub use Rattle.mtapi_machine.proofs.Made.{fst_true, snd_true}
pub use Rattle.mtapi_machine.proofs.Moves.{IsKept, IsKeptBy, by_moves}
pub use Rattle.mtapi_machine.specs.Ends.{end_in}
pub use Rattle.mtapi_machine.specs.Legal.{IsNext, Legal, NodeEntry, after, next}
pub use Rattle.mtapi_machine.specs.Moves.{Groups, Move, Mutexes, Queues, Rwls, Segments, Sems, after_moves, alters, apply, enables, ends_task, ends_waiting, frees_members, is_fresh, leaves, lets_members_go, makes_action, notes, phase_is, released, removes, runs_task, starts_task, stops, withdraws}
pub use Rattle.mtapi_machine.specs.Row.{handle_of}
pub use Rattle.mtapi_machine.specs.State.{State, end_task, end_tasks, is_open, opening, terms_with, workers}
pub use Rattle.mtapi_machine.specs.WorkRows.{picks, task_end}
pub use Rattle.mtapi_machine.specs.declared.ops.Op.{Op}
pub use Rattle.mtapi_machine.specs.declared.replies.Reply.{Reply}
pub use Rattle.mtapi_objects.specs.Actions.{Action, has_enabled_job, is_eligible, new_action, some_below, with_enabled}
pub use Rattle.mtapi_objects.specs.Groups.{freed, is_member, let_go}
pub use Rattle.mtapi_objects.specs.Queues.{Queue, is_in, is_shut_in}
pub use Rattle.mtapi_objects.specs.Tasks.{Ended, NewTask, Notes, Running, Task, TaskState, cancel_requested, end_of, ended, is_unended, is_unstarted, new_task, scheduled, watch_end, with_notes, with_state}
pub use Rattle.mtapi_values.specs.Conditions.{holds}
pub use Rattle.mtapi_values.specs.Masks.{in_mask}
pub use Rattle.mtapi_values.specs.declared.ends.TaskEnd.{TaskEnd}
pub use Rattle.mtapi_values.specs.declared.ends.TaskEnd.TheVariants.{Cancelled, Failed}
pub use Rattle.mtapi_values.specs.declared.handles.Layout.{Layout}
pub use Rattle.run_report.specs.Calls.{call_line, call_lines, is_task, task_line, task_lines}
pub use Rattle.run_report.specs.Changes.{effect_of}
pub use Rattle.run_report.specs.Places.{ShowsNames, first_or_second, is_found, is_shown_given, name_bound_at, name_bound, names_by, place_if, shows_given}
pub use Rattle.run_report.specs.Replies.{Told, all_told, calls_before, decides, nows, reported_part}
pub use Rattle.run_report.specs.Report.{parts_told, report_by, run_terms}
pub use Rattle.run_report.specs.Seen.{FollowsSeen, SeenRun, machine_action, ends_where, enqueued, is_left, is_of, is_queue_shut, nothing_seen, opened_live, live_pairs, put_at, live_queue_at, live_queue_of, unstarted_in, unstarted_of, with_action, with_effect, with_end, with_open, withdrawn, without_action}
pub use Rattle.run_report.specs.Standings.{SameAs, can_run, passes_unstarted, place_of_action, seen_in_standings}
pub use Rattle.run_report.specs.Summary.{AreTotals, IsNear, counted_line, no_totals, statements_in, with_summand, with_numbers, with_tasks}
pub use Rattle.run_report.specs.declared.changes.EndEffect.{EndEffect}
pub use Rattle.run_report.specs.declared.changes.EndEffect.TheVariants.{Nothing}
pub use Rattle.run_report.specs.declared.changes.LiveQueue.{LiveQueue}
pub use Rattle.run_report.specs.declared.changes.Unstarted.{Unstarted}
pub use Rattle.run_report.specs.declared.totals.Totals.{Totals}
pub use Rattle.workload_file.specs.declared.workload.Part.{Part}
pub use Rattle.workload_file.specs.declared.workload.Statement.{Statement}
pub use Rattle.workload_file.specs.declared.workload.Workload.{Workload}
pub use Rattle.workload_runs.specs.Parts.{CallerRan, MainRan, PartsRan}
unfoldable pub use Rattle.std.specs.Fmt.{digits}
unfoldable pub use Rattle.handle_pool.specs.Issued.{change, change_all, is_full, issue, issued_at, listed, live_of, may_issue, retired}
unfoldable pub use Rattle.mtapi_machine.specs.Ends.{end_at}
unfoldable pub use Rattle.mtapi_machine.specs.Legal.{LegalFrom, after_from}
unfoldable pub use Rattle.mtapi_machine.specs.WorkRows.{can_take, has_better, is_ready}
unfoldable pub use Rattle.mtapi_objects.specs.Actions.{has_worker}
unfoldable pub use Rattle.mtapi_objects.specs.Tasks.{end_each}
unfoldable pub use Rattle.run_report.specs.Calls.{call_lines_of, shown_of, task_lines_of, task_name}
unfoldable pub use Rattle.run_report.specs.Places.{place_from}
unfoldable pub use Rattle.run_report.specs.Replies.{decided, further_told}
unfoldable pub use Rattle.run_report.specs.Report.{report}
unfoldable pub use Rattle.run_report.specs.Seen.{seen_from, unstarted_at}
unfoldable pub use Rattle.run_report.specs.Summary.{totals, totals_text, with_parts}
unfoldable pub use Rattle.workload_runs.specs.Parts.{CallersRan, Carried, has_begin}
pub use Rattle.node_journals.specs.Shorts.{entry_of}
pub use Rattle.node_journals.specs.declared.shorts.ShortEntry.{ShortEntry}
