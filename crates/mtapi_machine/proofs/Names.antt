-- The names that the proofs of this crate cite of lower crates and of its own specs/, passed on from one place. Declares nothing.
pub use Rattle.std.proofs.Common.{rules, Bool, List, None, Option, Some, ap, arith, cond, false, pos, refl, subst, suc, sym, true, zero, ℕ, ℤ, ◌++◌, ◌+◌, ◌<◌, ◌∙◌, ◌∷◌, ◌≡◌, ◌≤◌, []}
pub use Rattle.std.proofs.lemmas.Bool.Decides.{Decides-eqb, Decides-int_eq, nat_tests}
pub use Rattle.std.specs.Bool.{Decides, MatchBool}
pub use Rattle.std.specs.Prelude.{if◌then◌else◌, is_none, is_some, length, nat_le, nat_lt, not, ◌&&◌, ◌==◌}
pub use denote.Enum.Bare.{Bare, same_true, sameb, true_same}
pub use denote.Enum.Declared.{Choice, Declared, Record, values_one}
pub use mathlib.Core.Logic.{inl, inr, ◌⊎◌}
pub use Rattle.action_fn.specs.Answers.{Answered}
pub use Rattle.handle_pool.specs.Issued.{Listed, any_listed, any_live, first_handle, gone, live_object, lookup, retire, update, with_fields}
pub use Rattle.history.specs.Histories.{entry}
pub use Rattle.mtapi_machine.specs.GroupRows.{gives_end, gives_first, verdict}
pub use Rattle.mtapi_machine.specs.Kept.{drops, is_dropped, pends_alike}
pub use Rattle.mtapi_machine.specs.KeyedRows.{Keyed, alters_one, creates_keyed, deletes, found, gets, looks_one, mrapi_unless}
pub use Rattle.mtapi_machine.specs.Laws.{AreAbove, AreMade, DropsRightly, Grows, IsBy, IsMade, IsServed, Rises, Stays, comes_with_change, is_status, may_move, may_say, start_numbers}
pub use Rattle.mtapi_machine.specs.Legal.{Fits, IsHonest, IsNext, Legal, NodeEntry, after, next, node, row_of}
pub use Rattle.mtapi_machine.specs.Moves.{Fields, Groups, Move, Mutexes, Queues, Rwls, Segments, Sems, Sort, after_moves, all_of, alters, apply, enables, ends_task, ends_waiting, frees_members, is_fresh, leaves, lets_members_go, makes, makes_action, notes, removes, runs_task, starts_task, stops, withdraws}
pub use Rattle.mtapi_machine.specs.Replay.{answer_of_row, corrected, is_sound}
pub use Rattle.mtapi_machine.specs.Row.{Allows, Row, after_row, gives, handle_of, live, moves_of, mtapi_unless, never, not_yet, only, says, unless}
pub use Rattle.mtapi_machine.specs.Rows.{row}
pub use Rattle.mtapi_machine.specs.State.{FieldsOf, Objects, State, end_tasks, is_open, is_stop, objects_of, opening, workers}
pub use Rattle.mtapi_machine.specs.Tables.{TableLine, NoneIsLegal, IsWorkedTable, WrongIsIllegal, finish, h1, node_of, reported, small}
pub use Rattle.mtapi_machine.specs.TallyRows.{gives_up, locks, takes_both}
pub use Rattle.mtapi_machine.specs.TaskRows.{cancels, looks_at}
pub use Rattle.mtapi_machine.specs.WorkRows.{picks}
pub use Rattle.mtapi_machine.specs.declared.ops.Op.{Op}
pub use Rattle.mtapi_machine.specs.declared.ops.Op.TheVariants.{Finish, Pick}
pub use Rattle.mtapi_machine.specs.declared.replies.Reply.{Reply}
pub use Rattle.mtapi_machine.specs.declared.replies.Reply.TheVariants.{Handle, Idle, Mrapi, Mtapi, Pending, Picked, Stop}
pub use Rattle.mtapi_machine.specs.declared.terms.Terms.{Terms}
pub use Rattle.mtapi_objects.specs.Actions.{Action, is_eligible, some_below, with_enabled}
pub use Rattle.mtapi_objects.specs.Groups.{Ending, Group, first_fault, freed, in_no_group, is_unended_member, let_go}
pub use Rattle.mtapi_objects.specs.Mutexes.{Mutex}
pub use Rattle.mtapi_objects.specs.Queues.{Queue, is_in, opened}
pub use Rattle.mtapi_objects.specs.Rwls.{Rwl}
pub use Rattle.mtapi_objects.specs.Segments.{Segment}
pub use Rattle.mtapi_objects.specs.Sems.{Sem}
pub use Rattle.mtapi_objects.specs.Tasks.{Adds, NewTask, Running, Scheduled, Task, TaskState, end_of, ended, is_unended, is_unstarted, new_task, runner, runs_on, tally_args, task_look_refusals, with_notes, with_state, with_waiter}
pub use Rattle.mtapi_values.specs.Conditions.{holds}
pub use Rattle.mtapi_values.specs.declared.ends.TaskEnd.{TaskEnd}
pub use Rattle.mtapi_values.specs.declared.ends.TaskEnd.TheVariants.{Cancelled, Failed}
pub use Rattle.mtapi_values.specs.declared.handles.GroupHandle.{GroupHandle}
pub use Rattle.mtapi_values.specs.declared.handles.QueueHandle.{QueueHandle}
pub use Rattle.mtapi_values.specs.declared.handles.TaskHandle.{TaskHandle}
pub use Rattle.mtapi_values.specs.declared.kinds.Kind.{Kind}
pub use Rattle.mtapi_values.specs.declared.masks.Mask.{Mask}
pub use Rattle.mtapi_values.specs.declared.statuses.MrapiStatus.{MrapiStatus}
pub use Rattle.mtapi_values.specs.declared.statuses.MtapiStatus.{MtapiStatus}
unfoldable pub use Rattle.action_fn.specs.Answers.{answer_of, fits}
unfoldable pub use Rattle.handle_pool.specs.Issued.{change, change_all, is_full, issue, issued_at, listed, live_of, may_issue, retired}
unfoldable pub use Rattle.mtapi_machine.specs.Kept.{kept, skipped}
unfoldable pub use Rattle.mtapi_machine.specs.Legal.{LegalFrom, after_from}
unfoldable pub use Rattle.mtapi_machine.specs.Replay.{replay}
unfoldable pub use Rattle.mtapi_machine.specs.WorkRows.{can_take, has_better, is_ready}
unfoldable pub use Rattle.mtapi_objects.specs.Actions.{has_worker}
unfoldable pub use Rattle.mtapi_objects.specs.Groups.{endings}
unfoldable pub use Rattle.mtapi_objects.specs.Tasks.{end_each}
