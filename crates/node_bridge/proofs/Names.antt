-- The names that the proofs of this crate cite of lower crates and of its own specs/, passed on from one place. Declares nothing.
pub use Rattle.action_fn.specs.Answers.{Answered, is_pure}
pub use Rattle.handle_pool.specs.Issued.{Listed, gone, how_many, live_object, lookup, with_fields}
pub use Rattle.history.specs.Histories.{entries_of, entry}
pub use Rattle.history_law.proofs.Others.{terms_stay, unstarted_untouched, work_stays}
pub use Rattle.history_law.proofs.Reuse.{apart_if, unlisted_if}
pub use Rattle.mtapi_layouts.specs.Turned.{turned_task}
pub use Rattle.mtapi_machine.proofs.Changes.{some_same}
pub use Rattle.mtapi_machine.proofs.Lists.{Legal-front, Legal-rest, after-append, after-one}
pub use Rattle.mtapi_machine.proofs.Moves.{by_moves, rest_keeps}
pub use Rattle.mtapi_machine.specs.Laws.{DeletesGroup, EnablesAction, FreesMembers, IsMade, MakesAction, StartsTask, WithdrawsAction}
pub use Rattle.mtapi_machine.specs.Legal.{Fits, IsNext, Legal as NodeLegal, NodeEntry, after, next}
pub use Rattle.mtapi_machine.specs.Moves.{Groups, Move, Mutexes, Queues, Rwls, Segments, Sems, after_moves, alters, apply, enables, ends_task, ends_waiting, frees_members, is_fresh, leaves, lets_members_go, makes, makes_action, notes, phase_is, released, removes, runs_task, starts_task, stops, withdraws}
pub use Rattle.mtapi_machine.specs.Row.{Allows, Row, gives, handle_of, live, moves_of, mtapi_unless, never, only, unless}
pub use Rattle.mtapi_machine.specs.Rows.{row}
pub use Rattle.mtapi_machine.specs.State.{State, actions, is_open, is_stop, opening, tasks, workers}
pub use Rattle.mtapi_machine.specs.TaskRows.{asked_for, looks_at}
pub use Rattle.mtapi_machine.specs.WorkRows.{picks, task_end}
pub use Rattle.mtapi_machine.specs.declared.ops.Op.{Op}
pub use Rattle.mtapi_machine.specs.declared.replies.Reply.{Reply}
pub use Rattle.mtapi_machine.specs.declared.terms.Terms.{Terms}
pub use Rattle.mtapi_objects.specs.Actions.{Action, action_create_refusals, is_job, new_action}
pub use Rattle.mtapi_objects.specs.Tasks.{Ended, NewTask, Running, Scheduled, Task, TaskState, ended, new_task, with_notes, with_state}
pub use Rattle.mtapi_values.specs.declared.ends.TaskEnd.{TaskEnd}
pub use Rattle.mtapi_values.specs.declared.handles.ActionHandle.{ActionHandle}
pub use Rattle.mtapi_values.specs.declared.handles.TaskHandle.{TaskHandle}
pub use Rattle.mtapi_values.specs.declared.kinds.Kind.{Kind}
pub use Rattle.mtapi_values.specs.declared.masks.Mask.{Mask}
pub use Rattle.mtapi_values.specs.declared.statuses.MtapiStatus.{MtapiStatus}
pub use Rattle.node_bridge.specs.Answers.{AsksNode, Course, LeftBehind, LookEnds, LookForm, LooksOn, LostSight, NotBegun, PickSays, BridgeSeat, StartEnds, StartSays, Told, Unasked, WorkSays, start_entries_in, look_in, bridge_pends, reply_of_start, told_in}
pub use Rattle.node_bridge.specs.Image.{BridgeEntry, asks_node, creates_actions, image, image-append, image_of, inside_reply, op_asked_inside}
pub use Rattle.node_bridge.specs.Jobs.{action_for, mask_of_all, job_of_kind, pure_kinds}
pub use Rattle.node_bridge.specs.Legal.{BegunTask, BridgeLegal, BridgeLegal-prefix, begun_by, begun_from, later_start, bridge_seats}
pub use Rattle.node_bridge.specs.Opening.{NodeHas, IsOpening}
pub use Rattle.node_bridge.specs.Rounds.{BridgeAdded, BridgeAtRest, BridgeAtWork, BridgeFinishes, BridgePickEnds, Ran, BridgeRound, BridgeRounded, Rounds, BridgeServes, BridgeTook, UnusedWorkersRest, bridge_work_of}
pub use Rattle.node_bridge.specs.Stands.{EachLive, EndsAs, IsTaskKept, BridgeStands, flat, noted_in, place_of_task, served_terms_of}
pub use Rattle.node_bridge.specs.declared.ops.BridgeOp.{BridgeOp}
pub use Rattle.node_bridge.specs.declared.ops.BridgeReply.{BridgeReply}
pub use Rattle.node_bridge.specs.declared.served.Noted.{Noted}
pub use Rattle.node_bridge.specs.declared.served.Served.{Served}
pub use Rattle.node_bridge.specs.declared.terms.ServedTerms.{ServedTerms}
pub use Rattle.node_core.specs.Parts.{Agrees, AgreesIn}
pub use Rattle.node_core.specs.Stands.{NodeStands, node_history_of, terms_of_node as node_terms}
pub use Rattle.node_core.specs.declared.node.Node.{Node}
pub use Rattle.std.proofs.Common.{Bool, List, None, Option, Some, Vec, [], ap, append_assoc, arith, cond, eq-eqb, false, get_or, length, length-append, ne_eqb, refl, rules, subst, suc, sym, true, vec_capacity, zero, ℕ, ℤ, ◌++◌, ◌+◌, ◌<◌, ◌∙◌, ◌∷◌, ◌≡◌, ◌≢◌, ◌≤◌}
pub use Rattle.std.proofs.lemmas.Bool.{eqb-true}
pub use Rattle.std.proofs.lemmas.Bool.Decides.{nat_tests}
pub use Rattle.std.proofs.lemmas.List.{append-nil}
pub use Rattle.std.specs.Prelude.{IfSome, Ok, not, slice_get, slice_set, ◌&&◌, ◌==◌, ◌^◌}
pub use Rattle.std.specs.declared.alloc.Global.{Global}
pub use Rattle.turn_looks.proofs.OwnEntries.{entries-append}
pub use Rattle.turn_looks.specs.Turns.{SameSeat, Turned}
unfoldable pub use Rattle.action_fn.specs.Answers.{answer_of, fits}
unfoldable pub use Rattle.handle_pool.specs.Issued.{change, is_full, issue, issued_at, listed, live_of, may_issue, retired}
unfoldable pub use Rattle.mtapi_machine.specs.Legal.{LegalFrom, after_from}
unfoldable pub use Rattle.mtapi_machine.specs.WorkRows.{can_take, has_better, is_ready}
unfoldable pub use Rattle.mtapi_objects.specs.Actions.{has_worker}
unfoldable pub use Rattle.mtapi_objects.specs.Tasks.{end_each}
unfoldable pub use Rattle.node_bridge.specs.Image.{images, opening_entries}
unfoldable pub use Rattle.node_bridge.specs.Legal.{FitFrom, begun_start}
unfoldable pub use Rattle.node_bridge.specs.Rounds.{all_bridge}
