-- The names that the proofs of this crate cite of lower crates and of its own specs/, passed on from one place. Declares nothing.
pub use Rattle.std.proofs.Common.{Bool, List, None, Option, Some, [], ap, arith, cond, false, inl, refl, subst, sym, true, ℕ, ◌%◌, ◌&&◌, ◌*◌, ◌+◌, ◌-◌, ◌/◌, ◌<◌, ◌^◌, ◌∙◌, ◌∷◌, ◌≡◌, ◌≤◌}
pub use Rattle.std.proofs.lemmas.Bool.{eq-eqb, eqb-true}
pub use Rattle.std.proofs.lemmas.Bool.Decides.{nat_tests}
pub use Rattle.std.specs.Option.{IfSome, option_map}
pub use Rattle.std.specs.Prelude.{not, ◌==◌}
pub use Rattle.handle_pool.proofs.LiveLemmas.{same_tests}
pub use Rattle.handle_pool.specs.Inside.{Agree}
pub use Rattle.handle_pool.specs.Issued.{Listed, live_object}
pub use Rattle.handle_pool.specs.Slots.{generation_of, slot_of}
pub use Rattle.mtapi_layouts.specs.Inward.{HasKindRoom, NamesThisKind, inward, or_zero}
pub use Rattle.mtapi_layouts.specs.Named.{AreNamed, Named, TaskIsNamed}
pub use Rattle.mtapi_layouts.specs.Ops.{HandleIsSmall, IsSmall, IssuesSmall, inward_op, outward, outward_reply}
pub use Rattle.mtapi_layouts.specs.Turned.{in_layout_one, room_one, state_in_one, turned_list, turned_task}
pub use Rattle.mtapi_machine.specs.KeyedRows.{Keyed, creates_keyed, keyed_mutexes, keyed_queues, keyed_rwls, keyed_segments, keyed_sems}
pub use Rattle.mtapi_machine.specs.Moves.{Fields, Groups, Move, Queues, Sort, after_moves, all_of, apply, is_fresh, makes, makes_action, starts_task}
pub use Rattle.mtapi_machine.specs.Row.{Allows, Row, after_row, creates, gives, handle_of, moves_of, mtapi_unless, on, only, unless}
pub use Rattle.mtapi_machine.specs.Rows.{row}
pub use Rattle.mtapi_machine.specs.State.{Objects, State, actions, opening, queues, tasks}
pub use Rattle.mtapi_machine.specs.TaskRows.{asked_for, asked_of, start_refusals}
pub use Rattle.mtapi_machine.specs.declared.ops.Op.{Op}
pub use Rattle.mtapi_machine.specs.declared.replies.Reply.{Reply}
pub use Rattle.mtapi_machine.specs.declared.replies.Reply.TheVariants.{Given, Handle, Ok, Picked}
pub use Rattle.mtapi_objects.specs.Actions.{has_enabled_job, has_job, new_action}
pub use Rattle.mtapi_renaming.proofs.Lists.{IsOther, found-has, found-other, found-renamed, has-issue}
pub use Rattle.mtapi_renaming.proofs.Rows.{Alike, HasAnswer, IsRenamed, gives_renamed, is_plain, live_alike, mrapi_alike, only_alike, says_alike, sort-any, sort-found, unless_alike, unless_then}
pub use Rattle.mtapi_renaming.proofs.TaskRows.{action-any, count-in, group_missing, served}
pub use Rattle.mtapi_renaming.specs.Follows.{FitsState, HasEach, HasTaskNames, NoHandle}
pub use Rattle.mtapi_renaming.specs.Ops.{answered_kind, renamed_answer, renamed_reply}
pub use Rattle.mtapi_renaming.specs.Renamed.{renamed, renamed_task}
pub use Rattle.mtapi_values.specs.Layouts.{named_kind, names_kind, object_number, outer}
pub use Rattle.mtapi_values.specs.declared.handles.Layout.TheVariants.{Two}
pub use Rattle.mtapi_values.specs.declared.handles.ObjectKind.{ObjectKind}
unfoldable pub use Rattle.handle_pool.specs.Inside.{inside}
unfoldable pub use Rattle.handle_pool.specs.Issued.{is_full, issued_at, may_issue, retired}
