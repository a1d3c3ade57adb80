-- The names that the proofs of this crate cite of lower crates and of its own specs/, passed on from one place. Declares nothing.
pub use Rattle.std.proofs.Common.{Bool, List, Option, Some, [], ap, arith, cond, false, get_or, inl, inr, length, length-append, refl, replicate, set, subst, suc, sym, true, zero, ℕ, ◌++◌, ◌+◌, ◌<◌, ◌^◌, ◌∙◌, ◌∷◌, ◌≡◌, ◌≤◌}
pub use Rattle.std.proofs.lemmas.Bool.Decides.{nat_tests}
pub use Rattle.std.specs.Prelude.{IfOk, IfSome, IsErr, None, Ok, Result, slice_index, ◌==◌, ◌↔◌}
pub use Rattle.handle_pool.specs.Issued.{Listed, live_object}
pub use Rattle.handle_pool.specs.Slots.{Slot, Slots, free_slot, generation_of, slot_of, value_at}
pub use Rattle.history.specs.Histories.{entry}
pub use Rattle.mtapi_layouts.proofs.Histories.{all_stay, history_named, history_turns, opening_turns, pends_turned, step_turns}
pub use Rattle.mtapi_layouts.specs.Named.{AreNamed, Named, NoHandle, TaskIsNamed}
pub use Rattle.mtapi_layouts.specs.Ops.{IsSmall, IssuesSmall, answered_kind, inward_op, outward, outward_reply}
pub use Rattle.mtapi_layouts.specs.Turned.{in_layout_one, state_in_one, turned_list, turned_task}
pub use Rattle.mtapi_layouts.specs.Turns.{AllIssueSmall, inner_entries, outer_entries}
pub use Rattle.mtapi_machine.specs.Kept.{counted, counts_next, drops, is_dropped, is_pending, no_counts, pends_alike}
pub use Rattle.mtapi_machine.specs.Legal.{IsNext, Legal, NodeEntry, after, next}
pub use Rattle.mtapi_machine.specs.State.{State, opening}
pub use Rattle.mtapi_machine.specs.declared.ops.Op.{Op}
pub use Rattle.mtapi_machine.specs.declared.replies.Reply.{Reply}
pub use Rattle.mtapi_machine.specs.declared.terms.Terms.{Terms}
pub use Rattle.mtapi_values.specs.Attributes.{NodeSettings}
pub use Rattle.mtapi_values.specs.declared.handles.Layout.TheVariants.{One, Two}
pub use Rattle.mtapi_values.specs.declared.handles.ObjectKind.{ObjectKind}
pub use Rattle.node_core.specs.Keeping.{KeptAs}
pub use Rattle.node_core.specs.Logs.{AddsTo, HasTerms, IsKeptJournal, KeepsOf, LoggedFrom, Logs, keeps, lost}
pub use Rattle.node_core.specs.Parts.{Agrees, AgreesIn, IsPast, lists_in, same_fields}
pub use Rattle.node_core.specs.Stands.{NodeStands, node_history_of, seat_count, terms_of_node}
pub use Rattle.node_core.specs.declared.node.Node.{Node}
pub use Rattle.node_journals.specs.Journals.{KeptEntries, kept_of, skipped_of}
unfoldable pub use Rattle.handle_pool.specs.Issued.{issued_at, retired}
unfoldable pub use Rattle.mtapi_machine.specs.Kept.{counts_after, kept, skipped}
unfoldable pub use Rattle.mtapi_machine.specs.Legal.{LegalFrom, after_from}
