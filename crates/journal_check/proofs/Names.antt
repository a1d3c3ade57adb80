-- The names that the proofs of this crate cite of lower crates and of its own specs/, passed on from one place. Declares nothing.
pub use Rattle.std.proofs.Common.{Bool, Decides, IsSome, IsTrue, List, MatchBool, None, Option, Some, [], add-one, ap, arith, cond, drop, eq-eqb, eqb-true, false, get_or, length, length-append, refl, subst, suc, sym, take, take-append-drop, take-take, take_all, true, zero, ℕ, ◌++◌, ◌+◌, ◌<◌, ◌↔◌, ◌∙◌, ◌∷◌, ◌≡◌, ◌≤◌}
pub use Rattle.std.proofs.lemmas.Bool.Decides.{nat_tests}
pub use Rattle.std.specs.Prelude.{nat_le, not, ◌&&◌, ◌-◌, ◌==◌}
pub use Rattle.handle_pool.specs.Issued.{Listed, how_many}
pub use Rattle.handle_pool.specs.Slots.{generation_of, slot_of}
pub use Rattle.history.specs.Histories.{entry}
pub use Rattle.journal_check.specs.Follow.{HasFollowed, JudgesEntry, JudgesNext, Mirrors, Same, last_generation, room_of}
pub use Rattle.journal_check.specs.Laws.{Laws}
pub use Rattle.journal_check.specs.Made.{EndsObjects, EndsOne, NotesObject, TellsState, made_in_slot, freed_count, gone_count, last_handles, made_count, of_kind, with_gone}
pub use Rattle.journal_check.specs.Verdicts.{IsFirstIllegal, IsLegal, IsJournalRun, IsVerdict}
pub use Rattle.journal_check.specs.declared.following.Following.{Following}
pub use Rattle.journal_check.specs.declared.made.Made.{Made}
pub use Rattle.journal_check.specs.declared.made.MadeOfKind.{MadeOfKind}
pub use Rattle.mtapi_machine.proofs.Lists.{Legal-append, Legal-one, Legal-prefix, Legal-rest, after-one}
pub use Rattle.mtapi_machine.specs.Legal.{Fits, IsHonest, IsNext, Legal, NodeEntry, after, next, row_of}
pub use Rattle.mtapi_machine.specs.Row.{Allows, after_row, handle_of}
pub use Rattle.mtapi_machine.specs.Rows.{row}
pub use Rattle.mtapi_machine.specs.State.{State, opening, seats, terms_with}
pub use Rattle.mtapi_machine.specs.declared.ops.Op.{Op}
pub use Rattle.mtapi_machine.specs.declared.replies.Reply.{Reply}
pub use Rattle.mtapi_machine.specs.declared.replies.Reply.TheVariants.{Handle, Picked}
pub use Rattle.mtapi_machine.specs.declared.terms.Terms.{Terms}
pub use Rattle.mtapi_renaming.specs.Counts.{MakesNone, MakesOne, is_next_of, made_at, made_in, most_of}
pub use Rattle.mtapi_renaming.specs.Follows.{Follows}
pub use Rattle.mtapi_renaming.specs.Gone.{AreGone, gone_in, taken_in}
pub use Rattle.mtapi_renaming.specs.Kinds.{CanBe, is_fresh_of, is_full_of, is_handle, is_live_of, limit_of, live_in, made_kind, takes_task}
pub use Rattle.mtapi_renaming.specs.Lasts.{MakesLast, gone_of, lasts_of, with_last_handle}
pub use Rattle.mtapi_renaming.specs.Laws.{CreateRenames, StepRenames}
pub use Rattle.mtapi_renaming.specs.Maps.{renaming_of}
pub use Rattle.mtapi_renaming.specs.Ops.{renamed_answer, renamed_op, renamed_reply}
pub use Rattle.mtapi_renaming.specs.Refusals.{CanAnswer, refusal_of}
pub use Rattle.mtapi_renaming.specs.Renamed.{Room, renamed, terms_in}
pub use Rattle.mtapi_renaming.specs.Renaming.{Renaming, renames_nothing, with_pair}
pub use Rattle.mtapi_renaming.specs.declared.maps.OtherHandles.{OtherHandles}
pub use Rattle.mtapi_values.specs.Layouts.{names_kind, object_number}
pub use Rattle.mtapi_values.specs.declared.handles.ObjectKind.{ObjectKind}
pub use Rattle.node_steps.specs.Stands.{PoolNodeStands, seat_count}
pub use Rattle.node_steps.specs.declared.node.PoolNode.{PoolNode}
unfoldable pub use Rattle.handle_pool.specs.Issued.{issued_at}
unfoldable pub use Rattle.mtapi_machine.specs.Legal.{LegalFrom, after_from}
unfoldable pub use Rattle.mtapi_renaming.specs.Lasts.{lasts_in}
