-- The names that several proof files cite, from one place.
pub use Rattle.handle_pool.proofs.CountLemmas.{live_count-insert, live_count-new, live_count-with_value, live_count-without, max_of-insert, max_of-new, max_of-with_value, max_of-without}
pub use Rattle.handle_pool.proofs.StandsLemmas.{IsFull-limit, IsFull-room, Stands-insert, Stands-new, Stands-remove, Stands-update, get-fresh, may_issue-insert}
pub use Rattle.handle_pool.specs.Issued.{Listed, any_listed, any_live, first_handle, gone, how_many, live_object, lookup, retire, update, with_fields}
pub use Rattle.handle_pool.specs.Slots.{Inserts, IsFull, Slots, free_slot, generation_of, max_of, slot_of, slot_value, with_value, without}
pub use Rattle.handle_pool.specs.Walks.{HasLive, NoneBelow, NoneLive, OneEach}
pub use Rattle.history.specs.Histories.{StartsWith, entry}
pub use Rattle.history.specs.Row.{after_each_move}
pub use Rattle.mcapi_msg.specs.Answers.{MsgAnsweredBy, MsgCalled, Done, Hands, IsAnswer, MsgLooks, NamesEndpoint, RanOut, Received, PostSeat, TimedOut, is_spent, look_for, state_at}
pub use Rattle.mcapi_msg.specs.Boxes.{AreEmpty, BoxTable, HasFree, HasPort, HasSpace, IsRingKept, new_mailbox, owner_refusal, with_rings}
pub use Rattle.mcapi_msg.specs.Endpoints.{Endpoint, has_port, last_endpoint_generation, message_of_seat, new_endpoint, next_of, of_priority, sooner, with_first_gone, with_message, without_message}
pub use Rattle.mcapi_msg.specs.Legal.{FitsPost, MsgIsNext, MsgLegal, MsgEntry, msg_after, msg_next, post, msg_row_of}
pub use Rattle.mcapi_msg.specs.Rings.{RingTable, messages_in, empty_rings, first_in, with_last_message, without_front}
pub use Rattle.mcapi_msg.specs.Row.{Allows, MsgMove, MsgRow, MsgState, apply_msg_move, gives, msg_handle_of, live, moves_of, only, opening_post, opens, says, unless}
pub use Rattle.mcapi_msg.specs.Rows.{names, no_message, msg_row}
pub use Rattle.mcapi_msg.specs.Stands.{AreInRange, HoldsEndpoints, HavePriorities, PostStands, PostSteps, kept_as, rings_of, post_state_of, post_terms_of}
pub use Rattle.mcapi_msg.specs.declared.boxes.Mailbox.{Mailbox}
pub use Rattle.mcapi_msg.specs.declared.messages.EndpointHandle.{EndpointHandle}
pub use Rattle.mcapi_msg.specs.declared.messages.Waiting.{Waiting}
pub use Rattle.mcapi_msg.specs.declared.ops.MsgOp.{MsgOp}
pub use Rattle.mcapi_msg.specs.declared.ops.MsgReply.{MsgReply}
pub use Rattle.mcapi_msg.specs.declared.ops.MsgReply.TheVariants.{Got, Pending, Refused}
pub use Rattle.mcapi_msg.specs.declared.post.Post.{Post}
pub use Rattle.mcapi_msg.specs.declared.post.PostTerms.{PostTerms}
pub use Rattle.mcapi_msg.specs.declared.statuses.MsgStatus.{MsgStatus}
pub use Rattle.std.proofs.Common.{Bool, Err, List, None, Ok, Option, Result, Some, [], ap, append_assoc, arith, cond, false, inl, inr, length, length-append, not, refl, replicate, rules, subst, suc, sym, true, vec_capacity, vec_len, zero, ℕ, ◌&&◌, ◌++◌, ◌+◌, ◌<◌, ◌∙◌, ◌∷◌, ◌≡◌, ◌≢◌, ◌≤◌, ◌⊎◌}
pub use Rattle.std.proofs.lemmas.Bool.{cases_eq, eq-eqb, eqb-true}
pub use Rattle.std.proofs.lemmas.Bool.Decides.{nat_tests}
pub use Rattle.std.proofs.lemmas.List.{append-nil, length-replicate}
pub use Rattle.std.specs.Option.{option_copied_mut}
pub use Rattle.std.specs.Prelude.{IfOk, OnErr, nat_le, nat_lt, option_copied, ◌==◌}
pub use Rattle.turn_looks.specs.Looks.{Looked, pends}
pub use Rattle.std.proofs.lemmas.Option.{same_Some}
