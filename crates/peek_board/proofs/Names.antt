-- The names that the proofs of this crate cite of lower crates and of its own specs/, passed on from one place. Declares nothing.
pub use Rattle.std.proofs.Common.{Bool, List, None, Option, Some, [], ap, append-nil, append_assoc, arith, eqb-true, false, get_or, get_or-set_other, get_or-set_same, if◌then◌else◌, inl, inr, length, length-set, max, nat_lt, refl, replicate, set, subst, suc, sym, true, vec_capacity, vec_len, zero, ℕ, ⊎_elim, ◌%◌, ◌++◌, ◌+◌, ◌-◌, ◌/◌, ◌<◌, ◌==◌, ◌^◌, ◌∙◌, ◌∷◌, ◌≡◌, ◌≢◌, ◌≤◌, ◌⊎◌}
pub use lib.ListN.{get_elem?}
pub use mathlib.Core.Logic.{dite}
pub use mathlib.Core.Option.{none, some, some-injective, some-ne-none}
pub use native.Mathlib.Decide.{dec_le, ℕ_discrete}
pub use Rattle.atomic_table.proofs.Lists.{at_longer, at_set, at_snoc, set_else}
pub use Rattle.atomic_table.specs.Seated.{TableId}
pub use Rattle.atomic_table.specs.Table.{Allows, Final, Joins, Seen, Splits, State, keeps, step}
pub use Rattle.history.specs.Histories.{Extends, StartsWith, entry}
pub use Rattle.mtapi_values.specs.declared.handles.TaskHandle.{TaskHandle}
pub use Rattle.peek_board.specs.Marks.{AreEndsSeen, CellSeat, EndsSo, Gathered, HasEndedSo, IsMarksOf, IsOf, MarksView, TellsEnd, seat_of_marks}
pub use Rattle.peek_board.specs.Numbers.{OnBoard, Pair, class_number, class_of, class_of_end, ended_so, generation_in_two, number_of_pair, peek_of, slot_in_two}
pub use Rattle.peek_board.specs.Rule.{Among, Has, BoardKnown, Rule, heard_of, loaded, loading, left_by_join, one_less, one_new, part_of, posted, seats_in, telling, together}
pub use Rattle.peek_board.specs.Seats.{JoinedView, ShowsEnd, fresh_board_seat, joined_of, with_seat}
pub use Rattle.peek_board.specs.declared.views.SeatLists.{SeatLists}
pub use Rattle.peek_board.specs.declared.words.BoardTerms.{BoardTerms}
pub use Rattle.turn_cell.specs.Lists.{AllItems, one_if}
