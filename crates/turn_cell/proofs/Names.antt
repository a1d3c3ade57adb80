-- The names that several proof files cite, from one place.
pub use Rattle.atomic_table.proofs.Lists.{at_set, at_snoc, set_again, set_else}
pub use Rattle.atomic_table.specs.Seated.{TableId}
pub use Rattle.atomic_table.specs.Table.{Act, Allows, Final, Joins, Me, Seen, Splits, State, Valid, carried_after, gives, homes_after, keeps, opening, rest, step, takes}
pub use Rattle.history.proofs.Growth.{other_more, own_more, starts_longer, starts_self}
pub use Rattle.history.specs.Histories.{Extends, StartsWith, entries_of, entry}
pub use Rattle.history.specs.declared.entries.Entry.{Entry}
pub use Rattle.std.proofs.Common.{Bool, List, None, Option, Some, [], ap, append_assoc, arith, drop, eq-eqb, false, get_or, inl, inr, length, length-append, map, ne_eqb, refl, set, subst, suc, sym, take, true, vec_len, zero, ℕ, ⊎_elim, ◌%◌, ◌++◌, ◌+◌, ◌-◌, ◌<◌, ◌==◌, ◌^◌, ◌∙◌, ◌∷◌, ◌≡◌, ◌≢◌, ◌≤◌, ◌⊎◌}
pub use Rattle.turn_cell.specs.Lists.{AllItems, one_if, total_by}
pub use Rattle.turn_cell.specs.Seats.{HasSeenMore, IsComplete, IsSeatOf, SeatView, fresh_seat, fresh_seats, numbered}
pub use Rattle.turn_cell.specs.Turns.{FitsPart, Invariant, Knows, TookObject, after_draw, after_pass, after_take, boxed_stands, boxed_terms, count, drew, foremost_part, fresh_part, fresh_parts, has_number, has_ticket, has_turn, having_seen, holds_turn, looked, observed, part_entry, passed, parts_behind, waits_or_holds}
pub use Rattle.turn_cell.specs.Views.{Gathers, IsPartOf, first_or, is_idle, view_of, within}
pub use Rattle.turn_cell.specs.declared.parts.Part.{Part}
pub use Rattle.turn_cell.specs.declared.parts.Stage.TheVariants.{Holds, Idle, Waits}
pub use lib.ListN.{get_elem?}
pub use mathlib.Core.Logic.{dite}
pub use mathlib.Core.Option.{none, some, some-injective, some-ne-none}
pub use native.Mathlib.Decide.{ℕ_discrete}
