-- The names that several proof files cite, from one place.
pub use Rattle.history.specs.Histories.{Extends, entries_of, entry}
pub use Rattle.history.specs.declared.entries.Entry.{Entry}
pub use Rattle.std.proofs.Common.{Bool, Err, List, Ok, Option, Result, Some, [], ap, append_assoc, arith, cond, false, length, length-append, refl, subst, sym, true, ℕ, ◌++◌, ◌+◌, ◌<◌, ◌∙◌, ◌∷◌, ◌≡◌, ◌≢◌}
pub use Rattle.std.proofs.lemmas.Bool.Decides.{nat_tests}
pub use Rattle.std.specs.Prelude.{IfErr, IfOk, MatchOption, OnErr, ◌==◌, ◌^◌, ◌≤◌}
pub use Rattle.turn_cell.specs.Seats.{SeatView}
pub use Rattle.turn_looks.specs.Looks.{Looked, Pended, StillLooking, pends}
pub use Rattle.turn_looks.specs.Turns.{SameSeat, Turned, Unturned}
