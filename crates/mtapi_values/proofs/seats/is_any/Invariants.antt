use Rattle.std.proofs.Common.{◌≡◌, drop}
use Rattle.mtapi_values.specs.Seats.{any_mark}
use Rattle.mtapi_values.proofs.seats.is_any.Given as goal

abbrev pub invariant-loop-mark : goal.invariant-loop-mark
invariant-loop-mark l = any_mark l.marks ≡ any_mark (drop l.mark-index l.marks)
