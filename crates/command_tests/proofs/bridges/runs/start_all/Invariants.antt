use Rattle.std.specs.Prelude.{◌≡◌}
use Rattle.command_tests.proofs.bridges.runs.start_all.Given as goal

abbrev pub invariant-loop : goal.invariant-loop
invariant-loop g l = l.seat.cell ≡ l.fn.seat.cell
