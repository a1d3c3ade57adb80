use Rattle.std.specs.Prelude.{◌≡◌}
use Rattle.node_core_tests.proofs.cells.make_groups.Given as goal

abbrev pub invariant-loop : goal.invariant-loop
invariant-loop g l = l.seat.cell ≡ l.fn.seat.cell
