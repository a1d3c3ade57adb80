use Rattle.node_with_workers.specs.Clients.{SeatGoesOn}
use Rattle.workload_runners.specs.Turns.{SameNodeSeat}
use Rattle.mtapi_two_callers.proofs.AddingClient.call.Given as goal

abbrev pub invariant-loop-number : goal.invariant-loop-number
invariant-loop-number g l = SameNodeSeat l.fn.caller l.caller × SeatGoesOn l.fn.caller l.caller
