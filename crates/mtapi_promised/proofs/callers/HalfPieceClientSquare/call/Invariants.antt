use Rattle.node_with_workers.specs.Clients.{SeatGoesOn}
use Rattle.workload_runners.specs.Turns.{SameNodeSeat}
use Rattle.mtapi_promised.proofs.callers.HalfPieceClientSquare.call.Given as goal

abbrev pub invariant-loop-place : goal.invariant-loop-place
invariant-loop-place g l = SameNodeSeat l.fn.caller l.caller × SeatGoesOn l.fn.caller l.caller
