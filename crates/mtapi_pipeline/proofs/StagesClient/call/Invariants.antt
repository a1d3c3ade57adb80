use Rattle.workload_runners.specs.Turns.{SameNodeSeat}
use Rattle.node_with_workers.specs.Clients.{SeatGoesOn}
use Rattle.mtapi_pipeline.proofs.StagesClient.call.Given as goal

abbrev pub invariant-loop-number : goal.invariant-loop-number
invariant-loop-number g l = SameNodeSeat l.fn.caller l.caller × SeatGoesOn l.fn.caller l.caller

abbrev pub invariant-loop-at : goal.invariant-loop-at
invariant-loop-at g l = SameNodeSeat l.fn.caller l.caller × SeatGoesOn l.fn.caller l.caller
