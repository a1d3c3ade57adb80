use Rattle.workload_runners.proofs.SeatSteps.{Rounds}
use Rattle.workload_runners.proofs.workers.rounds.Given as goal

abbrev pub invariant-loop : goal.invariant-loop
invariant-loop g l =
    Rounds l.fn.seat l.seat × ((goal.iterator-loop g).can_next l.iterator' × (goal.iterator-loop g).is_finite l.iterator')
