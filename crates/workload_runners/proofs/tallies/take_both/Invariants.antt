use Rattle.workload_runners.proofs.TallySeat.{Retried}
use Rattle.workload_runners.proofs.tallies.take_both.Given as goal

abbrev pub invariant-loop : goal.invariant-loop
invariant-loop g l =
    Retried l.fn.seat l.task l.args l.seat × ((goal.iterator-loop g).can_next l.iterator' × (goal.iterator-loop g).is_finite l.iterator')
