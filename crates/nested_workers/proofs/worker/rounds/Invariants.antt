use Rattle.nested_workers.proofs.Rounds.{Nested}
use Rattle.nested_workers.proofs.worker.rounds.Given as goal

abbrev pub invariant-loop : goal.invariant-loop
invariant-loop g l =
    Nested l.fn.seat l.seat × ((goal.iterator-loop g).can_next l.iterator' × (goal.iterator-loop g).is_finite l.iterator')
