use Rattle.std.proofs.Common.{ℕ}
use Rattle.sched_workers.proofs.Until.{Pended}
use Rattle.sched_workers.proofs.callers.until.look_until.Given as goal

abbrev pub invariant-loop : goal.invariant-loop
invariant-loop g l =
    ((n : ℕ) × Pended l.wanted l.fn.seat n l.seat)
    × ((goal.iterator-loop g).can_next l.iterator' × (goal.iterator-loop g).is_finite l.iterator')
