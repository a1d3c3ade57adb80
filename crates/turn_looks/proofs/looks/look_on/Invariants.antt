use Rattle.turn_looks.proofs.Names.{ℕ, Pended}
use Rattle.turn_looks.proofs.looks.look_on.Given as goal

abbrev pub invariant-loop : goal.invariant-loop
invariant-loop g l =
    ((n : ℕ) × Pended g.O.Object.legal (g.W.LookFor.op_of l.wanted) g.W.LookFor.waits l.fn.seat n l.seat)
    × ((goal.iterator-loop g).can_next l.iterator' × (goal.iterator-loop g).is_finite l.iterator')
