use Rattle.turn_looks.specs.Turns.{SameSeat}
use Rattle.node_core_tests.proofs.messages.threads.send_all.Given as goal

abbrev pub invariant-loop-number : goal.invariant-loop-number
invariant-loop-number g l = SameSeat l.fn.seat l.mailer
