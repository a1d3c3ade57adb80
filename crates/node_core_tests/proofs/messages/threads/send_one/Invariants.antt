use Rattle.turn_looks.specs.Turns.{SameSeat}
use Rattle.node_core_tests.proofs.messages.threads.send_one.Given as goal

abbrev pub invariant-loop : goal.invariant-loop
invariant-loop g l = SameSeat l.fn.mailer l.mailer
