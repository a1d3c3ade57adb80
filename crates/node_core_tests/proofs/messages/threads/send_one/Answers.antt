use Rattle.mcapi_msg.proofs.CallAnswers.{then_same}
use Rattle.node_core_tests.proofs.messages.threads.send_one.Goals as goal

pub returns-in-Ok : goal.returns-in-Ok
returns-in-Ok g c = then_same c.args.mailer.now c.loop.mailer c.send.new.self c.loop.invariant c.in-Ok.ensures.same
