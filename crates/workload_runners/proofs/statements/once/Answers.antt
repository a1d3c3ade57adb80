use Rattle.workload_runners.proofs.CarryLemmas.{stated_once}
use Rattle.workload_runners.proofs.statements.once.Goals as goal

pub returns-in-Ok-clause-stated : goal.returns-in-Ok-clause-stated
returns-in-Ok-clause-stated g c = stated_once c.args.seat.now c.turn.new.seat c.args.op c.in-Ok.reply c.handle_of.result c.handle_of.ensures
    c.in-Ok.ensures.turned
