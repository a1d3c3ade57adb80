use Rattle.sched_workers.proofs.CallAnswers.{turn_fits}
use Rattle.nested_workers.proofs.held.once.Goals as goal

pub returns-clause-fits : goal.returns-clause-fits
returns-clause-fits g c = turn_fits _ _ c.args.op c.turn-reply.result c.turn-reply.ensures.turned
