use Rattle.sched_workers.proofs.CallAnswers.{entrance_found}
use Rattle.sched_workers.proofs.callers.Caller.to_enter.Goals as goal

pub returns-clause-found : goal.returns-clause-found
returns-clause-found g c = entrance_found _ _ c.look.result c.look.ensures.answered
