use Rattle.mtapi_values.specs.Timeouts.{looks_of}
use Rattle.sched_workers.proofs.CallAnswers.{timed_found}
use Rattle.sched_workers.proofs.callers.Caller.within.Goals as goal

pub returns-clause-found : goal.returns-clause-found
returns-clause-found g c = timed_found c.args.wanted (looks_of c.args.timeout) _ _ c.look.result c.requires.timed c.look.ensures.answered
