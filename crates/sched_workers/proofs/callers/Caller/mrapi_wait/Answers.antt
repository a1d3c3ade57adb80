use Rattle.mtapi_values.specs.Timeouts.{looks_of}
use Rattle.workload_runners.specs.Replies.{done, mrapi_standard}
use Rattle.sched_workers.proofs.CallAnswers.{waited}
use Rattle.sched_workers.proofs.callers.Caller.mrapi_wait.Goals as goal

pub returns : goal.returns
returns g c = waited mrapi_standard done c.args.wanted
    (looks_of c.args.timeout) _ _ c.within.result c.resource_done.result c.within.ensures.looked c.within.ensures.spent c.resource_done.ensures
