use Rattle.mtapi_values.specs.Timeouts.{looks_of}
use Rattle.workload_runs.specs.declared.calls.Wanted.TheVariants.{Mutex}
use Rattle.workload_runners.specs.Replies.{key, mrapi_standard}
use Rattle.sched_workers.proofs.CallAnswers.{waited}
use Rattle.sched_workers.proofs.callers.Caller.mutex_lock.Goals as goal

pub returns : goal.returns
returns g c = waited mrapi_standard key (Mutex c.args.mutex)
    (looks_of c.args.timeout) _ _ c.within.result c.key.result c.within.ensures.looked c.within.ensures.spent c.key.ensures
