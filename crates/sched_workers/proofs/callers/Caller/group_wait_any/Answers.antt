use Rattle.mtapi_values.specs.Timeouts.{looks_of}
use Rattle.workload_runs.specs.declared.calls.Wanted.TheVariants.{FirstMember}
use Rattle.workload_runners.specs.Replies.{given, mtapi_standard}
use Rattle.sched_workers.proofs.CallAnswers.{waited}
use Rattle.sched_workers.proofs.callers.Caller.group_wait_any.Goals as goal

pub returns : goal.returns
returns g c = waited mtapi_standard given (FirstMember c.args.group)
    (looks_of c.args.timeout) _ _ c.within.result c.given.result c.within.ensures.looked c.within.ensures.spent c.given.ensures
