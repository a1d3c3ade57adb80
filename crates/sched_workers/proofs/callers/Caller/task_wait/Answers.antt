use Rattle.mtapi_values.specs.Timeouts.{looks_of}
use Rattle.workload_runs.specs.declared.calls.Wanted.TheVariants.{Task}
use Rattle.workload_runners.specs.Replies.{end_in_reply, mtapi_standard}
use Rattle.sched_workers.proofs.CallAnswers.{waited}
use Rattle.sched_workers.proofs.callers.Caller.task_wait.Goals as goal

pub returns : goal.returns
returns g c = waited mtapi_standard end_in_reply (Task c.args.task)
    (looks_of c.args.timeout) _ _ c.within.result c.ended.result c.within.ensures.looked c.within.ensures.spent c.ended.ensures
