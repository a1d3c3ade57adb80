use Rattle.workload_runs.specs.declared.calls.Wanted.TheVariants.{Task}
use Rattle.workload_runners.specs.Replies.{mtapi_standard, end_in_reply}
use Rattle.sched_workers.proofs.Until.{waited_until}
use Rattle.sched_workers.proofs.callers.Caller.task_wait_until.Goals as goal

pub returns : goal.returns
returns g c =
    waited_until mtapi_standard end_in_reply (Task c.args.task) _ _ c.until.result c.ended.result c.until.ensures.looked c.until.ensures.spent c.ended.ensures
