use Rattle.workload_runs.specs.declared.calls.Wanted.TheVariants.{FirstMember}
use Rattle.workload_runners.specs.Replies.{mtapi_standard, given}
use Rattle.sched_workers.proofs.Until.{waited_until}
use Rattle.sched_workers.proofs.callers.Caller.group_wait_any_until.Goals as goal

pub returns : goal.returns
returns g c =
    waited_until mtapi_standard given (FirstMember c.args.group) _ _ c.until.result c.given.result c.until.ensures.looked c.until.ensures.spent c.given.ensures
