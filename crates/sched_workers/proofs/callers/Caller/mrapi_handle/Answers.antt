use Rattle.workload_runners.specs.Replies.{mrapi_standard, handle_told}
use Rattle.sched_workers.proofs.CallAnswers.{called}
use Rattle.sched_workers.proofs.callers.Caller.mrapi_handle.Goals as goal

pub returns : goal.returns
returns g c = called mrapi_standard handle_told c.args.op _ _ c.once.result c.resource_handle.result c.once.ensures.turned c.once.ensures.spent
    c.resource_handle.ensures
