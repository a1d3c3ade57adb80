use Rattle.workload_runners.specs.Replies.{mrapi_standard, done}
use Rattle.sched_workers.proofs.CallAnswers.{called}
use Rattle.sched_workers.proofs.callers.Caller.mrapi_done.Goals as goal

pub returns : goal.returns
returns g c = called mrapi_standard done c.args.op _ _ c.once.result c.resource_done.result c.once.ensures.turned c.once.ensures.spent c.resource_done.ensures
