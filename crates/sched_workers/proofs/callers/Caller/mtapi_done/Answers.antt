use Rattle.workload_runners.specs.Replies.{mtapi_standard, done}
use Rattle.sched_workers.proofs.CallAnswers.{called}
use Rattle.sched_workers.proofs.callers.Caller.mtapi_done.Goals as goal

pub returns : goal.returns
returns g c = called mtapi_standard done c.args.op _ _ c.once.result c.done.result c.once.ensures.turned c.once.ensures.spent c.done.ensures
