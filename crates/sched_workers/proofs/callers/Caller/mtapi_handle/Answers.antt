use Rattle.workload_runners.specs.Replies.{mtapi_standard, handle_told}
use Rattle.sched_workers.proofs.CallAnswers.{called}
use Rattle.sched_workers.proofs.callers.Caller.mtapi_handle.Goals as goal

pub returns : goal.returns
returns g c = called mtapi_standard handle_told c.args.op _ _ c.once.result c.handle.result c.once.ensures.turned c.once.ensures.spent c.handle.ensures
