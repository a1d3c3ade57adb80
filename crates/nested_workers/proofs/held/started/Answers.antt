use Rattle.workload_runners.specs.Replies.{mtapi_standard, handle_told}
use Rattle.sched_workers.proofs.CallAnswers.{called}
use Rattle.nested_workers.proofs.Starts.{called_starts}
use Rattle.nested_workers.proofs.held.started.Goals as goal

pub returns : goal.returns
returns g c =
    called_starts _ _ c.args.op _ c.requires.start
    (called mtapi_standard handle_told c.args.op _ _ c.once.result c.handle_of.result c.once.ensures.turned c.once.ensures.spent c.handle_of.ensures)
