use Rattle.workload_runners.proofs.SeatSteps.{finishes}
use Rattle.nested_workers.proofs.worker.finish.Goals as goal

pub returns-in-Ok-clause-finished : goal.returns-in-Ok-clause-finished
returns-in-Ok-clause-finished g c = finishes c.args.seat.now c.turn.new.seat c.in-Ok.field-0 c.args.task c.args.done c.requires.work c.in-Ok.ensures.turned
