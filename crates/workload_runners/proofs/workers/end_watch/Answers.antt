use Rattle.workload_runners.proofs.SeatSteps.{ends}
use Rattle.workload_runners.proofs.workers.end_watch.Goals as goal

pub returns-in-Ok-clause-ended : goal.returns-in-Ok-clause-ended
returns-in-Ok-clause-ended g c = ends c.args.seat.now c.turn.new.seat c.in-Ok.field-0 c.args.task c.args.args.now c.requires.may c.in-Ok.ensures.turned
