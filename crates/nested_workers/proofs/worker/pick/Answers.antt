use Rattle.workload_runners.proofs.SeatSteps.{picks_end}
use Rattle.nested_workers.proofs.worker.pick.Goals as goal

pub returns-in-Ok-clause-picked : goal.returns-in-Ok-clause-picked
returns-in-Ok-clause-picked g c = picks_end c.args.seat.now c.turn.new.seat c.in-Ok.reply c.requires.rest c.in-Ok.ensures.turned
