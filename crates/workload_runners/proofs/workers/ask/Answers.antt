use Rattle.workload_runners.proofs.SeatSteps.{asked, asked_is}
use Rattle.workload_runners.proofs.workers.ask.Goals as goal

pub reported-requires : goal.reported-requires
reported-requires g c =
    let x = asked c.args.seat.now c.turn.new.seat c.in-Ok.reply c.args.task c.args.args.now c.args.looks c.args.most c.requires.looks c.requires.more
    c.requires.work c.in-Ok.ensures.turned in
    (x.0, x.1)

pub returns-in-Ok-clause-asked : goal.returns-in-Ok-clause-asked
returns-in-Ok-clause-asked g c =
    asked_is c.args.seat.now c.turn.new.seat c.in-Ok.reply c.args.task c.args.args.now c.args.looks c.args.most c.reported.result c.requires.looks
    c.requires.more c.requires.work c.in-Ok.ensures.turned c.reported.ensures
