use Rattle.workload_runners.proofs.SeatSteps.{heard_more, heard_stop}
use Rattle.workload_runners.proofs.workers.look_out.Goals as goal

pub returns-then-reported-clause-looked : goal.returns-then-reported-clause-looked
returns-then-reported-clause-looked g c =
    heard_stop c.args.seat.now c.loop-looks.seat c.ask.new.seat c.args.task c.args.args.now c.loop-looks.looks c.args.most c.in-Ok.reported c.if-reported.true
    c.loop-looks.invariant c.in-Ok.ensures.asked

pub loop-looks-preserved : goal.loop-looks-preserved
loop-looks-preserved g c =
    heard_more c.args.seat.now c.loop-looks.seat c.ask.new.seat c.args.task c.args.args.now c.loop-looks.looks c.in-Ok.reported c.if-reported.false
    c.loop-looks.invariant c.in-Ok.ensures.asked
