use Rattle.std.proofs.lemmas.Result.{IfOk-weaker}
use Rattle.workload_runners.proofs.SeatSteps.{watches_at_once}
use Rattle.workload_runners.proofs.workers.watch.Goals as goal

pub returns-in-None-clause-watched : goal.returns-in-None-clause-watched
returns-in-None-clause-watched g c = IfOk-weaker c.end_watch-in-None.result _ _
    (λ x y. watches_at_once c.args.seat.now c.end_watch-in-None.new.seat c.args.task y) c.end_watch-in-None.ensures.ended
