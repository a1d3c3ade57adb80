use Rattle.workload_runners.proofs.Names.{PickEnds, Reply, subst}
use Rattle.workload_runners.proofs.SeatSteps.{acted}
use Rattle.workload_runners.proofs.workers.round.Goals as goal

pub returns-in-Ok-act-clause-rounded : goal.returns-in-Ok-act-clause-rounded
returns-in-Ok-act-clause-rounded g c =
    let k = c.in-Ok-Picked in
    acted c.args.seat.now c.pick.new.seat c.act.new.seat k.task k.kind k.args k.field-0-1
    (subst (λ (r : Reply). PickEnds c.args.seat.now r c.pick.new.seat) k.field-0-is k.ensures.picked) c.in-Ok-act.ensures.acted
