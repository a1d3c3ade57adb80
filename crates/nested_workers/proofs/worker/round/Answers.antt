use Rattle.std.proofs.lemmas.Result.{IfOk-at_ok}
use Rattle.workload_runners.proofs.Names.{PickEnds, Reply, subst}
use Rattle.nested_workers.specs.Rounds.{RanTask}
use Rattle.nested_workers.proofs.Rounds.{worked}
use Rattle.nested_workers.proofs.worker.round.Goals as goal

pub returns-in-Ok-ended : goal.returns-in-Ok-ended
returns-in-Ok-ended g c =
    let k = c.in-Ok-Picked in
    worked c.args.seat c.pick.new.seat c.act-seat.result.0 k.task k.kind k.args k.field-0-1
    (subst (λ (r : Reply). PickEnds c.args.seat r c.pick.new.seat) k.field-0-is k.ensures.picked)
    (IfOk-at_ok (λ _. RanTask c.pick.new.seat k.task c.act-seat.result.0) c.in-Ok-ended.is c.act-seat.ensures.ran)
