use Rattle.std.proofs.Common.{Bool, subst}
use Rattle.workload_runners.specs.Rounds.{Rounded}
use Rattle.workload_runners.proofs.SeatSteps.{rounds_none, rounds_more}
use Rattle.workload_runners.proofs.workers.rounds.Goals as goal

pub loop-init : goal.loop-init
loop-init g c = (rounds_none c.args.seat.now c.requires.rest, (tt, tt))

pub loop-preserved : goal.loop-preserved
loop-preserved g c = (
  rounds_more c.args.seat.now c.loop.seat c.round.new.seat c.loop.invariant.0
      (subst (λ (b : Bool). Rounded c.loop.seat b c.round.new.seat) c.if-not-goes_on.false c.in-Ok.ensures.rounded),
  (tt, tt),
)
