use Rattle.workload_runners.proofs.SeatSteps.{Heard}
use Rattle.workload_runners.proofs.workers.look_out.Given as goal

abbrev pub invariant-loop-looks : goal.invariant-loop-looks
invariant-loop-looks g l = Heard l.fn.seat l.task l.args l.looks l.seat
