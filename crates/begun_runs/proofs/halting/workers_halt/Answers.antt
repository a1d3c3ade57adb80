use Rattle.std.proofs.Common.{refl}
use Rattle.begun_runs.specs.Halts.{WorkerHalts}
use Rattle.begun_runs.proofs.Tests.{each_below, all_below}
use Rattle.begun_runs.proofs.halting.workers_halt.Goals as goal

pub loop-who-preserved : goal.loop-who-preserved
loop-who-preserved c = each_below (WorkerHalts c.args.looks.now) c.loop-who.who c.loop-who.invariant (c.if-not-worker_halts.ensures refl)

pub returns : goal.returns
returns c _ = all_below (WorkerHalts c.args.looks.now) c.loop-who.who c.args.workers c.loop-who-test.false c.loop-who.invariant
