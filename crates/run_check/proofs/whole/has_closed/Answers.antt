use Rattle.std.proofs.Common.{refl, take}
use Rattle.run_check.proofs.Ended.{closes_none, closes_at}
use Rattle.run_check.proofs.whole.has_closed.Goals as goal

pub loop-e-init : goal.loop-e-init
loop-e-init c = closes_none c.args.main

pub loop-e-preserved : goal.loop-e-preserved
loop-e-preserved c =
    closes_at c.args.main (take c.loop-e.e-index c.args.entries.now) c.e-item.result c.loop-e.e-index c.args.entries.now c.loop-e.closed
    c.closed_after-closed.result
    refl c.loop-e-test.true c.e-item.is c.loop-e.invariant c.closed_after-closed.ensures
