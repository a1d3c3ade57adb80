use Rattle.std.proofs.Common.{refl}
use Rattle.begun_runs.specs.Halts.{LeavesState}
use Rattle.begun_runs.proofs.Tests.{all_more, all_of}
use Rattle.begun_runs.proofs.halting.leave_state.Goals as goal

pub loop-entry-preserved : goal.loop-entry-preserved
loop-entry-preserved c =
    all_more (LeavesState c.args.refused.now) c.args.looks.now c.loop-entry.entry-index c.entry-item.result c.loop-entry-test.true c.entry-item.is
    c.loop-entry.invariant (c.if-not-leaves_state.ensures refl)

pub returns : goal.returns
returns c _ = all_of (LeavesState c.args.refused.now) c.args.looks.now c.loop-entry.entry-index c.loop-entry-test.false c.loop-entry.invariant
