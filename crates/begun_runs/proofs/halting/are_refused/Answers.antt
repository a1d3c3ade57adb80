use Rattle.std.proofs.Common.{refl}
use Rattle.begun_runs.specs.Halts.{IsProbeRefusal}
use Rattle.begun_runs.proofs.Tests.{all_more, all_of}
use Rattle.begun_runs.proofs.halting.are_refused.Goals as goal

pub loop-entry-preserved : goal.loop-entry-preserved
loop-entry-preserved c =
    all_more (IsProbeRefusal c.args.main) c.args.refused.now c.loop-entry.entry-index c.entry-item.result c.loop-entry-test.true c.entry-item.is
    c.loop-entry.invariant (c.if-not-is_refused.ensures refl)

pub returns : goal.returns
returns c _ = all_of (IsProbeRefusal c.args.main) c.args.refused.now c.loop-entry.entry-index c.loop-entry-test.false c.loop-entry.invariant
