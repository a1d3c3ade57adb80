use Rattle.begun_runs.proofs.Tests.{handles_next}
use Rattle.begun_runs.proofs.halting.handles_of.Goals as goal

pub loop-entry-preserved : goal.loop-entry-preserved
loop-entry-preserved c =
    handles_next c.args.who c.loop-entry.entry-index c.args.entries.now c.entry-item.result c.loop-entry.handles.items c.push_handle.new.handles.items
    c.loop-entry-test.true c.entry-item.is c.loop-entry.invariant c.in_ok-push_handle.ensures
