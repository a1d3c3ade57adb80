use Rattle.std.proofs.Common.{◌<◌, length, arith}
use Rattle.ready_index.proofs.MarkLemmas.{IsDone-step}
use Rattle.ready_index.proofs.index.put_all.Goals as goal

pub loop-worker-preserved : goal.loop-worker-preserved
loop-worker-preserved c =
    let within : c.loop-worker.worker < length c.loop-worker.workers = omega arith in
    IsDone-step c.args.mark c.args.slot c.args.ready c.args.workers.now c.loop-worker.workers c.loop-worker.worker c.index-workers-worker.result c.put.new.sets
    within c.loop-worker.invariant c.put.ensures.slots c.put.ensures.same
