use Rattle.std.proofs.Common.{arith}
use Rattle.settled_runs.specs.Plain.{queue_in}
use Rattle.settled_workloads.specs.Rows.{id_in}
use Rattle.settled_workloads.proofs.Loops.{adds_more}
use Rattle.settled_workloads.proofs.whole.push_ids.Goals as goal

pub loop-s-preserved : goal.loop-s-preserved
loop-s-preserved c = adds_more (λ s. id_in (queue_in s.deed)) c.args.statements.now c.loop-s.s-index c.s-item.result c.args.ids.now.items
    c.loop-s.ids.items c.push_id.new.ids.items (omega arith) c.s-item.is c.in_ok-push_id.ensures c.loop-s.invariant
