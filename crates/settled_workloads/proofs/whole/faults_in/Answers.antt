use Rattle.std.proofs.Common.{[], map, arith}
use Rattle.settled_runs.specs.Plain.{task_in}
use Rattle.settled_runs.specs.Settled.{fault_in}
use Rattle.settled_workloads.specs.Rows.{row_action}
use Rattle.settled_workloads.proofs.Loops.{adds_more}
use Rattle.settled_workloads.proofs.whole.faults_in.Goals as goal

pub loop-s-preserved : goal.loop-s-preserved
loop-s-preserved c = adds_more (λ s. fault_in (map row_action c.args.rows.now)
    (task_in c.args.all.now s.deed)) c.args.all.now c.loop-s.s-index c.s-item.result []
    c.loop-s.faults.items c.push_fault.new.faults.items (omega arith) c.s-item.is c.in_ok-push_fault.ensures c.loop-s.invariant
