use Rattle.std.proofs.Common.{map, arith}
use Rattle.settled_runs.specs.Plain.{action_in}
use Rattle.settled_workloads.specs.Rows.{row_action}
use Rattle.settled_workloads.proofs.Loops.{adds_more}
use Rattle.settled_workloads.proofs.whole.push_actions.Goals as goal

pub loop-s-preserved : goal.loop-s-preserved
loop-s-preserved c = adds_more (λ s. action_in s.deed) c.args.statements.now c.loop-s.s-index c.s-item.result (map row_action c.args.rows.now.items)
    (map row_action c.loop-s.rows.items) (map row_action c.push_action.new.rows.items) (omega arith) c.s-item.is c.in_ok-push_action.ensures c.loop-s.invariant
