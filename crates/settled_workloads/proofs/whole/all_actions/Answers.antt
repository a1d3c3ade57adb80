use Rattle.std.proofs.Common.{◌++◌, map, ap, ◌∙◌, arith}
use Rattle.settled_runs.specs.Plain.{action_in, actions_in}
use Rattle.settled_workloads.specs.Rows.{row_action}
use Rattle.settled_workloads.proofs.Loops.{adds_part}
use Rattle.settled_workloads.proofs.whole.all_actions.Goals as goal

pub loop-part-preserved : goal.loop-part-preserved
loop-part-preserved c = adds_part (λ s. action_in s.deed) c.args.parts.now c.loop-part.part-index c.part-item.result (map row_action c.loop-part.rows.items)
    (map row_action c.push_actions.new.rows.items) (omega arith) c.part-item.is (c.in_ok-push_actions.ensures
    ∙ ap (λ u. map row_action c.loop-part.rows.items ++ actions_in u) c.as_slice.ensures) c.loop-part.invariant
