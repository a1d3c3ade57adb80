use Rattle.node_steps.proofs.RefusedSteps.{enqueue_none}
use Rattle.node_steps.proofs.node.PoolNode.enqueue_refusal.Goals as goal

pub returns-in-Ok : goal.returns-in-Ok
returns-in-Ok c l who args v = enqueue_none c.args.self.now l who c.args.queue args c.args.cores c.args.detached c.args.group v c.is_kept.ensures
    c.in-Ok.field-0 c.in-Ok.ensures.may

pub returns-in-Err : goal.returns-in-Err
returns-in-Err c l who args v = c.in-Err.ensures.refused l who args v
