use Rattle.std.proofs.Common.{sym}
use Rattle.node_steps.proofs.RefusedSteps.{task_last}
use Rattle.node_steps.proofs.node.PoolNode.task_refusal.Goals as goal

pub returns-clause-first : goal.returns-clause-first
returns-clause-first c l args v =
    task_last c.args.self.now l 0 c.args.job args c.args.priority c.args.cores c.args.detached c.args.group c.start_refusal.result
    (sym c.if-not-is_open.ensures) (sym c.if-is_wrong.ensures)
    (c.start_refusal.ensures.first l args c.args.priority c.args.detached v)
