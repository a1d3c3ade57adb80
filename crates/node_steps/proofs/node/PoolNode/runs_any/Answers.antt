use Rattle.node_steps.proofs.PickSteps.{runs_told}
use Rattle.node_steps.proofs.node.PoolNode.runs_any.Goals as goal

pub returns-clause-reported : goal.returns-clause-reported
returns-clause-reported c l v = runs_told c.args.self.now l c.args.worker c.is_running.result v c.is_running.ensures.some c.is_running.ensures.none
