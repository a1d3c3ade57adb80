use Rattle.node_steps.proofs.ResourceSteps.{is_at}
use Rattle.node_steps.specs.Stands.{state_of}
use Rattle.node_steps.proofs.node.PoolNode.sem_refusal.Goals as goal

pub returns : goal.returns
returns c l v = c.sem_refusal.ensures (state_of c.args.self.now l)
    (is_at c.args.self.now l c.gate.result c.gate.ensures.phase c.gate.ensures.workers) v.resources
