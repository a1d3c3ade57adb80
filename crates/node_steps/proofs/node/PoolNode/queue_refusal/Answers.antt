use Rattle.std.proofs.Common.{◌∙◌}
use Rattle.node_steps.proofs.RefusedSteps.{id_met, id_past, id_told}
use Rattle.node_steps.proofs.node.PoolNode.queue_refusal.Goals as goal

pub returns-in-Some : goal.returns-in-Some
returns-in-Some c l v = id_met c.args.self.now l 0 v c.args.id c.args.job c.args.priority c.args.limit c.in-Some.status (c.queue_cause.ensures.first l v
    ∙ c.in-Some.is)

pub returns : goal.returns
returns c l v =
    id_past c.args.self.now l 0 v c.args.id c.args.job c.args.priority c.args.limit c.queue_refusal.result (c.queue_cause.ensures.first l v ∙ c.in_default.is)
    (id_told c.args.self.now l 0 v c.args.id c.queue_refusal.result c.queue_refusal.ensures.exists c.queue_refusal.ensures.new_id)
