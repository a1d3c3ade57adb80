use Rattle.node_steps.proofs.Names.{Bool, sym, ap, ◌∙◌, ◌&&◌, ◌==◌}
use Rattle.node_steps.proofs.StopSteps.{stop_told}
use Rattle.node_steps.proofs.node.PoolNode.stops.Goals as goal

pub returns-then-is_past_open : goal.returns-then-is_past_open
returns-then-is_past_open c l v =
    stop_told c.args.self.now l c.unended.result v c.unended.ensures ∙ ap (λ (b : Bool). b && (c.unended.result == 0)) (sym c.if-is_past_open.ensures)
