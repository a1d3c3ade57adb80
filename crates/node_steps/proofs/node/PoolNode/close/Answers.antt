use Rattle.std.proofs.Common.{refl, sym}
use Rattle.node_steps.proofs.Gives.{lands_to}
use Rattle.node_steps.proofs.PhaseSteps.{closing, close_steps}
use Rattle.node_steps.proofs.node.PoolNode.close.Goals as goal

pub returns : goal.returns
returns c l who v k =
    let n = c.args.self.now in
    let new = c.end_shut.ensures.new in
    lands_to n (closing n) l who _ _ c.end_shut.new.self _ _ n.scheduler.queues.pool n.scheduler.groups refl new.settings new.actions_are refl new.queues_are
    new.groups_are
    (close_steps n l who v k (sym c.if-is_past_open.ensures) c.end_shut.new.self.tasks c.end_shut.ensures.ends)
