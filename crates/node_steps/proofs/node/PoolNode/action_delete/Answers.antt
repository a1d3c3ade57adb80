use Rattle.std.proofs.Common.{sym, ◌∙◌}
use Rattle.node_steps.proofs.Gives.{lands}
use Rattle.node_steps.proofs.WithdrawSteps.{delete_steps, becomes-twice, unserved-before, served-after}
use Rattle.node_steps.proofs.node.PoolNode.action_delete.Goals as goal

pub returns-in-Ok : goal.returns-in-Ok
returns-in-Ok c l who v k =
    let n = c.args.self.now in
    lands n l who _ _ c.end_unserved.new.self _ c.end_unserved.new.self.tasks
    (becomes-twice n.scheduler c.delete_action.new.self c.end_unserved.new.self _ c.in-Ok.ensures.ok c.end_unserved.ensures.new)
    (delete_steps n l who c.in-Ok.job c.args.action v k (sym c.if-not-is_open.ensures) (sym c.in-Ok.is
    ∙ c.delete_action.ensures.reply) c.end_unserved.new.self.tasks
    (unserved-before n.scheduler c.delete_action.new.self _ _ _ _ c.in-Ok.ensures.ok
    (c.end_unserved.ensures.ends (served-after n l c.in-Ok.job c.args.action c.covered-before.result c.delete_action.new.self _ v k (sym c.in-Ok.is
    ∙ c.delete_action.ensures.reply) c.covered-before.ensures.live c.in-Ok.ensures.ok))))
