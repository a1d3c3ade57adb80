use Rattle.node_steps.proofs.Names.{false, sym, ◌∙◌, with_enabled}
use Rattle.mtapi_machine.specs.declared.ops.Op.TheVariants as op
use Rattle.node_steps.proofs.ActionSteps.{not_true, action_absent}
use Rattle.node_steps.proofs.Gives.{lands, past, at_none}
use Rattle.node_steps.proofs.WithdrawSteps.{disable_steps, becomes-twice, unserved-before, served-after}
use Rattle.node_steps.proofs.node.PoolNode.action_disable.Goals as goal

pub returns-in-Ok : goal.returns-in-Ok
returns-in-Ok c l who v k =
    let n = c.args.self.now in
    lands n l who _ _ c.end_unserved.new.self _ c.end_unserved.new.self.tasks
    (becomes-twice n.scheduler c.disable_action.new.self c.end_unserved.new.self _ c.disable_action.ensures.new c.end_unserved.ensures.new)
    (disable_steps n l who c.in-Ok.job c.args.action v k (sym c.if-not-is_open.ensures) (sym c.in-Ok.is
    ∙ c.disable_action.ensures.reply) c.end_unserved.new.self.tasks
    (unserved-before n.scheduler c.disable_action.new.self _ _ _ _ c.disable_action.ensures.new
    (c.end_unserved.ensures.ends (served-after n l c.in-Ok.job c.args.action c.covered-before.result c.disable_action.new.self _ v k (sym c.in-Ok.is
    ∙ c.disable_action.ensures.reply) c.covered-before.ensures.live c.disable_action.ensures.new))))

pub returns-in-Err : goal.returns-in-Err
returns-in-Err c l who v k =
    lands c.args.self.now l who _ _ c.disable_action.new.self _ c.args.self.now.scheduler.tasks c.disable_action.ensures.new
    (action_absent c.args.self.now l who (op.ActionDisable c.args.action) c.args.action c.in-Err.status (with_enabled false) v
    (sym c.disable_action.ensures.reply ∙ c.in-Err.is) tt
    (λ none. past _ _ _ _ _ _ (not_true _ (sym c.if-not-is_open.ensures)) (at_none _ _ _ _ none)))
