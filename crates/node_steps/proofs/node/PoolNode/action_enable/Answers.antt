use Rattle.node_steps.proofs.Names.{true, refl, sym, ◌∙◌, with_enabled}
use Rattle.mtapi_machine.specs.declared.ops.Op.TheVariants as op
use Rattle.node_steps.proofs.ActionSteps.{enable_steps, not_true, action_absent}
use Rattle.node_steps.proofs.Gives.{lands, past, at_none}
use Rattle.node_steps.proofs.node.PoolNode.action_enable.Goals as goal

pub returns-in-Ok : goal.returns-in-Ok
returns-in-Ok c l who v =
    lands c.args.self.now l who _ _ c.enable_action.new.self _ c.args.self.now.scheduler.tasks c.enable_action.ensures.new
    (enable_steps c.args.self.now _ l who c.in-Ok.field-0 c.args.action v (sym c.if-not-is_open.ensures) (sym c.enable_action.ensures.reply ∙ c.in-Ok.is) refl)

pub returns-in-Err : goal.returns-in-Err
returns-in-Err c l who v =
    lands c.args.self.now l who _ _ c.enable_action.new.self _ c.args.self.now.scheduler.tasks c.enable_action.ensures.new
    (action_absent c.args.self.now l who (op.ActionEnable c.args.action) c.args.action c.in-Err.status (with_enabled true) v (sym c.enable_action.ensures.reply
    ∙ c.in-Err.is) tt
    (λ none. past _ _ _ _ _ _ (not_true _ (sym c.if-not-is_open.ensures)) (at_none _ _ _ _ none)))
