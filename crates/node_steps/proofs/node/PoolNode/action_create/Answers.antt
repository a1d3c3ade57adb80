use Rattle.node_steps.proofs.Names.{Ok, Err, refl, sym, ap, subst, ◌∙◌, option_map, Result, ActionHandle, MtapiStatus, action_create_refusals, not-false}
use Rattle.job_table.specs.Answers.{CreatesAction}
use Rattle.node_steps.proofs.ActionSteps.{create_steps}
use Rattle.mtapi_values.specs.declared.statuses.MtapiStatus.TheVariants as m
use Rattle.mtapi_values.specs.declared.handles.ObjectKind.TheVariants as kind
use Rattle.mtapi_machine.specs.declared.ops.Op.TheVariants as op
use Rattle.mtapi_machine.specs.declared.replies.Reply.TheVariants as reply
use Rattle.node_steps.proofs.Gives.{lands}
use Rattle.node_steps.proofs.RefusedSteps.{first_fails, refused, action_told}
use Rattle.node_steps.proofs.node.PoolNode.action_create.Goals as goal

pub returns-in-Ok : goal.returns-in-Ok
returns-in-Ok c l who v = lands c.args.self.now l who _ _ c.create_action.new.self c.create_action.new.self.actions c.args.self.now.scheduler.tasks
    c.create_action.ensures.new (create_steps c.args.self.now c.create_action.new.self.actions l who c.args.job c.args.kind c.args.cores (Ok c.in-Ok.action) v
    (not-false _ (first_fails _ m.ErrNodeNotinit (action_create_refusals c.args.job) (sym c.action_refusal.ensures ∙ c.in_default.is)).0)
    (rw c.in-Ok.is at c.create_action.ensures.creates))

pub returns-in-Err : goal.returns-in-Err
returns-in-Err c l who v = lands c.args.self.now l who _ _ c.create_action.new.self c.create_action.new.self.actions c.args.self.now.scheduler.tasks
    c.create_action.ensures.new (create_steps c.args.self.now c.create_action.new.self.actions l who c.args.job c.args.kind c.args.cores (Err c.in-Err.status) v
    (not-false _ (first_fails _ m.ErrNodeNotinit (action_create_refusals c.args.job) (sym c.action_refusal.ensures ∙ c.in_default.is)).0)
    (rw c.in-Err.is at c.create_action.ensures.creates))

pub returns-in-Some : goal.returns-in-Some
returns-in-Some c l who v =
    refused c.args.self.now l who (op.ActionCreate c.args.job c.args.kind c.args.cores) kind.Action c.in-Some.status v refl tt
    (action_told c.args.self.now l who c.args.job c.args.kind c.args.cores ∙ ap (option_map reply.Mtapi) (sym c.action_refusal.ensures ∙ c.in-Some.is))
