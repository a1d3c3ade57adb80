use Rattle.node_steps.proofs.Names.{[], Ok, Err, refl, sym, ap, ◌∙◌, option_map, not-false}
use Rattle.mtapi_values.specs.declared.statuses.MtapiStatus.TheVariants as m
use Rattle.mtapi_values.specs.declared.handles.ObjectKind.TheVariants as kind
use Rattle.mtapi_machine.specs.declared.ops.Op.TheVariants as op
use Rattle.mtapi_machine.specs.declared.replies.Reply.TheVariants as reply
use Rattle.node_steps.proofs.RefusedSteps.{first_fails, refused, group_told}
use Rattle.node_steps.proofs.GroupSteps.{group_create_steps}
use Rattle.node_steps.proofs.node.PoolNode.group_create.Goals as goal

pub returns-in-Ok : goal.returns-in-Ok
returns-in-Ok c l who v = group_create_steps c.args.self.now l who c.create_group.new.self (Ok c.in-Ok.group) v
    (not-false _ (first_fails _ m.ErrNodeNotinit [] (sym c.group_refusal.ensures ∙ c.in_default.is)).0) c.in-Ok.ensures.creates c.create_group.ensures.others

pub returns-in-Err : goal.returns-in-Err
returns-in-Err c l who v = group_create_steps c.args.self.now l who c.create_group.new.self (Err c.in-Err.status) v
    (not-false _ (first_fails _ m.ErrNodeNotinit [] (sym c.group_refusal.ensures ∙ c.in_default.is)).0) c.in-Err.ensures.creates c.create_group.ensures.others

pub returns-in-Some : goal.returns-in-Some
returns-in-Some c l who v =
    refused c.args.self.now l who op.GroupCreate kind.Group c.in-Some.status v refl tt
    (group_told c.args.self.now l who ∙ ap (option_map reply.Mtapi) (sym c.group_refusal.ensures ∙ c.in-Some.is))
