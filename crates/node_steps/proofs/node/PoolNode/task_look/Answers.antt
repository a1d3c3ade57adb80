use Rattle.std.proofs.Common.{refl, sym, ◌∙◌}
use Rattle.task_core.specs.declared.states.TaskLook.TheVariants as look
use Rattle.node_steps.proofs.TaskSteps.{look_told}
use Rattle.node_steps.proofs.Gives.{lands}
use Rattle.node_steps.proofs.node.PoolNode.task_look.Goals as goal

pub returns-in-Ended : goal.returns-in-Ended
returns-in-Ended c l v =
    lands c.args.self.now l c.args.who _ _ c.look.new.self _ _ c.look.ensures.new
    (look_told c.args.self.now l c.args.who c.args.task c.args.last _ (look.Ended c.in-Ended.end) v (sym c.if-not-is_up.ensures) (sym c.in-Ended.is
    ∙ c.look.ensures.reply) refl)

pub returns-in-Pending : goal.returns-in-Pending
returns-in-Pending c l v =
    lands c.args.self.now l c.args.who _ _ c.look.new.self _ _ c.look.ensures.new
    (look_told c.args.self.now l c.args.who c.args.task c.args.last _ look.Pending v (sym c.if-not-is_up.ensures) (sym c.in-Pending.is
    ∙ c.look.ensures.reply) refl)

pub returns-in-Refused : goal.returns-in-Refused
returns-in-Refused c l v =
    lands c.args.self.now l c.args.who _ _ c.look.new.self _ _ c.look.ensures.new
    (look_told c.args.self.now l c.args.who c.args.task c.args.last _ (look.Refused c.in-Refused.status) v (sym c.if-not-is_up.ensures) (sym c.in-Refused.is
    ∙ c.look.ensures.reply) refl)
