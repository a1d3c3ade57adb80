use Rattle.std.proofs.Common.{Ok, Err, refl, sym, ◌∙◌, arith}
use Rattle.node_steps.proofs.WorkSteps.{asked_says}
use Rattle.node_steps.proofs.Gives.{lands}
use Rattle.node_steps.proofs.node.PoolNode.asked.Goals as goal

pub returns-in-Ok : goal.returns-in-Ok
returns-in-Ok c l v =
    lands c.args.self.now l c.args.who _ _ c.asked.new.self _ _ c.asked.ensures.new
    (asked_says c.args.self.now l c.args.who c.args.task v (omega arith) _ (Ok c.in-Ok.requested) (sym c.in-Ok.is ∙ c.asked.ensures.reply) refl)

pub returns-in-Err : goal.returns-in-Err
returns-in-Err c l v =
    lands c.args.self.now l c.args.who _ _ c.asked.new.self _ _ c.asked.ensures.new
    (asked_says c.args.self.now l c.args.who c.args.task v (omega arith) _ (Err c.in-Err.status) (sym c.in-Err.is ∙ c.asked.ensures.reply) refl)
