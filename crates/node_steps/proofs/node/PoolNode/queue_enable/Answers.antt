use Rattle.std.proofs.Common.{Ok, Err, sym, ◌∙◌}
use Rattle.node_steps.proofs.Gives.{lands_with}
use Rattle.node_steps.proofs.QueueSteps.{enable_told}
use Rattle.node_steps.proofs.node.PoolNode.queue_enable.Goals as goal

pub returns-in-Ok : goal.returns-in-Ok
returns-in-Ok c l who v =
    lands_with c.args.self.now l who _ _ c.enable_queue.new.self _ c.enable_queue.ensures.new
    (enable_told c.args.self.now l who c.args.queue v (sym c.if-not-is_open.ensures) (Ok c.in-Ok.field-0) (sym c.in-Ok.is ∙ c.enable_queue.ensures.reply))

pub returns-in-Err : goal.returns-in-Err
returns-in-Err c l who v =
    lands_with c.args.self.now l who _ _ c.enable_queue.new.self _ c.enable_queue.ensures.new
    (enable_told c.args.self.now l who c.args.queue v (sym c.if-not-is_open.ensures) (Err c.in-Err.status) (sym c.in-Err.is ∙ c.enable_queue.ensures.reply))
