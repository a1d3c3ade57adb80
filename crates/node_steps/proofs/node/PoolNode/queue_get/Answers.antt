use Rattle.node_steps.proofs.Names.{Ok, Err, sym}
use Rattle.node_steps.proofs.QueueSteps.{get_steps}
use Rattle.node_steps.proofs.node.PoolNode.queue_get.Goals as goal

pub returns-in-Ok : goal.returns-in-Ok
returns-in-Ok c l who v = get_steps c.args.self.now l who c.args.id (Ok c.in-Ok.queue) v (sym c.if-not-is_up.ensures) (rw c.in-Ok.is at c.get_queue.ensures)

pub returns-in-Err : goal.returns-in-Err
returns-in-Err c l who v = get_steps c.args.self.now l who c.args.id (Err c.in-Err.status) v (sym c.if-not-is_up.ensures)
    (rw c.in-Err.is at c.get_queue.ensures)
