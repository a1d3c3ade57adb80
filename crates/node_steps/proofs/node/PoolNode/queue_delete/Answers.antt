use Rattle.node_steps.proofs.Names.{sym, ap, ◌∙◌, slot_value, live_reply}
use Rattle.task_board.proofs.EndLemmas.{none-left}
use Rattle.node_steps.proofs.QueueSteps.{facts_found, live_after, delete_ended, delete_lands}
use Rattle.node_steps.proofs.node.PoolNode.queue_delete.Goals as goal

pub delete_queue-requires : goal.delete_queue-requires
delete_queue-requires c = none-left c.args.queue.0 _ c.args.self.now.scheduler.tasks c.end_queued.new.self.tasks c.end_queued.ensures.ends

pub returns : goal.returns
returns c l who v k =
    let n = c.args.self.now in
    let x = facts_found (slot_value n.scheduler.queues.pool c.args.queue.0) _ (sym c.in-Some.is ∙ c.queue.ensures) in
    let y = live_after n c.end_queued.new.self c.args.queue.0 x.0 c.end_queued.ensures.new.queues_are x.1 in
    let gone = rw (c.delete_queue.ensures.reply ∙ ap live_reply y.1) at c.delete_queue.ensures.ok in
    delete_lands n l who c.args.queue c.end_queued.new.self c.delete_queue.new.self c.end_queued.new.self.tasks c.end_queued.ensures.new gone
    (delete_ended n l who c.args.queue v (sym c.if-not-is_open.ensures) x.0 c.end_queued.new.self.tasks x.1 k c.end_queued.ensures.ends)
