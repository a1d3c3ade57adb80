use Rattle.node_steps.proofs.Names.{sym, ap, ◌∙◌, QueueFacts, slot_value}
use Rattle.node_steps.proofs.Gives.{lands_with}
use Rattle.node_steps.proofs.QueueSteps.{facts_found, disable_retained, disable_ended, disable_lands, ends_before}
use Rattle.node_steps.proofs.node.PoolNode.queue_disable.Goals as goal

pub returns-then-facts : goal.returns-then-facts
returns-then-facts c l who v k =
    let n = c.args.self.now in
    let x = facts_found (slot_value n.scheduler.queues.pool c.args.queue.0) c.in-Some.facts (sym c.in-Some.is ∙ c.queue.ensures) in
    lands_with n l who _ _ c.disable_queue.new.self _ c.disable_queue.ensures.new
    (disable_retained n l who c.args.queue v (sym c.if-not-is_open.ensures) x.0 x.1 (ap (λ (f : QueueFacts). f.retain) (sym x.2) ∙ c.if-facts.true))

pub returns : goal.returns
returns c l who v k =
    let n = c.args.self.now in
    let x = facts_found (slot_value n.scheduler.queues.pool c.args.queue.0) c.in-Some.facts (sym c.in-Some.is ∙ c.queue.ensures) in
    disable_lands n l who c.args.queue c.disable_queue.new.self c.end_queued.new.self _ c.disable_queue.ensures.new c.end_queued.ensures.new
    (disable_ended n l who c.args.queue v (sym c.if-not-is_open.ensures) x.0 c.end_queued.new.self.tasks x.1 (ap (λ (f : QueueFacts). f.retain) (sym x.2)
    ∙ c.if-facts.false) k
    (ends_before n c.disable_queue.new.self _ _ _ _ c.disable_queue.ensures.new c.end_queued.ensures.ends))
