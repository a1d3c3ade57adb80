use Rattle.queue_core.proofs.QueueLemmas.{AreQueues-new, slots-new}
use Rattle.queue_core.proofs.Queues.new.Goals as goal

pub invariant_of-result : goal.invariant_of-result
invariant_of-result c = AreQueues-new c.in_ok-new.field-0 c.in_ok-new-2.field-0 c.args.max c.args.tasks c.requires.few c.requires.few_tasks
    c.in_ok-new.ensures.slots c.in_ok-new-2.ensures.lists c.in_ok-new-2.ensures.places

pub returns-clause-slots : goal.returns-clause-slots
returns-clause-slots c = slots-new c.in_ok-new.field-0 c.in_ok-new-2.field-0 c.args.max c.in_ok-new.ensures.slots c.in_ok-new-2.ensures.lists
