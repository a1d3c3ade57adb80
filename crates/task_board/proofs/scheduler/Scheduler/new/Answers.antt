use Rattle.std.proofs.Common.{refl}
use Rattle.task_board.proofs.NewLemmas.{new-scheduler}
use Rattle.task_board.proofs.scheduler.Scheduler.new.Goals as goal

pub invariant_of-result : goal.invariant_of-result
invariant_of-result c =
    new-scheduler _ c.args.attr.tasks c.args.attr.queues c.new_places.ensures.few c.in_ok-ready.ensures.ready c.in_ok-actions.ensures.task_slots
    c.in_ok-ready.ensures.places c.in_ok-ready.ensures.lists c.new_places.ensures.some c.in_ok-ready.ensures.by_job refl
    c.in_ok-actions.ensures.queue_tasks c.in_ok-actions.ensures.queue_slots
    c.args.attr.groups c.in_ok-ready.ensures.group_slots c.in_ok-ready.ensures.group_tasks
