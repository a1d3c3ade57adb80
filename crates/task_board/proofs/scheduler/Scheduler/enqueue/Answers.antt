use Rattle.task_board.proofs.Names.{◌<◌, ◌^◌, sym, subst, asked_task, group_number, AddsTask, SchedulerTable, Becomes, IsRoomFor, MayJoin}
use Rattle.task_board.proofs.scheduler.Scheduler.enqueue.Goals as goal

pub enqueue_task-requires-clause-few : goal.enqueue_task-requires-clause-few
enqueue_task-requires-clause-few c = subst (λ (b : SchedulerTable). b.tasks.starts < 2 ^ 63) (sym c.keep_cover.ensures) c.requires.few

pub enqueue_task-requires-clause-queue : goal.enqueue_task-requires-clause-queue
enqueue_task-requires-clause-queue c = subst (λ (b : SchedulerTable). IsRoomFor b.queues.pool c.args.queue.0 (asked_task c.args.task))
    (sym c.keep_cover.ensures) c.requires.queue

pub enqueue_task-requires-clause-member : goal.enqueue_task-requires-clause-member
enqueue_task-requires-clause-member c =
    subst (λ (b : SchedulerTable). MayJoin b.groups.pool c.args.task.detached (group_number c.args.task.group)) (sym c.keep_cover.ensures) c.requires.member

pub returns-clause-adds : goal.returns-clause-adds
returns-clause-adds c = subst (λ (b : SchedulerTable). AddsTask b.tasks
    (asked_task c.args.task) c.enqueue_task.result c.enqueue_task.new.self.tasks) c.keep_cover.ensures c.enqueue_task.ensures.adds

pub returns-clause-new : goal.returns-clause-new
returns-clause-new c = subst (λ (b : SchedulerTable). Becomes b c.enqueue_task.new.self b.actions c.enqueue_task.new.self.tasks) c.keep_cover.ensures
    c.enqueue_task.ensures.new
