use Rattle.task_board.proofs.Names.{◌<◌, ◌^◌, sym, subst, asked_task, group_number, AddsTask, SchedulerTable, Becomes, MayJoin}
use Rattle.task_board.proofs.scheduler.Scheduler.add.Goals as goal

pub add_task-requires-clause-few : goal.add_task-requires-clause-few
add_task-requires-clause-few c = subst (λ (b : SchedulerTable). b.tasks.starts < 2 ^ 63) (sym c.keep_cover.ensures) c.requires.few

pub add_task-requires-clause-priority : goal.add_task-requires-clause-priority
add_task-requires-clause-priority c = subst (λ (b : SchedulerTable). c.args.task.priority
    < b.settings.priorities) (sym c.keep_cover.ensures) c.requires.priority

pub add_task-requires-clause-member : goal.add_task-requires-clause-member
add_task-requires-clause-member c = subst (λ (b : SchedulerTable). MayJoin b.groups.pool c.args.task.detached (group_number c.args.task.group))
    (sym c.keep_cover.ensures) c.requires.member

pub returns-clause-adds : goal.returns-clause-adds
returns-clause-adds c = subst (λ (b : SchedulerTable). AddsTask b.tasks
    (asked_task c.args.task) c.add_task.result c.add_task.new.self.tasks) c.keep_cover.ensures c.add_task.ensures.adds

pub returns-clause-new : goal.returns-clause-new
returns-clause-new c = subst (λ (b : SchedulerTable). Becomes b c.add_task.new.self b.actions c.add_task.new.self.tasks) c.keep_cover.ensures
    c.add_task.ensures.new
