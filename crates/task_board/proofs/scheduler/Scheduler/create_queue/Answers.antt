use Rattle.task_board.proofs.Names.{◌<◌, sym, subst, new_queue_of, SchedulerTable}
use Rattle.task_board.proofs.SchedulerLemmas.{create-scheduler}
use Rattle.task_board.proofs.scheduler.Scheduler.create_queue.Goals as goal

pub invariant_of-self : goal.invariant_of-self
invariant_of-self c =
    create-scheduler _ c.create.new.self (new_queue_of c.args.id c.args.job c.args.attr) c.create.result c.self.invariant
    (subst (λ (b : SchedulerTable). c.args.attr.priority < b.settings.priorities) (sym c.self.view_is) c.requires) c.create.ensures
