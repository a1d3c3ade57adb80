use Rattle.task_board.proofs.Names.{sym, subst, seen_in, NoneWaitsIn, SchedulerTable}
use Rattle.task_board.proofs.SchedulerLemmas.{delete-scheduler}
use Rattle.task_board.proofs.scheduler.Scheduler.delete_queue.Goals as goal

pub invariant_of-self : goal.invariant_of-self
invariant_of-self c =
    delete-scheduler _ c.delete.new.self c.args.q.0 c.delete.result c.self.invariant
    (subst (λ (b : SchedulerTable). NoneWaitsIn c.args.q.0 (seen_in b.tasks.pool))
    (sym c.self.view_is) c.requires) c.delete.ensures.reply c.delete.ensures.ok c.delete.ensures.err
