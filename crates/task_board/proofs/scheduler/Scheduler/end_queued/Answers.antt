use Rattle.task_board.proofs.Names.{subst, is_in, EndsWaiting, SchedulerTable, Becomes}
use Rattle.task_board.proofs.scheduler.Scheduler.end_queued.Goals as goal

pub returns-clause-new : goal.returns-clause-new
returns-clause-new c = subst (λ (b : SchedulerTable). Becomes b c.end_waiting.new.self b.actions c.end_waiting.new.self.tasks) c.keep_cover_in.ensures
    c.end_waiting.ensures.new

pub returns-clause-ends : goal.returns-clause-ends
returns-clause-ends c = subst (λ (b : SchedulerTable). EndsWaiting
    (is_in c.args.queue.0) c.args.end.now b.tasks c.end_waiting.new.self.tasks) c.keep_cover_in.ensures c.end_waiting.ensures.ends
