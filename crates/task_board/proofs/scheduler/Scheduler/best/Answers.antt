use Rattle.task_board.proofs.Names.{ℕ, None, Some, refl, sym, subst, Chooses, IsBest, SchedulerTable}
use Rattle.task_board.proofs.MarkLemmas.{best-none, found-best}
use Rattle.task_board.proofs.scheduler.Scheduler.best.Goals as goal

pub returns-in_default : goal.returns-in_default
returns-in_default c =
    subst (λ (b : SchedulerTable). IsBest b.actions b.tasks.pool b.queues.pool c.args.worker None) c.self.view_is
    (best-none c.self.inside.actions c.self.inside.tasks.pool c.self.inside.queues.pool c.self.inside.ready.marks c.self.invariant.marked c.args.worker
    (c.in_default.ensures.none.0 refl))

pub returns : goal.returns
returns c =
    subst (λ (b : SchedulerTable). IsBest b.actions b.tasks.pool b.queues.pool c.args.worker
    (Some (record { task = c.in-Some-slot_at.task; action = c.in-Some-choice.action; kind = c.in-Some-choice.kind; priority = c.priority.result })))
    c.self.view_is
    (found-best c.self.inside.actions c.self.inside.tasks.pool c.self.inside.queues.pool c.self.inside.ready.marks c.self.invariant.marked c.args.worker
    c.in-Some.field-0-0 c.in-Some.place c.in-Some-slot_at.task.0 c.in-Some-slot_at.record.now _ c.in-Some.ensures.first (sym c.in-Some-slot_at.ensures)
    (λ i. c.in-Some-slot_at.task.0) c.priority.ensures
    (subst (λ (j : ℕ). Chooses c.self.inside.actions j c.args.worker
    (Some (c.in-Some-choice.action, c.in-Some-choice.kind))) c.job.ensures c.in-Some-choice.ensures))
