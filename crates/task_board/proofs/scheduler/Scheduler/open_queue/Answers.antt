use Rattle.task_board.proofs.Names.{ℕ, List, length, sym, subst, ap, ◌∙◌, slot_value, tasks_of, seen_in, begins_in, Remarked, the_view}
use Rattle.task_board.proofs.SchedulerLemmas.{opened-scheduler, opened-tasks, opened-seen, queue-found}
use Rattle.task_board.proofs.scheduler.Scheduler.open_queue.Goals as goal

pub remark-requires-clause-live : goal.remark-requires-clause-live
remark-requires-clause-live c =
    opened-seen _ c.set_enabled-result.new.self c.args.q.0 c.args.enabled c.self.invariant c.set_enabled-result.ensures.new

pub invariant_of-self : goal.invariant_of-self
invariant_of-self c =
    let b = the_view c.self.inside in
    let new = c.set_enabled-result.new.self in
    let x = queue-found (slot_value b.queues.pool c.args.q.0) c.in-Some.facts (sym c.in-Some.is ∙ c.facts.ensures) in
    opened-scheduler b new c.remark.new.ready c.args.q.0 x.0 c.args.enabled c.self.invariant x.1 c.set_enabled-result.ensures.new
    (subst (λ (hs : List ℕ). Remarked b.actions (begins_in new.pool) (seen_in b.tasks.pool) x.0.queue.job hs (length hs) b.ready c.remark.new.ready)
    (opened-tasks b new c.args.q.0 c.args.enabled c.set_enabled-result.ensures.new ∙ ap tasks_of x.1)
    (subst (λ (job : ℕ). Remarked b.actions (begins_in new.pool) (seen_in b.tasks.pool) job (tasks_of (slot_value new.pool c.args.q.0))
    (length (tasks_of (slot_value new.pool c.args.q.0))) b.ready c.remark.new.ready) x.2 c.remark.ensures))
