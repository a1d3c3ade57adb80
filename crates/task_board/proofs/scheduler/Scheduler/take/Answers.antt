use Rattle.task_board.proofs.Names.{◌≡◌, ◌<◌, ℕ, sym, ◌∙◌, ap, subst, slice_set, None, TaskTable, IsChoice, SchedulerTable, slot_value, NoneLive, Passes, Task, runs_on, without_waiting, the_view}
use Rattle.task_board.proofs.SchedulerLemmas.{waits-in, waits-in-job, take-scheduler}
use Rattle.task_board.proofs.RunningLemmas.{not-running}
use Rattle.task_board.proofs.SeenLemmas.{some_same}
use Rattle.task_board.proofs.scheduler.Scheduler.take.Goals as goal

pub remove-requires-clause-job : goal.remove-requires-clause-job
remove-requires-clause-job c =
    let x = subst (λ (b : SchedulerTable). IsChoice b.actions b.tasks.pool b.queues.pool c.args.worker c.args.choice) (sym c.self.view_is) c.requires.choice in
    waits-in-job _ c.args.choice.task.0 _ x.t c.self.invariant x.task x.runs.unstarted
    (ap (λ (t : Task). t.job) (some_same (sym x.task ∙ sym c.in-Some.ensures)) ∙ sym c.job.ensures)

pub remove-requires-clause-has : goal.remove-requires-clause-has
remove-requires-clause-has c =
    let x = subst (λ (b : SchedulerTable). IsChoice b.actions b.tasks.pool b.queues.pool c.args.worker c.args.choice) (sym c.self.view_is) c.requires.choice in
    waits-in _ c.args.choice.task.0 x.t c.self.invariant x.task x.runs.unstarted

pub invariant_of-self : goal.invariant_of-self
invariant_of-self c =
    let b = the_view c.self.inside in
    let x = subst (λ (b : SchedulerTable). IsChoice b.actions b.tasks.pool b.queues.pool c.args.worker c.args.choice) (sym c.self.view_is) c.requires.choice in
    let less = subst (λ (b : SchedulerTable). c.args.worker < b.settings.workers) (sym c.self.view_is) c.requires.worker in
    let free = not-running b c.args.worker c.self.invariant
    (subst (λ (k : SchedulerTable). NoneLive (slot_value k.tasks.pool) (Passes (runs_on c.args.worker))) (sym c.self.view_is) c.requires.free) in
    take-scheduler b c.run_on.new.self c.clear.new.ready c.remove.new.self c.args.choice.task.0 c.args.worker c.args.choice.kind x.t c.self.invariant x.task
    x.runs.unstarted
    (ap (λ (q : TaskTable). q.pool) c.run_on.ensures.new) (ap (λ (q : TaskTable). q.starts) c.run_on.ensures.new) less free (c.remove.ensures.new
    ∙ ap (λ (j : ℕ). without_waiting c.self.inside.waiting j c.args.choice.task.0) (c.job.ensures
    ∙ ap (λ (t : Task). t.job) (sym (some_same (sym x.task ∙ sym c.in-Some.ensures)))))
    (subst (λ (place : ℕ). c.clear.new.ready
    ≡ record c.self.inside.ready { marks = slice_set c.self.inside.ready.marks place None }) c.slot_of.ensures c.clear.ensures)
    (ap (λ (q : TaskTable). q.ends) c.run_on.ensures.new)
