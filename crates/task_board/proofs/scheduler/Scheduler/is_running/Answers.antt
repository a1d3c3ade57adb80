use Rattle.task_board.proofs.Names.{refl, sym, subst, ◌∙◌, OnTrue, OnFalse, slot_value, SomeLive, NoneLive, Passes, runs_on, SchedulerTable}
use Rattle.task_board.proofs.RunningLemmas.{running-tells, running-denies, on-true, on-false}
use Rattle.task_board.proofs.scheduler.Scheduler.is_running.Goals as goal

pub returns-clause-some : goal.returns-clause-some
returns-clause-some c =
    subst (λ (k : SchedulerTable). OnTrue c.is_some.result (SomeLive (slot_value k.tasks.pool) (Passes (runs_on c.args.worker)))) c.self.view_is
    (on-true c.is_some.result (λ e. running-tells _ c.args.worker _ c.self.invariant refl (sym c.is_some.ensures ∙ e)))

pub returns-clause-none : goal.returns-clause-none
returns-clause-none c =
    subst (λ (k : SchedulerTable). OnFalse c.is_some.result (NoneLive (slot_value k.tasks.pool) (Passes (runs_on c.args.worker)))) c.self.view_is
    (on-false c.is_some.result (λ e. running-denies _ c.args.worker _ c.self.invariant refl (sym c.is_some.ensures ∙ e)))
