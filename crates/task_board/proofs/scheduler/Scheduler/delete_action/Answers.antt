use Rattle.task_board.proofs.Names.{ℕ, sym, subst, Slots, Action, IsUnion, IsScheduler, the_view}
use Rattle.task_board.proofs.RemarkLemmas.{SameBut, same-without}
use Rattle.task_board.proofs.SchedulerLemmas.{changed-scheduler, job-found}
use Rattle.task_board.proofs.scheduler.Scheduler.delete_action.Goals as goal

pub invariant_of-self : goal.invariant_of-self
invariant_of-self c =
    let b = the_view c.self.inside in
    subst (λ (p : Slots Action). IsScheduler (record b { actions = p })) (sym c.in_err-job.ensures.err) c.self.invariant

pub invariant_of-self-2 : goal.invariant_of-self-2
invariant_of-self-2 c =
    let x = job-found _ c.in_ok-job.job c.in_ok-job.ensures.reply in
    changed-scheduler _ c.delete.new.self c.remark_where_changed.new.ready c.in_ok-job.job c.cores_beside-before.result.0 c.self.invariant
    (subst (λ (p : Slots Action). SameBut c.in_ok-job.job c.self.inside.actions p) (sym c.in_ok-job.ensures.ok)
    (same-without c.self.inside.actions c.args.a.0 c.in_ok-job.job x.0 x.1 x.2))
    (subst (λ (j : ℕ). IsUnion c.self.inside.actions j c.cores_beside-before.result.0) x.2
    (c.cores_beside-before.ensures.live x.0 x.1)) c.remark_where_changed.ensures
