use Rattle.task_board.proofs.Names.{◌≡◌, ℕ, inl, inr, refl, sym, ap, subst, arith, IsUnion, is_unserved, EndsWaiting, SchedulerTable, Becomes}
use Rattle.mtapi_values.specs.declared.ends.TaskEnd.TheVariants.{Failed}
use Rattle.task_board.proofs.EndLemmas.{none-ends}
use Rattle.task_board.proofs.scheduler.Scheduler.end_unserved.Goals as goal

pub returns-then-cores-before-clause-new : goal.returns-then-cores-before-clause-new
returns-then-cores-before-clause-new c =
    subst (λ (b : SchedulerTable). Becomes c.args.self.now b c.args.self.now.actions b.tasks) (sym c.keep_cover.ensures)
    (record { settings = refl; actions_are = refl; tasks_are = refl; queues_are = refl; groups_are = refl })

pub returns-then-cores-before-clause-ends : goal.returns-then-cores-before-clause-ends
returns-then-cores-before-clause-ends c served =
    let same : c.covered_cores-cores.result.0 ≡ c.args.before.0 = omega (arith, c.if-cores-before.true) in
    let union = subst (λ (b : SchedulerTable). IsUnion b.actions c.args.job c.covered_cores-cores.result.0) c.keep_cover.ensures
    (c.covered_cores-cores.ensures c.keep_cover.new.self.actions c.args.job c.cover.ensures) in
    record {
      mask = c.args.before;
      covered = subst (λ (m : ℕ). IsUnion c.args.self.now.actions c.args.job m) same union;
      ends =
          subst (λ (b : SchedulerTable). EndsWaiting (is_unserved c.args.self.now.settings.workers c.args.job c.args.before.0)
          (Failed c.args.status) c.args.self.now.tasks b.tasks) (sym c.keep_cover.ensures)
          (none-ends (is_unserved c.args.self.now.settings.workers c.args.job c.args.before.0) (Failed c.args.status) c.args.self.now c.is_kept.ensures served);
    }

pub returns-then-cores-before-clause-unless : goal.returns-then-cores-before-clause-unless
returns-then-cores-before-clause-unless c =
    let same : c.covered_cores-cores.result.0 ≡ c.args.before.0 = omega (arith, c.if-cores-before.true) in
    let union = subst (λ (b : SchedulerTable). IsUnion b.actions c.args.job c.covered_cores-cores.result.0) c.keep_cover.ensures
    (c.covered_cores-cores.ensures c.keep_cover.new.self.actions c.args.job c.cover.ensures) in
    inr (subst (λ (m : ℕ). IsUnion c.args.self.now.actions c.args.job m) same union, ap (λ (b : SchedulerTable). b.tasks) c.keep_cover.ensures)

pub returns-clause-new : goal.returns-clause-new
returns-clause-new c = subst (λ (b : SchedulerTable). Becomes b c.end_waiting.new.self b.actions c.end_waiting.new.self.tasks) c.keep_cover.ensures
    c.end_waiting.ensures.new

pub returns-clause-ends : goal.returns-clause-ends
returns-clause-ends c served = record {
  mask = c.covered_cores-cores.result;
  covered = subst (λ (b : SchedulerTable). IsUnion b.actions c.args.job c.covered_cores-cores.result.0) c.keep_cover.ensures
      (c.covered_cores-cores.ensures c.keep_cover.new.self.actions c.args.job c.cover.ensures);
  ends = subst (λ (b : SchedulerTable). EndsWaiting (is_unserved b.settings.workers c.args.job c.covered_cores-cores.result.0)
      (Failed c.args.status) b.tasks c.end_waiting.new.self.tasks) c.keep_cover.ensures c.end_waiting.ensures.ends;
}

pub returns-clause-unless : goal.returns-clause-unless
returns-clause-unless c = inl (record {
  mask = c.covered_cores-cores.result;
  covered = subst (λ (b : SchedulerTable). IsUnion b.actions c.args.job c.covered_cores-cores.result.0) c.keep_cover.ensures
      (c.covered_cores-cores.ensures c.keep_cover.new.self.actions c.args.job c.cover.ensures);
  ends = subst (λ (b : SchedulerTable). EndsWaiting (is_unserved b.settings.workers c.args.job c.covered_cores-cores.result.0)
      (Failed c.args.status) b.tasks c.end_waiting.new.self.tasks) c.keep_cover.ensures c.end_waiting.ensures.ends;
})
