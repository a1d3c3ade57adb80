-- The ops on phases are steps of the machine.
use Rattle.node_steps.proofs.Names.{nat_tests, ◌≡◌, ℕ, Bool, false, not, refl, sym, subst, arith, ◌&&◌, Cancelled, holds, Closing, is_past_open, end_tasks, Task, is_unstarted, end_each, is_shut_in, TaskTable, records_of, is_shut, EndsWaiting, PoolNode, Lists, Live, PoolNodeSteps, state_of, Sound}
use Rattle.mtapi_machine.specs.declared.ops.Op.TheVariants as op
use Rattle.mtapi_machine.specs.declared.replies.Reply.TheVariants as reply
use Rattle.node_steps.proofs.Gives.{past, steps}
use Rattle.node_steps.proofs.WaitingEnds.{AtOnce, ends-at-once}

-- the node closed to new objects
abbrev pub closing : PoolNode → PoolNode
closing n = record n { core = record n.core { phase = Closing } }

module _ (n : PoolNode) (l : Lists) (who : ℕ) (v : Live n l) (k : Sound (state_of n l)) (late : is_past_open n.core.phase
    ≡ false) (t : TaskTable) (ends : EndsWaiting (λ x. is_shut (records_of n.scheduler.queues.pool) x.queue) Cancelled n.scheduler.tasks t) where
  -- the scheduler's queues and the machine's say the same
  shut : ◌≡◌ {A = Task → Bool} (λ x. is_shut (records_of n.scheduler.queues.pool) x.queue) (is_shut_in l.queues)
  shut i x = holds (λ h. holds (λ q. not q.enabled) (v.queues.stands.found h i)) x.queue

  once : AtOnce n.scheduler.settings.tasks n.scheduler.settings.generations (is_shut_in l.queues) Cancelled n.scheduler.tasks t l.tasks
  once = ends-at-once n.scheduler.settings.tasks n.scheduler.settings.generations (is_shut_in l.queues) Cancelled n.scheduler.tasks t l.tasks v.tasks k.ordered
      (subst (λ (p : Task → Bool). EndsWaiting p Cancelled n.scheduler.tasks t) shut ends)

  closed : PoolNode
  closed = record (closing n) { scheduler = record n.scheduler { tasks = t } }

  to : Lists
  to = record l { tasks = end_each (λ x. is_unstarted x && is_shut_in l.queues x) Cancelled n.scheduler.tasks.ends l.tasks }

  leads : end_tasks (λ x. is_unstarted x && is_shut_in l.queues x) Cancelled (record (state_of n l) { phase = Closing }) ≡ state_of closed to
  unfolding closed to
  leads i = record (state_of closed to) { starts = sym once.starts i; ends = sym once.ends i }

  pub close_steps : PoolNodeSteps n l who op.Close reply.Ok (record (closing n) { scheduler = record n.scheduler { tasks = t } })
  unfolding closed to
  close_steps =
      steps n closed l to who op.Close reply.Ok
      (past _ _ _ _ _ _ late (record { allowed = refl; leads = leads }))
      (record { actions = v.actions; tasks = once.holds; groups = v.groups; queues = v.queues; resources = v.resources }) refl (omega (arith, once.starts)) tt
