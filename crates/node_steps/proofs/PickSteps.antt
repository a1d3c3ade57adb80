-- A pick is a step of the machine.
use Rattle.node_steps.proofs.Names.{◌≡◌, ℕ, ◌<◌, Bool, true, false, not, cond, [], ◌∷◌, Option, Some, None, sym, ◌∙◌, ap, subst, arith, ◌&&◌, nat_lt, nat_tests, in_mask, slot_value, changed, SomeLive, NoneLive, any_listed, update, any-none, any-live, any-some, Action, has_enabled_job, is_eligible, Passes, Task, Running, is_unstarted, is_unended, runs_on, with_state, Reply, State, workers, is_new, is_stop, Row, gives, is_ready, can_take, has_better, picks, Kind, PoolNode, Choice, Lists, Live, PoolNodeSteps, state_of, begins_in, IsScheduler, RunsBy, Takeable, NoneTakeable, NoneBetter, IsChoice, IsBest, and_from, and_parts}
use Rattle.std.specs.Bool.{OnTrue, OnFalse}
use Rattle.mtapi_machine.specs.declared.ops.Op.TheVariants as op
use Rattle.mtapi_machine.specs.declared.replies.Reply.TheVariants as reply
use Rattle.mtapi_machine.specs.Moves.{runs_task as runs_task}
use Rattle.node_steps.specs.Picks.{TakesChoice}
use Rattle.node_steps.proofs.Gives.{Gives, gives_this, says_this, past, allows, at_some, lands}
use Rattle.node_steps.proofs.Moves.{found, holds_changed}
use Rattle.node_steps.proofs.StartSteps.{eligible_in, runs_in}
use Rattle.node_steps.proofs.TaskSteps.{task_steps, with_pool}
use Rattle.node_steps.proofs.QueueLemmas.{lets-begin}
use Rattle.node_steps.proofs.WorkSteps.{is_worker}

-- The tests of the machine, from the slots

module _ (n : PoolNode) (l : Lists) (w : ℕ) (v : Live n l) (k : IsScheduler n.scheduler) (less : w < n.scheduler.settings.workers) where
  abbrev worker_count : ℕ
  worker_count = n.scheduler.settings.workers

  abbrev lets_in : ℕ → Option ℕ → Bool
  lets_in h = begins_in n.scheduler.queues.pool h

  scheduled-unended : (t : Task) → is_unstarted t ≡ true → is_unended t ≡ true
  scheduled-unended t e1 = grind (arith, nat_tests)

  ready_if : (h : ℕ) (t : Task) → slot_value n.scheduler.tasks.pool h ≡ Some t → is_unstarted t ≡ true → lets_in h t.queue ≡ true
      → is_ready (state_of n l) t ≡ true
  unfolding is_ready
  ready_if h t g u q = and_from _ _ u (lets-begin n l v k h t g (scheduled-unended t u) ∙ q)

  ready_unstarted : (t : Task) → is_ready (state_of n l) t ≡ true → is_unstarted t ≡ true
  unfolding is_ready
  ready_unstarted t e = (and_parts (is_unstarted t) _ e).0

  ready_let : (h : ℕ) (t : Task) → slot_value n.scheduler.tasks.pool h ≡ Some t → is_ready (state_of n l) t ≡ true → lets_in h t.queue ≡ true
  unfolding is_ready
  ready_let h t g e = sym (lets-begin n l v k h t g (scheduled-unended t (and_parts (is_unstarted t) _ e).0)) ∙ (and_parts (is_unstarted t) _ e).1

  -- an action that may run the task is eligible
  eligible_if : (h : ℕ) (t : Task) (a : Action) → RunsBy (lets_in h) w t a → is_eligible worker_count w t.job t.cores a ≡ true
  eligible_if h t a r = eligible_in worker_count w t.job t.cores a less r.core r.action

  pub takes_if : (h : ℕ) (t : Task) → slot_value n.scheduler.tasks.pool h ≡ Some t → Takeable n.scheduler.actions (lets_in h) w t
      → can_take (state_of n l) w t ≡ true
  unfolding can_take
  takes_if h t e1 e2 = grind (arith, nat_tests, and_from, ready_if, any-live, is_eligible, eligible_if)

  pub takeable : (h : ℕ) (t : Task) → slot_value n.scheduler.tasks.pool h ≡ Some t → can_take (state_of n l) w t ≡ true
      → Takeable n.scheduler.actions (lets_in h) w t
  unfolding can_take
  takeable h t g e = grind (arith, nat_tests, any-some, ready_unstarted, ready_let, runs_in)

  -- nothing can be taken
  pub none_takes : NoneTakeable n.scheduler.actions n.scheduler.tasks.pool n.scheduler.queues.pool w → any_listed (can_take (state_of n l) w) l.tasks ≡ false
  none_takes none = any-none n.scheduler.tasks.pool l.tasks (can_take (state_of n l) w) v.tasks.stands (λ h t g e. none h t g (takeable h t g e))

  -- nothing of a smaller priority can be taken
  none_better : (priority : ℕ) → NoneBetter n.scheduler.actions n.scheduler.tasks.pool n.scheduler.queues.pool w priority
      → has_better (state_of n l) w priority ≡ false
  unfolding has_better
  none_better priority none =
      any-none n.scheduler.tasks.pool l.tasks (λ t. can_take (state_of n l) w t && nat_lt t.priority priority) v.tasks.stands
      (λ h t g e. none h t g (takeable h t g (and_parts (can_take (state_of n l) w t) _ e).0) (lt t.priority (and_parts (can_take (state_of n l) w t) _ e).1))
    where
      lt : (p : ℕ) → nat_lt p priority ≡ true → p < priority
      lt p e = grind (arith, nat_tests)

  -- and the other way round
  pub better_if : (priority : ℕ) → has_better (state_of n l) w priority ≡ false
      → NoneBetter n.scheduler.actions n.scheduler.tasks.pool n.scheduler.queues.pool w priority
  unfolding has_better
  better_if priority e1 = grind (arith, nat_tests, any-live, can_take, state_of, nat_lt, and_from, takes_if)

  -- what may be taken can be chosen
  pub choice_if : (c : Choice) (t : Task) (a : Action) → slot_value n.scheduler.tasks.pool c.task.0 ≡ Some t
      → slot_value n.scheduler.actions c.action.0 ≡ Some a → a.kind ≡ c.kind → t.priority ≡ c.priority → is_ready (state_of n l) t ≡ true
      → is_eligible worker_count w t.job t.cores a ≡ true →
      IsChoice n.scheduler.actions n.scheduler.tasks.pool n.scheduler.queues.pool w c
  choice_if c t a e1 e2 e3 e4 e5 e6 = grind (arith, nat_tests, ready_unstarted, ready_let, and_parts, has_enabled_job, nat_lt, in_mask)

  -- what was chosen may be taken
  may : (c : Choice) (x : IsChoice n.scheduler.actions n.scheduler.tasks.pool n.scheduler.queues.pool w c)
      → NoneBetter n.scheduler.actions n.scheduler.tasks.pool n.scheduler.queues.pool w c.priority
      → (is_ready (state_of n l) x.t && is_eligible (workers (state_of n l)) w x.t.job x.t.cores x.a && not (has_better (state_of n l) w x.t.priority)) ≡ true
  may c x none =
      let better : has_better (state_of n l) w x.t.priority ≡ false = ap (has_better (state_of n l) w) x.priority ∙ none_better c.priority none in
      and_from _ _ (and_from _ _ (ready_if c.task.0 x.t x.task x.runs.unstarted x.runs.queue) (eligible_if c.task.0 x.t x.a x.runs)) (ap not better)

not_stopped : (b : Bool) (s t : State) (r : Reply) (u v : Row) → b ≡ false → Gives s v r t → Gives s (cond b u v) r t
not_stopped b s t r u v e1 e2 = grind (arith, nat_tests)

module _ (n : PoolNode) (l : Lists) (w : ℕ) (v : Live n l) (kept : IsScheduler n.scheduler) (less : w
    < n.scheduler.settings.workers) (runs : any_listed (runs_on w) l.tasks ≡ false) (new : is_new n.core.phase ≡ false) (stop : is_stop (state_of n l)
    ≡ false) where
  pub pick_idle : IsBest n.scheduler.actions n.scheduler.tasks.pool n.scheduler.queues.pool w None → PoolNodeSteps n l w op.Pick reply.Idle n
  pick_idle e1 = grind (arith, nat_tests, is_worker, not_stopped, is_stop, state_of, none_takes, says_this)

  pub pick_takes : (c : Choice) (r : Reply) (m : PoolNode) → IsBest n.scheduler.actions n.scheduler.tasks.pool n.scheduler.queues.pool w (Some c)
      → TakesChoice n w c r m → PoolNodeSteps n l w op.Pick r m
  pick_takes c r m best t =
      subst (λ (k : PoolNode). PoolNodeSteps n l w op.Pick r k) (λ i. record { core = sym t.core i; scheduler = m.scheduler; resources = sym t.resources i })
      (lands n l w op.Pick r m.scheduler n.scheduler.actions (with_pool n (changed n.scheduler.tasks.pool c.task.0 (with_state (Running w c.kind)))) t.scheduler
      (subst (λ (y : Reply). PoolNodeSteps n l w op.Pick y
      (record n { scheduler = record n.scheduler { tasks = with_pool n (changed n.scheduler.tasks.pool c.task.0 (with_state (Running w c.kind))) } }))
      (sym said)
      (task_steps n l (with_pool n (changed n.scheduler.tasks.pool c.task.0 (with_state (Running w c.kind))))
      (update c.task.0 (with_state (Running w c.kind)) l.tasks) w op.Pick (reply.Picked c.task c.action c.kind x.t.args) v
      (past _ _ _ _ _ _ (is_worker w _ less) (past _ _ _ _ _ _ runs (past _ _ _ _ _ _ new (not_stopped (is_stop (state_of n l)) _ _ _ _ _ stop chosen))))
      (holds_changed _ _ n.scheduler.tasks.pool l.tasks c.task.0 (with_state (Running w c.kind)) v.tasks) (omega arith) tt)))
    where
      x : IsChoice n.scheduler.actions n.scheduler.tasks.pool n.scheduler.queues.pool w c
      x = best.0

      same : t.t ≡ x.t
      same = some (sym t.task ∙ x.task)
        where
          some : Some t.t ≡ Some x.t → t.t ≡ x.t
          some e = cc

      said : r ≡ reply.Picked c.task c.action c.kind x.t.args
      said = t.reply ∙ ap (λ (u : Task). reply.Picked c.task c.action c.kind u.args) same

      may_be : (is_ready (state_of n l) x.t && is_eligible (workers (state_of n l)) w x.t.job x.t.cores x.a && not (has_better (state_of n l) w x.t.priority))
          ≡ true
      may_be = may n l w v kept less c x best.1

      chosen : Gives (state_of n l) (picks (state_of n l) w (reply.Picked c.task c.action c.kind x.t.args)) (reply.Picked c.task c.action c.kind x.t.args)
          (record (state_of n l) { tasks = update c.task.0 (with_state (Running w c.kind)) l.tasks })
      chosen =
          at_some _ _ _ x.t _ _ _ (found _ _ n.scheduler.tasks.pool l.tasks c.task.0 (Some x.t) v.tasks x.task)
          (at_some _ _ _ x.a _ _ _ (found _ _ n.scheduler.actions l.actions c.action.0 (Some x.a) v.actions x.action)
          (allows (is_ready (state_of n l) x.t && is_eligible (workers (state_of n l)) w x.t.job x.t.cores x.a
          && not (has_better (state_of n l) w x.t.priority)) _ _ _ _ may_be
          (subst (λ (k : Kind). Gives (state_of n l) (gives (reply.Picked c.task c.action x.a.kind x.t.args) (runs_task c.task.0 w x.a.kind ∷ []))
          (reply.Picked c.task c.action k x.t.args) (record (state_of n l) { tasks = update c.task.0 (with_state (Running w k)) l.tasks })) x.kind
          (gives_this _ _ _))))

-- no task runs on the worker, and one does
pick_free : (n : PoolNode) (l : Lists) (w : ℕ) → Live n l → NoneLive (slot_value n.scheduler.tasks.pool) (Passes (runs_on w))
    → any_listed (runs_on w) l.tasks ≡ false
pick_free n l w v none = any-none n.scheduler.tasks.pool l.tasks (runs_on w) v.tasks.stands none

pick_busy : (n : PoolNode) (l : Lists) (w : ℕ) → Live n l → SomeLive (slot_value n.scheduler.tasks.pool) (Passes (runs_on w))
    → any_listed (runs_on w) l.tasks ≡ true
pick_busy n l w v some = any-live n.scheduler.tasks.pool l.tasks (runs_on w) some.0 some.1 v.tasks.stands some.2 some.3

-- what was told of a worker
pub runs_told : (n : PoolNode) (l : Lists) (w : ℕ) (b : Bool) → Live n l → OnTrue b (SomeLive (slot_value n.scheduler.tasks.pool) (Passes (runs_on w)))
    → OnFalse b (NoneLive (slot_value n.scheduler.tasks.pool) (Passes (runs_on w))) → any_listed (runs_on w) l.tasks ≡ b
runs_told n l w b e1 e2 e3 = grind (arith, nat_tests, pick_busy, pick_free)
