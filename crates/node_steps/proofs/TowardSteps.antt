-- A worker that wants one task and one action takes these wherever it may.
use Rattle.node_steps.proofs.Names.{nat_tests, ◌≡◌, ℕ, ◌<◌, Bool, true, false, not, List, [], ◌∷◌, Option, Some, None, refl, sym, ◌∙◌, ap, arith, ◌&&◌, nat_lt, ℤ, ActionHandle, TaskHandle, Kind, slot_value, live_object, any_listed, Action, is_eligible, Task, runs_on, Reply, State, workers, is_new, is_stop, actions, Row, unless, gives, never, only, live, chosen, Allows, is_ready, has_better, IsScheduler, Choice, NoneBetter, IsChoice, IsBest, PoolNode, MayPick, IsToward, Lists, Live, state_of, and_parts}
use Rattle.mtapi_values.specs.declared.statuses.MtapiStatus.TheVariants as m
use Rattle.mtapi_machine.specs.declared.replies.Reply.TheVariants as reply
use Rattle.mtapi_machine.specs.Moves.{runs_task as begins_task}
use Rattle.node_steps.specs.Picks.{TakesChoice}
use Rattle.node_steps.proofs.PickSteps.{better_if, choice_if}

-- What a worker that may take this task by this action is told of it

pub record CanPick (s : State) (w : ℕ) (t : TaskHandle) (a : ActionHandle) (k : Kind) (args : List ℤ) : Type 0 where
  pub worker : not (nat_lt w (workers s)) ≡ false
  pub free : any_listed (runs_on w) s.tasks ≡ false
  pub started : is_new s.phase ≡ false
  pub goes_on : is_stop s ≡ false
  pub x : Task
  pub y : Action
  pub task : live_object s.tasks t.0 ≡ Some x
  pub action : live_object s.actions a.0 ≡ Some y
  pub may : (is_ready s x && is_eligible (workers s) w x.job x.cores y && not (has_better s w x.priority)) ≡ true
  pub kind : k ≡ y.kind
  pub args_are : args ≡ x.args

-- a condition that answers otherwise isn't met
past_one : (c : Bool) (x r : Reply) (w : Row) → (r ≡ x → ⊥) → Allows (unless c x w) r → (c ≡ false) × Allows w r
past_one c x r w e1 e2 = grind (arith, nat_tests)

module _ (s : State) (w : ℕ) (t : TaskHandle) (a : ActionHandle) (k : Kind) (args : List ℤ) where
  abbrev told : Reply
  told = reply.Picked t a k args

  no_status : told ≡ reply.Mtapi m.ErrParameter → ⊥
  no_status e = cc

  abbrev tests : Task → Action → Bool
  tests x y = is_ready s x && is_eligible (workers s) w x.job x.cores y && not (has_better s w x.priority)

  abbrev takes : Task → Action → Row
  takes x y = gives (reply.Picked t a y.kind x.args) (begins_task t.0 w y.kind ∷ [])

  module _ (worker : not (nat_lt w (workers s)) ≡ false) (free : any_listed (runs_on w) s.tasks ≡ false) (started : is_new s.phase ≡ false) (goes_on : is_stop s
      ≡ false) where
    by_test : (x : Task) (y : Action) → live_object s.tasks t.0 ≡ Some x → live_object s.actions a.0 ≡ Some y → (b : Bool) → tests x y ≡ b
        → Allows (only b (takes x y)) told → CanPick s w t a k args
    by_test x y found_x found_y false e allowed = absurd allowed
    by_test x y found_x found_y true e allowed = grind (arith, nat_tests)

    by_action : (x : Task) → live_object s.tasks t.0 ≡ Some x → (o : Option Action) → live_object s.actions a.0 ≡ o
        → Allows (live o never (λ y. only (tests x y) (takes x y))) told → CanPick s w t a k args
    by_action x found_x None e allowed = absurd allowed
    by_action x found_x (Some y) e allowed = by_test x y found_x e (tests x y) refl allowed

    by_task : (o : Option Task) → live_object s.tasks t.0 ≡ o → Allows (live o never (λ x. chosen actions s a.0 (λ y. only (tests x y) (takes x y)))) told
        → CanPick s w t a k args
    by_task None e allowed = absurd allowed
    by_task (Some x) e allowed = by_action x e (live_object s.actions a.0) refl allowed

  pub can_pick : MayPick s w t a k args → CanPick s w t a k args
  can_pick e1 = grind (arith, nat_tests)

-- The choice of this task and this action

module _ (n : PoolNode) (l : Lists) (w : ℕ) (v : Live n l) (k : IsScheduler n.scheduler) (less : w
    < n.scheduler.settings.workers) (t : TaskHandle) (a : ActionHandle) (kind : Kind) (args : List ℤ) (p : CanPick (state_of n l) w t a kind args) where
  abbrev choice : Choice
  choice = record { task = t; action = a; kind = kind; priority = p.x.priority }

  found_task : slot_value n.scheduler.tasks.pool t.0 ≡ Some p.x
  found_task = v.tasks.stands.found t.0 ∙ p.task

  tested : (is_ready (state_of n l) p.x && is_eligible (workers (state_of n l)) w p.x.job p.x.cores p.y) ≡ true
  tested = (and_parts _ (not (has_better (state_of n l) w p.x.priority)) p.may).0

  it_may : IsChoice n.scheduler.actions n.scheduler.tasks.pool n.scheduler.queues.pool w choice
  it_may =
      choice_if n l w v k less choice p.x p.y found_task (v.actions.stands.found a.0 ∙ p.action) (sym p.kind) refl
      (and_parts (is_ready (state_of n l) p.x) _ tested).0 (and_parts (is_ready (state_of n l) p.x) _ tested).1

  not_not : (b : Bool) → not b ≡ true → b ≡ false
  not_not b e1 = grind (arith, nat_tests)

  none_better : NoneBetter n.scheduler.actions n.scheduler.tasks.pool n.scheduler.queues.pool w p.x.priority
  none_better =
      better_if n l w v k less p.x.priority
      (not_not _ (and_parts (is_ready (state_of n l) p.x && is_eligible (workers (state_of n l)) w p.x.job p.x.cores p.y) _ p.may).1)

  -- so it is what was found
  pub is_found : (o : Option Choice) → IsToward n w t a o → o ≡ Some choice
  is_found o toward = toward choice refl refl it_may none_better

  -- and what the worker takes
  pub is_taken : (c : Choice) (r : Reply) (m : PoolNode) → IsToward n w t a (Some c) → TakesChoice n w c r m → r ≡ reply.Picked t a kind args
  is_taken c r m e1 e2 = grind (arith, nat_tests, is_found, found_task)

-- What is chosen toward them

-- what was wanted
abbrev task_or : TaskHandle → Option (TaskHandle × ActionHandle) → TaskHandle
task_or t None = t
task_or t (Some x) = x.0

abbrev action_or : ActionHandle → Option (TaskHandle × ActionHandle) → ActionHandle
action_or a None = a
action_or a (Some x) = x.1

pub wanted_task : {t u : TaskHandle} {a b : ActionHandle} → ◌≡◌ {A = Option (TaskHandle × ActionHandle)} (Some (t, a)) (Some (u, b)) → t ≡ u
wanted_task {t} e = ap (task_or t) e

pub wanted_action : {t u : TaskHandle} {a b : ActionHandle} → ◌≡◌ {A = Option (TaskHandle × ActionHandle)} (Some (t, a)) (Some (u, b)) → a ≡ b
wanted_action {a = a} e = ap (action_or a) e

module _ (n : PoolNode) (w : ℕ) where
  -- the choices of one task have one priority
  pub same_priority : (b c : Choice) → b.task ≡ c.task → IsChoice n.scheduler.actions n.scheduler.tasks.pool n.scheduler.queues.pool w b
      → IsChoice n.scheduler.actions n.scheduler.tasks.pool n.scheduler.queues.pool w c → b.priority ≡ c.priority
  same_priority b c e1 e2 e3 = grind (arith, nat_tests)

  -- the best one has the priority of the wanted one, where that is best too
  pub one_priority : (b c : Choice) → IsBest n.scheduler.actions n.scheduler.tasks.pool n.scheduler.queues.pool w (Some b)
      → IsChoice n.scheduler.actions n.scheduler.tasks.pool n.scheduler.queues.pool w c
      → NoneBetter n.scheduler.actions n.scheduler.tasks.pool n.scheduler.queues.pool w c.priority → c.priority ≡ b.priority
  one_priority b c e1 e2 e3 = grind (arith, nat_tests)
