-- What a row gives: a reply that it allows, and the state after it. One word for each part of a row.
use Rattle.node_steps.proofs.Names.{nat_tests, ◌≡◌, ℕ, ◌+◌, ◌≤◌, Bool, true, false, List, [], ◌∷◌, Option, Some, None, refl, sym, ap, subst, arith, cond, MtapiStatus, first, Op, Reply, Mtapi, State, Move, after_moves, Row, unless, says, gives, only, Allows, after_row, mtapi_unless, live, row, IsHonest, Slots, Action, TaskTable, HeldQueue, QueueTable, SchedulerTable, Becomes, BecomesWith, records_of, group_slots, GroupTable, without_members, Regroups, PoolNode, Lists, Pools, Live, PoolNodeSteps, state_of, terms_of}

-- from the state s the row w gives the reply r and leads to t
pub record Gives (s : State) (w : Row) (r : Reply) (t : State) : Type 0 where
  pub allowed : Allows w r
  pub leads : after_row s w ≡ t

pub gives_this : (s : State) (r : Reply) (ms : List Move) → Gives s (gives r ms) r (after_moves ms s)
gives_this s r ms = record { allowed = refl; leads = refl }

pub says_this : (s : State) (r : Reply) → Gives s (says r) r s
says_this s r = record { allowed = refl; leads = refl }

-- a condition that is met, and one that isn't
pub met : (s : State) (c : Bool) (x : Reply) (w : Row) → c ≡ true → Gives s (unless c x w) x s
met s c x w e1 = grind (arith, nat_tests)

pub past : (s t : State) (c : Bool) (x r : Reply) (w : Row) → c ≡ false → Gives s w r t → Gives s (unless c x w) r t
past s t c x r w e1 e2 = grind (arith, nat_tests)

-- a list of conditions
pub met_in : (s : State) (cs : List (Bool × MtapiStatus)) (c : MtapiStatus) (w : Row) → first cs ≡ Some c → Gives s (mtapi_unless cs w) (Mtapi c) s
met_in s [] c w h = absurd (cc)
met_in s ((true, x) ∷ cs) c w h = record { allowed = cc; leads = refl }
met_in s ((false, x) ∷ cs) c w h = let g = met_in s cs c w h in record { allowed = g.allowed; leads = g.leads }

pub past_all : (s t : State) (cs : List (Bool × MtapiStatus)) (r : Reply) (w : Row) → first cs ≡ None → Gives s w r t → Gives s (mtapi_unless cs w) r t
past_all s t [] r w h g = g
past_all s t ((true, x) ∷ cs) r w h g = absurd (cc)
past_all s t ((false, x) ∷ cs) r w h g = let k = past_all s t cs r w h g in record { allowed = k.allowed; leads = k.leads }

-- a row that a condition lets through
pub allows : (b : Bool) (s t : State) (r : Reply) (v : Row) → b ≡ true → Gives s v r t → Gives s (only b v) r t
allows b s t r v e1 e2 = grind (arith, nat_tests)

-- a row that a condition chooses
pub then_row : (b : Bool) (s t : State) (r : Reply) (v w : Row) → b ≡ true → Gives s v r t → Gives s (cond b v w) r t
then_row b s t r v w e1 e2 = grind (arith, nat_tests)

pub else_row : (b : Bool) (s t : State) (r : Reply) (v w : Row) → b ≡ false → Gives s w r t → Gives s (cond b v w) r t
else_row b s t r v w e1 e2 = grind (arith, nat_tests)

module _ {T : Type 0} where
  -- a live object, and none
  pub at_some : (s t : State) (o : Option T) (x : T) (other : Row) (r : Reply) (f : T → Row) → o ≡ Some x → Gives s (f x) r t → Gives s (live o other f) r t
  at_some s t o x other r f e g = subst (λ (p : Option T). Gives s (live p other f) r t) (sym e) g

  pub at_none : (s : State) (o : Option T) (invalid : Reply) (f : T → Row) → o ≡ None → Gives s (live o (says invalid) f) invalid s
  at_none s o invalid f e = subst (λ (p : Option T). Gives s (live p (says invalid) f) invalid s) (sym e) (says_this s invalid)

-- a step of the node from what the row gives
pub steps : (n m : PoolNode) (l k : Lists) (who : ℕ) (op : Op) (r : Reply) → Gives (state_of n l) (row (state_of n l) who op r) r (state_of m k)
    → Pools n.scheduler.settings m.scheduler.actions m.scheduler.tasks.pool (group_slots m.scheduler) (records_of m.scheduler.queues.pool) m.resources k
    → terms_of m ≡ terms_of n → m.scheduler.tasks.starts ≤ n.scheduler.tasks.starts + 1 → IsHonest op → PoolNodeSteps n l who op r m
steps n m l k who op r e1 e2 e3 e4 e5 = grind (arith, nat_tests)

-- a step that leaves the node as it was
pub stays : (n : PoolNode) (l : Lists) (who : ℕ) (op : Op) (r : Reply) → Live n l → IsHonest op
    → Gives (state_of n l) (row (state_of n l) who op r) r (state_of n l) → PoolNodeSteps n l who op r n
stays n l who op r v h g = (l, record { allowed = g.allowed; leads = g.leads; live = v; terms = refl; starts = omega arith; honest = h })

-- the same step, of a scheduler that has become so
pub lands_to : (n m : PoolNode) (l : Lists) (who : ℕ) (op : Op) (r : Reply) (b : SchedulerTable) (a : Slots Action) (t : TaskTable) (q : Slots HeldQueue)
    (g : GroupTable) → m.scheduler.settings ≡ n.scheduler.settings → b.settings ≡ m.scheduler.settings → b.actions ≡ a → b.tasks ≡ t
    → records_of b.queues.pool ≡ records_of q → group_slots b ≡ without_members g.pool
    → PoolNodeSteps n l who op r (record m {
      scheduler =
          record m.scheduler { actions = a; tasks = t; queues = record m.scheduler.queues { pool = q }; groups = g };
    })
    → PoolNodeSteps n l who op r (record m { scheduler = b })
lands_to n m l who op r b a t q g e1 e2 e3 e4 e5 e6 e7 = grind (arith, nat_tests)

pub lands : (n : PoolNode) (l : Lists) (who : ℕ) (op : Op) (r : Reply) (b : SchedulerTable) (a : Slots Action) (q : TaskTable) → Becomes n.scheduler b a q
    → PoolNodeSteps n l who op r (record n { scheduler = record n.scheduler { actions = a; tasks = q } })
    → PoolNodeSteps n l who op r (record n { scheduler = b })
lands n l who op r b a q e s = lands_to n n l who op r b a q n.scheduler.queues.pool n.scheduler.groups refl e.settings e.actions_are e.tasks_are e.queues_are
    e.groups_are s

-- the same of the queues alone
pub lands_with : (n : PoolNode) (l : Lists) (who : ℕ) (op : Op) (r : Reply) (b : SchedulerTable) (q : Slots HeldQueue) → BecomesWith n.scheduler b q
    → PoolNodeSteps n l who op r (record n { scheduler = record n.scheduler { queues = record n.scheduler.queues { pool = q } } })
    → PoolNodeSteps n l who op r (record n { scheduler = b })
lands_with n l who op r b q e s = lands_to n n l who op r b n.scheduler.actions n.scheduler.tasks q n.scheduler.groups refl e.settings e.actions_are e.tasks_are
    (ap records_of e.queues_are) (ap (λ (g : GroupTable). without_members g.pool) e.groups_are) s

-- the same, where groups come or go
pub regroups_to : (n : PoolNode) (l : Lists) (who : ℕ) (op : Op) (r : Reply) (b : SchedulerTable) (q : TaskTable) → Regroups n.scheduler b q
    → PoolNodeSteps n l who op r (record n { scheduler = record n.scheduler { tasks = q; groups = b.groups } })
    → PoolNodeSteps n l who op r (record n { scheduler = b })
regroups_to n l who op r b q e s = lands_to n n l who op r b n.scheduler.actions q n.scheduler.queues.pool b.groups refl e.settings e.actions_are e.tasks_are
    (ap (λ (z : QueueTable). records_of z.pool) e.queues_are) refl s
