-- An action that goes ends the tasks that no worker can take any more.
use Rattle.node_steps.proofs.Names.{nat_tests, ◌≡◌, ℕ, ◌+◌, Bool, true, false, not, cond, List, [], ◌∷◌, Some, None, Ok, refl, sym, ◌∙◌, ap, subst, arith, ◌==◌, ◌&&◌, TaskEnd, ActionHandle, Mask, MtapiStatus, in_mask, Slots, slot_value, without, changed, Listed, live_of, lookup, live_object, any_listed, count_listed, change, with_fields, gone, Distinct, any-live, any-some, same_tests, Action, with_enabled, is_eligible, has_worker, some_below, Task, is_unstarted, end_each, job_of, IsUnion, TaskTable, SchedulerTable, Becomes, is_unserved, AreServed, EndsUnserved, job-found, Op, State, is_open, withdraws, apply, row, IsHonest, PoolNode, Lists, Holds, Live, PoolNodeSteps, state_of, Sound, eq-eqb, none-some}
use Rattle.mtapi_values.specs.declared.ends.TaskEnd.TheVariants.{Failed}
use Rattle.mtapi_values.specs.declared.statuses.MtapiStatus.TheVariants as m
use Rattle.task_board.proofs.RemarkLemmas.{SameBut, same-changed, same-without}
use Rattle.mtapi_machine.specs.declared.ops.Op.TheVariants as op
use Rattle.mtapi_machine.specs.declared.replies.Reply.TheVariants as reply
use Rattle.node_steps.proofs.Gives.{Gives, gives_this, past, at_some, steps}
use Rattle.node_steps.proofs.Moves.{found, holds_changed, holds_remove}
use Rattle.node_steps.proofs.ActionSteps.{not_true}
use Rattle.node_steps.proofs.StartSteps.{below_same, covered_worker}
use Rattle.node_steps.proofs.ListedEnds.{both_pass}
use Rattle.node_steps.proofs.WaitingEnds.{AtOnce, ends-at-once}

-- Two tests that agree on the live tasks of a list

Agree : (Task → Bool) → (Task → Bool) → List (ℕ × Task) → Type 0
Agree p q es = (h : ℕ) (t : Task) → lookup es h ≡ Some t → p t ≡ q t

agree-behind : (p q : Task → Bool) (x : ℕ × Task) (es : List (ℕ × Task)) → lookup es x.0 ≡ None → Agree p q (x ∷ es) → Agree p q es
unfolding Agree
agree-behind p q x es none k h t g = k h t (by_handle (x.0 == h) refl)
  where
    by_handle : (b : Bool) → (x.0 == h) ≡ b → cond b (Some x.1) (lookup es h) ≡ Some t
    by_handle true same = let is : x.0 ≡ h = grind (arith) in absurd (none-some _ (sym none ∙ ap (lookup es) is ∙ g))
    by_handle false other = g

-- on the object in front, and on those behind it
agree-first : (p q : Task → Bool) (r : Listed Task) (rs : List (Listed Task)) → Distinct (live_of (r ∷ rs)) → Agree p q (live_of (r ∷ rs))
    → ((r.live && p r.fields) ≡ (r.live && q r.fields)) × Distinct (live_of rs) × Agree p q (live_of rs)
unfolding live_of Agree
agree-first p q r rs d k = by_live r.live d k
  where
    by_live : (a : Bool) → Distinct (cond a ((r.handle, r.fields) ∷ live_of rs) (live_of rs))
        → Agree p q (cond a ((r.handle, r.fields) ∷ live_of rs) (live_of rs))
        → ((a && p r.fields) ≡ (a && q r.fields)) × Distinct (live_of rs) × Agree p q (live_of rs)
    by_live true d k = (
      k r.handle r.fields (ap (λ (b : Bool). cond b (Some r.fields) (lookup (live_of rs) r.handle)) (eq-eqb r.handle r.handle refl)),
      d.1,
      agree-behind p q (r.handle, r.fields) (live_of rs) d.0 k,
    )
    by_live false d k = (refl, d, k)

same-ends : (p q : Task → Bool) (e : TaskEnd) (n : ℕ) (l : List (Listed Task)) → Distinct (live_of l) → Agree p q (live_of l)
    → end_each p e n l ≡ end_each q e n l
unfolding end_each
same-ends p q e n [] d k = refl
same-ends p q e n (r ∷ rs) d k = grind (arith, nat_tests, same-ends p q e (n + 1) rs, same-ends p q e n rs, agree-first)

same-count : (p q : Task → Bool) (l : List (Listed Task)) → Distinct (live_of l) → Agree p q (live_of l) → count_listed p l ≡ count_listed q l
same-count p q [] d k = refl
same-count p q (r ∷ rs) d k = grind (arith, nat_tests, same-count p q rs, agree-first)

-- Which tasks a worker can take

-- an action of a job serves its tasks alone
eligible-job : (workers w job cores : ℕ) (a : Action) → is_eligible workers w job cores a ≡ true → a.job ≡ job
eligible-job workers w job cores a e1 = grind (arith, nat_tests)

module _ (size turns : ℕ) (p q : Slots Action) (l others : List (Listed Action)) (job : ℕ) (s : Holds size turns p l) (z : Holds size turns q others)
    (same : SameBut job p q) where
  serves : (workers w other cores : ℕ) → (other ≡ job → ⊥)
      → any_listed (is_eligible workers w other cores) others ≡ any_listed (is_eligible workers w other cores) l
  serves workers w other cores e1 = grind (arith, nat_tests, same_tests, any-some, is_eligible, any-live, eligible-job)

  -- the tasks of another job are served as before
  pub served-as-before : (workers other cores : ℕ) → (other ≡ job → ⊥)
      → has_worker workers other cores (live_of others) ≡ has_worker workers other cores (live_of l)
  unfolding has_worker
  served-as-before workers other cores d = below_same workers _ _ (λ w less. serves workers w other cores d)

-- the tasks that end are those that no worker can take any more
left-agree : (size turns workers : ℕ) (p q : Slots Action) (l others : List (Listed Action)) (job : ℕ) (tasks : List (Listed Task)) (e : TaskEnd)
    (old new : TaskTable) → Holds size turns p l → Holds size turns q others → SameBut job p q
    → ((h : ℕ) (t : Task) → live_object tasks h ≡ Some t → is_unstarted t ≡ true → has_worker workers t.job t.cores (live_of l) ≡ true)
    → (u : EndsUnserved workers q job e old new)
    → Agree (both_pass (is_unserved workers job u.mask.0) e) (λ t. is_unstarted t && not (has_worker workers t.job t.cores (live_of others))) (live_of tasks)
unfolding Agree
left-agree size turns workers p q l others job tasks e old new s z same served u h t g = by_state (is_unstarted t) refl
  where
    by_job : is_unstarted t ≡ true → (b : Bool) → (t.job == job) ≡ b
        → (b && not (some_below workers (λ w. in_mask w u.mask.0 && in_mask w t.cores))) ≡ not (has_worker workers t.job t.cores (live_of others))
    by_job on true is =
        let j : t.job ≡ job = grind (arith) in
        ap not (sym (covered_worker size turns q others job u.mask z u.covered workers t.cores)
        ∙ ap (λ (k : ℕ). has_worker workers k t.cores (live_of others)) (sym j))
    by_job on false is =
        ap not (sym (served h t g on) ∙ sym (served-as-before size turns p q l others job s z same workers t.job t.cores other))
      where
        other : t.job ≡ job → ⊥
        other j = let k : (t.job == job) ≡ true = grind (arith) in no (sym is ∙ k)
          where
            no : false ≡ true → ⊥
            no x = cc

    by_state : (a : Bool) → is_unstarted t ≡ a → (a && is_unserved workers job u.mask.0 t) ≡ (a && not (has_worker workers t.job t.cores (live_of others)))
    by_state true on = by_job on (t.job == job) refl
    by_state false off = refl

-- The step

module _ (n : PoolNode) (l : Lists) (who job : ℕ) (v : Live n l) (k : Sound (state_of n l)) where
  -- an action goes, and the tasks that no worker can take any more end
  withdrawn : (o : Op) (h : ℕ) (f : Listed Action → Listed Action) (c : MtapiStatus) (q : Slots Action) (t : TaskTable)
      → Holds n.scheduler.settings.actions n.scheduler.settings.generations q (change h f l.actions) → SameBut job n.scheduler.actions q
      → EndsUnserved n.scheduler.settings.workers q job (Failed c) n.scheduler.tasks t
      → Gives (state_of n l) (row (state_of n l) who o reply.Ok) reply.Ok (apply (withdraws h f c) (state_of n l)) → IsHonest o
      → PoolNodeSteps n l who o reply.Ok (record n { scheduler = record n.scheduler { actions = q; tasks = t } })
  withdrawn o h f c q t held same u g honest =
      steps n m l to who o reply.Ok (subst (λ (s : State). Gives (state_of n l) (row (state_of n l) who o reply.Ok) reply.Ok s) leads g)
      (record {
        actions = held;
        tasks = subst (λ (ts : List (Listed Task)). Holds n.scheduler.settings.tasks n.scheduler.settings.generations t.pool ts) ends
            once.holds;
        groups = v.groups;
        queues = v.queues;
        resources = v.resources;
      })
      refl (omega (arith, once.starts)) honest
    where
      others : List (Listed Action)
      others = change h f l.actions

      is_left : Task → Bool
      is_left x = is_unstarted x && not (has_worker n.scheduler.settings.workers x.job x.cores (live_of others))

      passes : Task → Bool
      passes = is_unserved n.scheduler.settings.workers job u.mask.0

      once : AtOnce n.scheduler.settings.tasks n.scheduler.settings.generations passes (Failed c) n.scheduler.tasks t l.tasks
      once = ends-at-once n.scheduler.settings.tasks n.scheduler.settings.generations passes (Failed c) n.scheduler.tasks t l.tasks v.tasks k.ordered u.ends

      agree : Agree (both_pass passes (Failed c)) is_left (live_of l.tasks)
      agree = left-agree n.scheduler.settings.actions n.scheduler.settings.generations n.scheduler.settings.workers n.scheduler.actions q l.actions others job
          l.tasks (Failed c) n.scheduler.tasks t v.actions held same k.served u

      ends : end_each (both_pass passes (Failed c)) (Failed c) n.scheduler.tasks.ends l.tasks ≡ end_each is_left (Failed c) n.scheduler.tasks.ends l.tasks
      ends = same-ends (both_pass passes (Failed c)) is_left (Failed c) n.scheduler.tasks.ends l.tasks v.tasks.stands.distinct agree

      count : count_listed (both_pass passes (Failed c)) l.tasks ≡ count_listed is_left l.tasks
      count = same-count (both_pass passes (Failed c)) is_left l.tasks v.tasks.stands.distinct agree

      m : PoolNode
      m = record n { scheduler = record n.scheduler { actions = q; tasks = t } }

      to : Lists
      to = record l { actions = others; tasks = end_each is_left (Failed c) n.scheduler.tasks.ends l.tasks }

      number : n.scheduler.tasks.ends + count_listed is_left l.tasks ≡ t.ends
      number = ap (λ (x : ℕ). n.scheduler.tasks.ends + x) (sym count) ∙ sym once.ends

      leads : apply (withdraws h f c) (state_of n l) ≡ state_of m to
      leads i = record (state_of n l) {
        actions = others;
        tasks = end_each is_left (Failed c) n.scheduler.tasks.ends l.tasks;
        starts = sym once.starts i;
        ends = number i;
      }

module _ (n : PoolNode) (l : Lists) (who job : ℕ) (a : ActionHandle) (v : Live n l) (k : Sound (state_of n l)) (up : is_open n.core.phase ≡ true) (is : Ok job
    ≡ job_of (slot_value n.scheduler.actions a.0)) where
  pub disable_steps : (t : TaskTable) → EndsUnserved n.scheduler.settings.workers (changed n.scheduler.actions a.0 (with_enabled false)) job
      (Failed m.ErrActionDisabled) n.scheduler.tasks t
      → PoolNodeSteps n l who (op.ActionDisable a) reply.Ok
      (record n { scheduler = record n.scheduler { actions = changed n.scheduler.actions a.0 (with_enabled false); tasks = t } })
  disable_steps t u =
      let x = job-found (slot_value n.scheduler.actions a.0) job is in
      withdrawn n l who job v k (op.ActionDisable a) a.0 (with_fields (with_enabled false)) m.ErrActionDisabled
      (changed n.scheduler.actions a.0 (with_enabled false)) t
      (holds_changed _ _ n.scheduler.actions l.actions a.0 (with_enabled false) v.actions) (same-changed n.scheduler.actions a.0 job false x.0 x.1 x.2) u
      (past _ _ _ _ _ _ (not_true _ up) (at_some _ _ _ x.0 _ _ _ (found _ _ n.scheduler.actions l.actions a.0 (Some x.0) v.actions x.1) (gives_this _ _ _))) tt

  pub delete_steps : (t : TaskTable) → EndsUnserved n.scheduler.settings.workers (without n.scheduler.actions a.0) job
      (Failed m.ErrActionDeleted) n.scheduler.tasks t
      → PoolNodeSteps n l who (op.ActionDelete a) reply.Ok
      (record n { scheduler = record n.scheduler { actions = without n.scheduler.actions a.0; tasks = t } })
  delete_steps t u =
      let x = job-found (slot_value n.scheduler.actions a.0) job is in
      withdrawn n l who job v k (op.ActionDelete a) a.0 gone m.ErrActionDeleted (without n.scheduler.actions a.0) t
      (holds_remove _ _ n.scheduler.actions l.actions a.0 x.0 v.actions x.1) (same-without n.scheduler.actions a.0 job x.0 x.1 x.2) u
      (past _ _ _ _ _ _ (not_true _ up) (at_some _ _ _ x.0 _ _ _ (found _ _ n.scheduler.actions l.actions a.0 (Some x.0) v.actions x.1) (gives_this _ _ _))) tt

-- The two calls of a scheduler

pub becomes-twice : (a b c : SchedulerTable) (q : Slots Action) → Becomes a b q a.tasks → Becomes b c b.actions c.tasks → Becomes a c q c.tasks
becomes-twice a b c q x y = grind (arith, nat_tests)

pub unserved-before : (a b : SchedulerTable) (q : Slots Action) (job : ℕ) (e : TaskEnd) (t : TaskTable) → Becomes a b q a.tasks
    → EndsUnserved b.settings.workers b.actions job e b.tasks t → EndsUnserved a.settings.workers q job e a.tasks t
unserved-before a b q job e t e1 e2 = grind (arith, nat_tests)

-- Before the action goes

-- each task of a job that hasn't begun has a worker on the cores that the actions of the job cover
served-before : (n : PoolNode) (l : Lists) (job : ℕ) (mask : Mask) → Live n l → Sound (state_of n l) → IsUnion n.scheduler.actions job mask.0
    → AreServed n.scheduler.settings.workers job mask.0 n.scheduler.tasks.pool
served-before n l job mask v k u h t g on = by_job (t.job == job) refl
  where
    by_job : (b : Bool) → (t.job == job) ≡ b → (b && not (some_below n.scheduler.settings.workers (λ w. in_mask w mask.0 && in_mask w t.cores))) ≡ false
    by_job true is =
        let j : t.job ≡ job = grind (arith) in
        ap not (sym (covered_worker n.scheduler.settings.actions n.scheduler.settings.generations n.scheduler.actions l.actions job mask v.actions u
        n.scheduler.settings.workers t.cores)
        ∙ ap (λ (o : ℕ). has_worker n.scheduler.settings.workers o t.cores (live_of l.actions)) (sym j)
        ∙ k.served h t (found _ _ n.scheduler.tasks.pool l.tasks h (Some t) v.tasks g) on)
    by_job false other = refl

-- and so it is of an action's job, once the action has gone
pub served-after : (n : PoolNode) (l : Lists) (job : ℕ) (a : ActionHandle) (mask : Mask) (b : SchedulerTable) (q : Slots Action) → Live n l
    → Sound (state_of n l) → Ok job ≡ job_of (slot_value n.scheduler.actions a.0)
    → ((x : Action) → slot_value n.scheduler.actions a.0 ≡ Some x → IsUnion n.scheduler.actions x.job mask.0) → Becomes n.scheduler b q n.scheduler.tasks
    → AreServed b.settings.workers job mask.0 b.tasks.pool
served-after n l job a mask b q v k is covers x = grind (arith, nat_tests, job-found, slot_value, served-before)
