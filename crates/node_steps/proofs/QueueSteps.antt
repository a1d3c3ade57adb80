-- The ops on queues are steps of the machine.
use Rattle.node_steps.proofs.Names.{◌≡◌, ℕ, ◌+◌, ◌<◌, ◌≤◌, Bool, true, false, not, cond, List, [], ◌∷◌, ◌++◌, Option, Some, None, Result, Ok, Err, refl, sym, ◌∙◌, ap, subst, arith, ◌&&◌, ◌||◌, ◌==◌, nat_lt, nat_le, ℤ, option_map, nat_tests, TaskEnd, Cancelled, Mask, GroupHandle, QueueHandle, TaskHandle, MtapiStatus, first, Slots, slot_value, IsFull, Inserts, without, changed, SomeLive, NoneLive, Listed, live_of, any_listed, count_listed, first_handle, issue, update, retire, any-none, any-live, first_live-only, first_live-absent, has_job, Task, NewTask, new_task, is_unstarted, end_each, Queue, opened, is_in, is_unended_in, put_refusals, TaskTable, HeldQueue, QueueTable, held, HasQueueId, Finds, live_reply, facts_of, with_opened, QueueFacts, SchedulerTable, IsScheduler, Becomes, BecomesWith, records_of, GroupTable, without_members, EndsWaiting, mapped-insert, mapped-without, mapped-changed, IsFull-mapped, Op, Reply, State, is_open, is_up, end_tasks, Move, Queues, alters, ends_waiting, gives, row, new_queue, asked_for, start_refusals, is_detached_member, IsHonest, PoolNode, Lists, Holds, Live, PoolNodeSteps, state_of, Sound, none-some}
use Rattle.mtapi_values.specs.declared.ends.TaskEnd.TheVariants.{Failed}
use Rattle.mtapi_values.specs.declared.statuses.MtapiStatus.TheVariants as m
use Rattle.task_core.specs.Table.{AddsTask}
use Rattle.queue_core.specs.Held.{CreatesQueue}
use Rattle.task_board.proofs.GivenLemmas.{dead-queue}
use Rattle.mtapi_machine.specs.declared.ops.Op.TheVariants as op
use Rattle.mtapi_machine.specs.declared.replies.Reply.TheVariants as reply
use Rattle.mtapi_machine.specs.KeyedRows.{found as found_row}
use Rattle.mtapi_machine.specs.TaskRows.{asked_of}
use Rattle.node_steps.specs.Refusals.{MayPut}
use Rattle.node_steps.proofs.Gives.{Gives, gives_this, says_this, allows, met, past, met_in, past_all, at_some, at_none, steps, stays, lands, lands_to}
use Rattle.node_steps.proofs.Moves.{found, full_list, room_in, may_be, holds_insert, holds_changed, holds_remove}
use Rattle.node_steps.proofs.ActionSteps.{not_true}
use Rattle.node_steps.proofs.TaskSteps.{task_steps, reported, add_reply}
use Rattle.node_steps.proofs.WaitingEnds.{ends-at-once}
use Rattle.node_steps.proofs.QueueLemmas.{record-value, record-none, record-found, count-queued}

-- the node with these queues
abbrev pub with_queues : PoolNode → Slots HeldQueue → PoolNode
with_queues n q = record n { scheduler = record n.scheduler { queues = record n.scheduler.queues { pool = q } } }

-- a step that changes the queues alone
queue_steps : (n : PoolNode) (l : Lists) (q : Slots HeldQueue) (k : List (Listed Queue)) (who : ℕ) (o : Op) (r : Reply) → Live n l
    → Gives (state_of n l) (row (state_of n l) who o r) r (record (state_of n l) { queues = k })
    → Holds n.scheduler.settings.queues n.scheduler.settings.generations (records_of q) k → IsHonest o → PoolNodeSteps n l who o r (with_queues n q)
queue_steps n l q k who o r v g h i = steps n (with_queues n q) l (record l { queues = k }) who o r g
    (record { actions = v.actions; tasks = v.tasks; groups = v.groups; queues = h; resources = v.resources }) refl (omega arith) i

holds_opened : (n : PoolNode) (l : Lists) (q : ℕ) (on : Bool) → Live n l
    → Holds n.scheduler.settings.queues n.scheduler.settings.generations (records_of (changed n.scheduler.queues.pool q (with_opened on)))
    (update q (opened on) l.queues)
holds_opened n l q on v = rw (mapped-changed (λ (x : HeldQueue). x.queue) n.scheduler.queues.pool q (with_opened on) (opened on) (λ x. refl))
    (holds_changed _ _ (records_of n.scheduler.queues.pool) l.queues q (opened on) v.queues)

-- Creating

-- what a create or a get is answered
abbrev pub handle_reply : Result QueueHandle MtapiStatus → Reply
handle_reply (Ok q) = reply.Handle q.0
handle_reply (Err c) = reply.Mtapi c

module _ (n : PoolNode) (l : Lists) (who id job priority limit : ℕ) (ordered retain : Bool) (v : Live n l) (up : is_open n.core.phase ≡ true) where
  abbrev create : Op
  create = op.QueueCreate id job priority limit ordered retain

  abbrev queue : Queue
  queue = new_queue id job priority limit ordered retain

  abbrev wrong : Bool
  wrong = not (nat_lt priority n.scheduler.settings.priorities) || not (nat_le 1 limit && nat_le limit 65536)

  abbrev same_id : Queue → Bool
  same_id y = y.id == id

  module _ (right : wrong ≡ false) (jobs : any_listed (has_job job) l.actions ≡ true) where
    create_exists : SomeLive (slot_value n.scheduler.queues.pool) (HasQueueId id) → PoolNodeSteps n l who create (reply.Mtapi m.ErrQueueExists) n
    create_exists s =
        stays n l who create (reply.Mtapi m.ErrQueueExists) v tt
        (past _ _ _ _ _ _ (not_true _ up) (past _ _ _ _ _ _ right (past _ _ _ _ _ _ (not_true _ jobs)
        (met _ _ _ _ (any-live (records_of n.scheduler.queues.pool) l.queues same_id s.0 s.1.queue v.queues.stands
        (record-value n.scheduler.queues.pool s.0 s.1 s.2) s.3)))))

    none_same : NoneLive (slot_value n.scheduler.queues.pool) (HasQueueId id) → any_listed same_id l.queues ≡ false
    none_same none =
        any-none (records_of n.scheduler.queues.pool) l.queues same_id v.queues.stands
        (λ h y g e. let x = record-found n.scheduler.queues.pool h y g in none h x.0 x.1 (ap same_id x.2 ∙ e))

    create_full : NoneLive (slot_value n.scheduler.queues.pool) (HasQueueId id) → IsFull n.scheduler.queues.pool
        → PoolNodeSteps n l who create (reply.Mtapi m.ErrQueueLimit) n
    create_full none full =
        stays n l who create (reply.Mtapi m.ErrQueueLimit) v tt
        (past _ _ _ _ _ _ (not_true _ up) (past _ _ _ _ _ _ right (past _ _ _ _ _ _ (not_true _ jobs) (past _ _ _ _ _ _ (none_same none)
        (met _ _ _ _ (full_list _ _ (records_of n.scheduler.queues.pool) l.queues v.queues
        ((IsFull-mapped (λ (x : HeldQueue). x.queue) n.scheduler.queues.pool).1 full)))))))

    create_made : (p : Slots HeldQueue) (h : ℕ) → NoneLive (slot_value n.scheduler.queues.pool) (HasQueueId id) → (IsFull n.scheduler.queues.pool → ⊥)
        → Inserts n.scheduler.queues.pool p h (held queue []) → PoolNodeSteps n l who create (reply.Handle h) (with_queues n p)
    create_made p h none room i =
        let j = mapped-insert (λ (x : HeldQueue). x.queue) n.scheduler.queues.pool p h (held queue []) i in
        queue_steps n l p (issue h queue l.queues) who create (reply.Handle h) v
        (past _ _ _ _ _ _ (not_true _ up) (past _ _ _ _ _ _ right (past _ _ _ _ _ _ (not_true _ jobs) (past _ _ _ _ _ _ (none_same none)
        (past _ _ _ _ _ _ (room_in _ _ (records_of n.scheduler.queues.pool) l.queues v.queues
        (λ full. room ((IsFull-mapped (λ (x : HeldQueue). x.queue) n.scheduler.queues.pool).0 full)))
        (allows _ _ _ _ _ (may_be _ _ (records_of n.scheduler.queues.pool) (records_of p) l.queues h queue v.queues j) (gives_this _ _ _)))))))
        (holds_insert _ _ (records_of n.scheduler.queues.pool) (records_of p) l.queues h queue v.queues j) tt

    as_was : (z : QueueTable) (r : Reply) → z ≡ n.scheduler.queues → PoolNodeSteps n l who create r n → PoolNodeSteps n l who create r (with_queues n z.pool)
    as_was z r e s = subst (λ (p : Slots HeldQueue). PoolNodeSteps n l who create r (with_queues n p)) (sym (ap (λ (y : QueueTable). y.pool) e)) s

    create_failed : (z : QueueTable) (c : MtapiStatus) → CreatesQueue n.scheduler.queues queue (Err c) z
        → PoolNodeSteps n l who create (reply.Mtapi c) (with_queues n z.pool)
    create_failed z m.ErrQueueExists c = as_was z _ c.1 (create_exists c.0)
    create_failed z m.ErrQueueLimit c = as_was z _ c.2 (create_full c.0 c.1)
    create_failed z x c = absurd c

    pub create_steps : (z : QueueTable) (x : Queue) (r : Result QueueHandle MtapiStatus) → x ≡ queue → CreatesQueue n.scheduler.queues x r z
        → PoolNodeSteps n l who create (handle_reply r) (with_queues n z.pool)
    create_steps z x (Ok q) e c = let d = subst (λ (y : Queue). CreatesQueue n.scheduler.queues y (Ok q) z) e c in create_made z.pool q.0 d.0 d.1 d.2
    create_steps z x (Err s) e c = create_failed z s (subst (λ (y : Queue). CreatesQueue n.scheduler.queues y (Err s) z) e c)

-- Finding

pub get_steps : (n : PoolNode) (l : Lists) (who id : ℕ) (r : Result QueueHandle MtapiStatus) → Live n l → is_up n.core.phase ≡ true
    → Finds n.scheduler.queues.pool id r → PoolNodeSteps n l who (op.QueueGet id) (handle_reply r) n
get_steps n l who id (Ok q) v up f = stays n l who (op.QueueGet id) (reply.Handle q.0) v tt (past _ _ _ _ _ _ (not_true _ up) (rw one (says_this _ _)))
  where
    one : first_handle (λ y. y.id == id) (live_of l.queues) ≡ Some q.0
    one =
        first_live-only (records_of n.scheduler.queues.pool) l.queues (λ y. y.id == id) q.0 f.0.0.queue v.queues.stands
        (record-value n.scheduler.queues.pool q.0 f.0.0 f.0.1) f.0.2
        (λ h y g e. let x = record-found n.scheduler.queues.pool h y g in f.1 h x.0 x.1 (ap (λ (z : Queue). z.id == id) x.2 ∙ e))
get_steps n l who id (Err m.ErrQueueInvalid) v up f =
    stays n l who (op.QueueGet id) (reply.Mtapi m.ErrQueueInvalid) v tt (past _ _ _ _ _ _ (not_true _ up) (rw none (says_this _ _)))
  where
    none : first_handle (λ y. y.id == id) (live_of l.queues) ≡ None
    none =
        first_live-absent (records_of n.scheduler.queues.pool) l.queues (λ y. y.id == id) v.queues.stands
        (λ h y g e. let x = record-found n.scheduler.queues.pool h y g in f h x.0 x.1 (ap (λ (z : Queue). z.id == id) x.2 ∙ e))
get_steps n l who id (Err c) v up f = absurd f

-- Enabling

abbrev pub done_reply : Result Unit MtapiStatus → Reply
done_reply (Ok u) = reply.Ok
done_reply (Err c) = reply.Mtapi c

module _ (n : PoolNode) (l : Lists) (who : ℕ) (q : QueueHandle) (v : Live n l) (up : is_open n.core.phase ≡ true) where
  pub enable_told : (r : Result Unit MtapiStatus) → r ≡ live_reply (slot_value n.scheduler.queues.pool q.0)
      → PoolNodeSteps n l who (op.QueueEnable q) (done_reply r) (with_queues n (changed n.scheduler.queues.pool q.0 (with_opened true)))
  enable_told r e = by_found (slot_value n.scheduler.queues.pool q.0) refl
    where
      by_found : (o : Option HeldQueue) → slot_value n.scheduler.queues.pool q.0 ≡ o
          → PoolNodeSteps n l who (op.QueueEnable q) (done_reply r) (with_queues n (changed n.scheduler.queues.pool q.0 (with_opened true)))
      by_found None dead =
          subst (λ (x : Result Unit MtapiStatus). PoolNodeSteps n l who (op.QueueEnable q) (done_reply x)
          (with_queues n (changed n.scheduler.queues.pool q.0 (with_opened true)))) (sym (e ∙ ap live_reply dead))
          (subst (λ (p : Slots HeldQueue). PoolNodeSteps n l who (op.QueueEnable q) (reply.Mtapi m.ErrQueueInvalid) (with_queues n p))
          (sym (dead-queue n.scheduler.queues.pool q.0 (with_opened true) dead))
          (stays n l who (op.QueueEnable q) (reply.Mtapi m.ErrQueueInvalid) v tt
          (past _ _ _ _ _ _ (not_true _ up) (at_none _ _ _ _
          (found _ _ (records_of n.scheduler.queues.pool) l.queues q.0 None v.queues (record-none n.scheduler.queues.pool q.0 dead))))))
      by_found (Some x) live =
          subst (λ (x : Result Unit MtapiStatus). PoolNodeSteps n l who (op.QueueEnable q) (done_reply x)
          (with_queues n (changed n.scheduler.queues.pool q.0 (with_opened true)))) (sym (e ∙ ap live_reply live))
          (queue_steps n l (changed n.scheduler.queues.pool q.0 (with_opened true)) (update q.0 (opened true) l.queues) who (op.QueueEnable q) reply.Ok v
          (past _ _ _ _ _ _ (not_true _ up) (at_some _ _ _ x.queue _ _ _
          (found _ _ (records_of n.scheduler.queues.pool) l.queues q.0 (Some x.queue) v.queues (record-value n.scheduler.queues.pool q.0 x live))
          (gives_this _ _ _)))
          (holds_opened n l q.0 true v) tt)

  -- Disabling, and deleting

  retained : (b : Bool) (ms : List Move) → b ≡ true
      → Gives (state_of n l) (gives reply.Ok (alters Queues q.0 (opened false) ∷ cond b [] ms)) reply.Ok
      (record (state_of n l) { queues = update q.0 (opened false) l.queues })
  retained b ms e1 = grind (arith, nat_tests)

  pub disable_retained : (x : HeldQueue) → slot_value n.scheduler.queues.pool q.0 ≡ Some x → x.queue.retain ≡ true
      → PoolNodeSteps n l who (op.QueueDisable q) reply.Ok (with_queues n (changed n.scheduler.queues.pool q.0 (with_opened false)))
  disable_retained x live keeps =
      queue_steps n l (changed n.scheduler.queues.pool q.0 (with_opened false)) (update q.0 (opened false) l.queues) who (op.QueueDisable q) reply.Ok v
      (past _ _ _ _ _ _ (not_true _ up) (at_some _ _ _ x.queue _ _ _
      (found _ _ (records_of n.scheduler.queues.pool) l.queues q.0 (Some x.queue) v.queues (record-value n.scheduler.queues.pool q.0 x live))
      (retained x.queue.retain _ keeps)))
      (holds_opened n l q.0 false v) tt

  -- the queues change, and the tasks of this one that haven't begun end
  abbrev ended_with : Slots HeldQueue → TaskTable → PoolNode
  ended_with p t = record n { scheduler = record n.scheduler { tasks = t; queues = record n.scheduler.queues { pool = p } } }

  ended_steps : (o : Op) (p : Slots HeldQueue) (k : List (Listed Queue)) (e : TaskEnd) (t : TaskTable) → Sound (state_of n l)
      → EndsWaiting (is_in q.0) e n.scheduler.tasks t → Holds n.scheduler.settings.queues n.scheduler.settings.generations (records_of p) k → IsHonest o
      → Gives (state_of n l) (row (state_of n l) who o reply.Ok) reply.Ok
      (record (end_tasks (λ x. is_unstarted x && is_in q.0 x) e (state_of n l)) { queues = k }) → PoolNodeSteps n l who o reply.Ok (ended_with p t)
  ended_steps o p k e t sound ends holds honest g =
      let once = ends-at-once n.scheduler.settings.tasks n.scheduler.settings.generations
      (is_in q.0) e n.scheduler.tasks t l.tasks v.tasks sound.ordered ends in
      let tasks : List (Listed Task) = end_each (λ x. is_unstarted x && is_in q.0 x) e n.scheduler.tasks.ends l.tasks in
      let path : record (end_tasks (λ x. is_unstarted x && is_in q.0 x) e (state_of n l)) { queues = k }
      ≡ state_of (ended_with p t) (record l { tasks = tasks; queues = k }) =
      (λ i. record (state_of (ended_with p t) (record l { tasks = tasks; queues = k })) { starts = sym once.starts i; ends = sym once.ends i }) in
      steps n (ended_with p t) l (record l { tasks = tasks; queues = k }) who o reply.Ok (rw path at g)
      (record { actions = v.actions; tasks = once.holds; groups = v.groups; queues = holds; resources = v.resources }) refl
      (omega (arith, once.starts)) honest

  cancelled : (b : Bool) → b ≡ false → Gives (state_of n l)
      (gives reply.Ok (alters Queues q.0 (opened false) ∷ cond b [] (ends_waiting (is_in q.0) Cancelled ∷ []))) reply.Ok
      (record (end_tasks (λ x. is_unstarted x && is_in q.0 x) Cancelled (state_of n l)) { queues = update q.0 (opened false) l.queues })
  cancelled b e1 = grind (arith, nat_tests)

  pub disable_ended : (x : HeldQueue) (t : TaskTable) → slot_value n.scheduler.queues.pool q.0 ≡ Some x → x.queue.retain ≡ false → Sound (state_of n l)
      → EndsWaiting (is_in q.0) Cancelled n.scheduler.tasks t
      → PoolNodeSteps n l who (op.QueueDisable q) reply.Ok (ended_with (changed n.scheduler.queues.pool q.0 (with_opened false)) t)
  disable_ended x t live keeps sound ends =
      ended_steps (op.QueueDisable q) (changed n.scheduler.queues.pool q.0 (with_opened false)) (update q.0 (opened false) l.queues) Cancelled t sound ends
      (holds_opened n l q.0 false v) tt
      (past _ _ _ _ _ _ (not_true _ up) (at_some _ _ _ x.queue _ _ _
      (found _ _ (records_of n.scheduler.queues.pool) l.queues q.0 (Some x.queue) v.queues (record-value n.scheduler.queues.pool q.0 x live))
      (cancelled x.queue.retain keeps)))

  pub delete_ended : (x : HeldQueue) (t : TaskTable) → slot_value n.scheduler.queues.pool q.0 ≡ Some x → Sound (state_of n l)
      → EndsWaiting (is_in q.0) (Failed m.ErrQueueDeleted) n.scheduler.tasks t
      → PoolNodeSteps n l who (op.QueueDelete q) reply.Ok (ended_with (without n.scheduler.queues.pool q.0) t)
  delete_ended x t live sound ends =
      let record_live = record-value n.scheduler.queues.pool q.0 x live in
      ended_steps (op.QueueDelete q) (without n.scheduler.queues.pool q.0) (retire q.0 l.queues) (Failed m.ErrQueueDeleted) t sound ends
      (rw (mapped-without (λ (y : HeldQueue). y.queue) n.scheduler.queues.pool q.0)
      (holds_remove _ _ (records_of n.scheduler.queues.pool) l.queues q.0 x.queue v.queues record_live)) tt
      (past _ _ _ _ _ _ (not_true _ up) (at_some _ _ _ x.queue _ _ _
      (found _ _ (records_of n.scheduler.queues.pool) l.queues q.0 (Some x.queue) v.queues record_live) (gives_this _ _ _)))

-- the two calls of a scheduler by which a queue is disabled, and those by which it is deleted
pub disable_lands : (n : PoolNode) (l : Lists) (who : ℕ) (q : QueueHandle) (b c : SchedulerTable) (p : Slots HeldQueue) → BecomesWith n.scheduler b p
    → Becomes b c b.actions c.tasks → PoolNodeSteps n l who (op.QueueDisable q) reply.Ok
    (record n { scheduler = record n.scheduler { tasks = c.tasks; queues = record n.scheduler.queues { pool = p } } })
    → PoolNodeSteps n l who (op.QueueDisable q) reply.Ok (record n { scheduler = c })
disable_lands n l who q b c p e1 e2 e3 = grind (arith, nat_tests)

pub ends_before : (n : PoolNode) (b : SchedulerTable) (p : Slots HeldQueue) (f : Task → Bool) (e : TaskEnd) (t : TaskTable) → BecomesWith n.scheduler b p
    → EndsWaiting f e b.tasks t → EndsWaiting f e n.scheduler.tasks t
ends_before n b p f e t x ends = subst (λ (z : TaskTable). EndsWaiting f e z t) x.tasks_are ends

-- a queue that is live goes on to be
pub live_after : (n : PoolNode) (b : SchedulerTable) (q : ℕ) (x : HeldQueue) → records_of b.queues.pool ≡ records_of n.scheduler.queues.pool
    → slot_value n.scheduler.queues.pool q ≡ Some x → (y : HeldQueue) × (slot_value b.queues.pool q ≡ Some y)
live_after n b q x e1 e2 = grind (arith, nat_tests, record-found, slot_value, record-value)

pub delete_lands : (n : PoolNode) (l : Lists) (who : ℕ) (q : QueueHandle) (b c : SchedulerTable) (t : TaskTable) → Becomes n.scheduler b n.scheduler.actions t
    → BecomesWith b c (without b.queues.pool q.0)
    → PoolNodeSteps n l who (op.QueueDelete q) reply.Ok
    (record n { scheduler = record n.scheduler { tasks = t; queues = record n.scheduler.queues { pool = without n.scheduler.queues.pool q.0 } } })
    → PoolNodeSteps n l who (op.QueueDelete q) reply.Ok (record n { scheduler = c })
delete_lands n l who q b c t x y s =
    lands_to n n l who (op.QueueDelete q) reply.Ok c n.scheduler.actions t (without n.scheduler.queues.pool q.0) n.scheduler.groups refl (y.settings
    ∙ x.settings) (y.actions_are ∙ x.actions_are) (y.tasks_are ∙ x.tasks_are)
    (ap records_of y.queues_are ∙ mapped-without (λ (z : HeldQueue). z.queue) b.queues.pool q.0 ∙ ap (λ (p : Slots Queue). without p q.0) x.queues_are
    ∙ sym (mapped-without (λ (z : HeldQueue). z.queue) n.scheduler.queues.pool q.0))
    (ap (λ (g : GroupTable). without_members g.pool) y.groups_are ∙ x.groups_are) s

-- Putting

-- the first that is met of two lists of conditions
pub first_some : (xs ys : List (Bool × MtapiStatus)) (c : MtapiStatus) → first xs ≡ Some c → first (xs ++ ys) ≡ Some c
first_some [] ys c e = absurd (none-some _ e)
first_some ((true, x) ∷ xs) ys c e = e
first_some ((false, x) ∷ xs) ys c e = first_some xs ys c e

pub first_none : (xs ys : List (Bool × MtapiStatus)) → first xs ≡ None → first (xs ++ ys) ≡ first ys
first_none [] ys e = refl
first_none ((true, x) ∷ xs) ys e = absurd (cc)
first_none ((false, x) ∷ xs) ys e = first_none xs ys e

pub facts_found : (o : Option HeldQueue) (f : QueueFacts) → Some f ≡ option_map facts_of o → (x : HeldQueue) × (o ≡ Some x) × (f ≡ facts_of x)
facts_found o f e1 = grind (arith, nat_tests)

module _ (n : PoolNode) (l : Lists) (who : ℕ) (q : QueueHandle) (args : List ℤ) (cores : Mask) (detached : Bool) (group : Option GroupHandle) (v : Live n l)
    (up : is_open n.core.phase ≡ true) where
  abbrev enqueue : Op
  enqueue = op.TaskEnqueue q args cores detached group

  pub enqueue_absent : is_detached_member detached group ≡ false → slot_value n.scheduler.queues.pool q.0 ≡ None
      → PoolNodeSteps n l who enqueue (reply.Mtapi m.ErrQueueInvalid) n
  enqueue_absent e1 e2 = grind (arith, nat_tests, not_true, at_none, records_of, record-none)

  module _ (kept : IsScheduler n.scheduler) (w : is_detached_member detached group ≡ false) (x : HeldQueue) (live : slot_value n.scheduler.queues.pool q.0
      ≡ Some x) where
    abbrev asks : NewTask
    asks = asked_of q.0 x.queue args cores detached group

    abbrev causes : List (Bool × MtapiStatus)
    causes = put_refusals x.queue ++ start_refusals (state_of n l) asks ++ (count_listed (is_unended_in q.0) l.tasks == x.queue.limit, m.ErrQueueLimit) ∷ []

    -- the causes as the node asks for them
    pub causes_are : (f : QueueFacts) (o : Option MtapiStatus) → f ≡ facts_of x
        → first ((not f.enabled && not f.retain, m.ErrQueueDisabled) ∷ start_refusals (state_of n l) (record asks { job = f.job; priority = f.priority })
        ++ (f.unended == f.limit, m.ErrQueueLimit) ∷ []) ≡ o → first causes ≡ o
    causes_are f o is e = grind (arith, nat_tests, first, count-queued)

    record_live : slot_value (records_of n.scheduler.queues.pool) q.0 ≡ Some x.queue
    record_live = record-value n.scheduler.queues.pool q.0 x live

    pub enqueue_refused : (c : MtapiStatus) → first causes ≡ Some c → PoolNodeSteps n l who enqueue (reply.Mtapi c) n
    enqueue_refused c e = grind (arith, nat_tests, stays, past, not_true, at_some, found, record_live, met_in)

    module _ (none : first causes ≡ None) where
      enqueue_full : IsFull n.scheduler.tasks.pool → PoolNodeSteps n l who enqueue (reply.Mtapi m.ErrTaskLimit) n
      enqueue_full full =
          stays n l who enqueue (reply.Mtapi m.ErrTaskLimit) v tt
          (past _ _ _ _ _ _ (not_true _ up) (past _ _ _ _ _ _ w
          (at_some _ _ _ x.queue _ _ _ (found _ _ (records_of n.scheduler.queues.pool) l.queues q.0 (Some x.queue) v.queues record_live)
          (past_all _ _ causes _ _ none (met _ _ _ _ (full_list _ _ n.scheduler.tasks.pool l.tasks v.tasks full))))))

      enqueue_made : (t : TaskTable) (h : ℕ) → (IsFull n.scheduler.tasks.pool → ⊥)
          → Inserts n.scheduler.tasks.pool t.pool h (new_task asks n.scheduler.tasks.starts) → t.starts ≡ n.scheduler.tasks.starts + 1
          → t.ends ≡ n.scheduler.tasks.ends → PoolNodeSteps n l who enqueue (reply.Handle h) (record n { scheduler = record n.scheduler { tasks = t } })
      enqueue_made t h room i s e =
          let tasks : List (Listed Task) = issue h (new_task asks n.scheduler.tasks.starts) l.tasks in
          let counts : record (state_of n l) { tasks = tasks; starts = n.scheduler.tasks.starts + 1 }
          ≡ state_of (record n { scheduler = record n.scheduler { tasks = t } }) (record l { tasks = tasks }) =
          (λ j. record (state_of n l) { tasks = tasks; starts = sym s j; ends = sym e j }) in
          task_steps n l t tasks who enqueue (reply.Handle h) v
          (subst (λ (z : State). Gives (state_of n l) (row (state_of n l) who enqueue (reply.Handle h)) (reply.Handle h) z) counts
          (past _ _ _ _ _ _ (not_true _ up) (past _ _ _ _ _ _ w
          (at_some _ _ _ x.queue _ _ _ (found _ _ (records_of n.scheduler.queues.pool) l.queues q.0 (Some x.queue) v.queues record_live)
          (past_all _ _ causes _ _ none (past _ _ _ _ _ _ (room_in _ _ n.scheduler.tasks.pool l.tasks v.tasks room)
          (allows _ _ _ _ _ (may_be _ _ n.scheduler.tasks.pool t.pool l.tasks h _ v.tasks i) (gives_this _ _ _))))))))
          (holds_insert _ _ n.scheduler.tasks.pool t.pool l.tasks h (new_task asks n.scheduler.tasks.starts) v.tasks i) (omega (arith, s)) tt

      enqueue_failed : (t : TaskTable) (c : MtapiStatus) → AddsTask n.scheduler.tasks asks (Err c) t
          → PoolNodeSteps n l who enqueue (reply.Mtapi c) (record n { scheduler = record n.scheduler { tasks = t } })
      enqueue_failed t m.ErrTaskLimit a = reported n l t n.scheduler.tasks who enqueue _ a.1 (enqueue_full a.0)
      enqueue_failed t c a = absurd a

      enqueue_steps : (t : TaskTable) (r : Result TaskHandle MtapiStatus) → AddsTask n.scheduler.tasks asks r t
          → PoolNodeSteps n l who enqueue (add_reply r) (record n { scheduler = record n.scheduler { tasks = t } })
      enqueue_steps t (Ok h) a = enqueue_made t h.0 a.0 a.1 a.2 a.3
      enqueue_steps t (Err c) a = enqueue_failed t c a

-- what was told of a put, with a copy of the arguments
pub enqueue_told : (n : PoolNode) (l : Lists) (who : ℕ) (q : QueueHandle) (args : List ℤ) (cores : Mask) (detached : Bool) (group : Option GroupHandle)
    → Live n l → IsScheduler n.scheduler → (f : QueueFacts) → MayPut n q.0 cores detached group f → (b : SchedulerTable) (copy : List ℤ)
    (s r : Result TaskHandle MtapiStatus) → copy ≡ args → s ≡ r → Becomes n.scheduler b n.scheduler.actions b.tasks
    → AddsTask n.scheduler.tasks (record (asked_for f.job copy f.priority cores detached group) { queue = Some q.0 }) s b.tasks
    → PoolNodeSteps n l who (op.TaskEnqueue q args cores detached group) (add_reply r) (record n { scheduler = b })
enqueue_told n l who q args cores detached group v kept f may b copy s r same is new adds =
    let x = facts_found (slot_value n.scheduler.queues.pool q.0) f may.found in
    lands n l who _ _ b _ b.tasks new
    (enqueue_steps n l who q args cores detached group v may.opened kept may.alone x.0 x.1
    (causes_are n l who q args cores detached group v may.opened kept may.alone x.0 x.1 f None x.2 (may.none l args f.priority v)) b.tasks r
    (rw (same, is, x.2) at adds))
