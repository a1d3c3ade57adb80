-- The ops on tasks are steps of the machine.
use Rattle.node_steps.proofs.Names.{nat_tests, ◌≡◌, ℕ, ◌+◌, ◌≤◌, Bool, true, false, not, cond, List, Option, Some, None, Result, Ok, Err, refl, sym, ◌∙◌, ap, subst, arith, ◌||◌, nat_lt, is_some, is_none, ℤ, option_map, Kind, Mask, TaskHandle, GroupHandle, MtapiStatus, TaskEnd, Cancelled, first, Slots, slot_value, IsFull, Inserts, with_value, without, changed, Listed, change, issue, update, retire, Task, TaskState, Scheduled, Running, Ended, NewTask, new_task, end_of, ended, with_notes, cancel_requested, with_waiter, task_look_refusals, task_look_reply, look_at_end, look_unless, waiter_after, TaskTable, ended_in, looked_in, Op, Reply, State, is_open, is_up, row, asked_for, start_refusals, is_detached_member, looks_at, cancels, IsHonest, PoolNode, Lists, Holds, Live, PoolNodeSteps, state_of}
use Rattle.mtapi_values.specs.declared.statuses.MtapiStatus.TheVariants as m
use Rattle.task_core.specs.Records.{shown_state}
use Rattle.task_core.specs.Table.{AddsTask}
use Rattle.task_core.specs.declared.states.TaskLook.{TaskLook}
use Rattle.task_core.specs.declared.states.TaskLook.TheVariants as look
use Rattle.task_core.specs.declared.states.TaskState.{TaskState as ShownState}
use Rattle.task_core.specs.declared.states.TaskState.TheVariants as shown
use Rattle.mtapi_machine.specs.declared.ops.Op.TheVariants as op
use Rattle.mtapi_machine.specs.declared.replies.Reply.TheVariants as reply
use Rattle.node_steps.proofs.Gives.{Gives, gives_this, allows, met, past, met_in, past_all, at_some, at_none, steps, stays}
use Rattle.node_steps.proofs.Moves.{found, full_list, room_in, may_be, holds_insert, holds_changed, holds_update, holds_remove}
use Rattle.node_steps.proofs.Changes.{holds_ended}
use Rattle.node_steps.proofs.ActionSteps.{not_true}

-- a step that changes the tasks alone
pub task_steps : (n : PoolNode) (l : Lists) (q : TaskTable) (k : List (Listed Task)) (who : ℕ) (o : Op) (r : Reply) → Live n l
    → Gives (state_of n l) (row (state_of n l) who o r) r (state_of (record n { scheduler = record n.scheduler { tasks = q } }) (record l { tasks = k }))
    → Holds n.scheduler.settings.tasks n.scheduler.settings.generations q.pool k → q.starts ≤ n.scheduler.tasks.starts + 1 → IsHonest o
    → PoolNodeSteps n l who o r (record n { scheduler = record n.scheduler { tasks = q } })
task_steps n l q k who o r v g h b i = steps n (record n { scheduler = record n.scheduler { tasks = q } }) l (record l { tasks = k }) who o r g
    (record { actions = v.actions; tasks = h; groups = v.groups; queues = v.queues; resources = v.resources }) refl b i

-- the tasks with other slots
abbrev pub with_pool : PoolNode → Slots Task → TaskTable
with_pool n p = record n.scheduler.tasks { pool = p }

-- the same step, of a node that is told to be so
pub reported : (n : PoolNode) (l : Lists) (q x : TaskTable) (who : ℕ) (o : Op) (r : Reply) → q ≡ x
    → PoolNodeSteps n l who o r (record n { scheduler = record n.scheduler { tasks = x } })
    → PoolNodeSteps n l who o r (record n { scheduler = record n.scheduler { tasks = q } })
reported n l q x who o r e s = subst (λ (p : TaskTable). PoolNodeSteps n l who o r (record n { scheduler = record n.scheduler { tasks = p } })) (sym e) s

-- Starting

-- what an add is answered
abbrev pub add_reply : Result TaskHandle MtapiStatus → Reply
add_reply (Ok t) = reply.Handle t.0
add_reply (Err c) = reply.Mtapi c

module _ (n : PoolNode) (l : Lists) (who job : ℕ) (args : List ℤ) (priority : ℕ) (cores : Mask) (detached : Bool) (group : Option GroupHandle) (v : Live n l)
    (up : is_open n.core.phase ≡ true) where
  abbrev asks : NewTask
  asks = asked_for job args priority cores detached group

  abbrev start : Op
  start = op.TaskStart job args priority cores detached group

  abbrev wrong : Bool
  wrong = not (nat_lt priority n.scheduler.settings.priorities) || is_detached_member detached group

  start_full : wrong ≡ false → first (start_refusals (state_of n l) asks) ≡ None → IsFull n.scheduler.tasks.pool
      → PoolNodeSteps n l who start (reply.Mtapi m.ErrTaskLimit) n
  start_full e1 e2 e3 = grind (arith, nat_tests, not_true, past_all, start_refusals, state_of, full_list)

  start_made : (q : TaskTable) (h : ℕ) → wrong ≡ false → first (start_refusals (state_of n l) asks) ≡ None → (IsFull n.scheduler.tasks.pool → ⊥)
      → Inserts n.scheduler.tasks.pool q.pool h (new_task asks n.scheduler.tasks.starts) → q.starts ≡ n.scheduler.tasks.starts + 1
      → q.ends ≡ n.scheduler.tasks.ends → PoolNodeSteps n l who start (reply.Handle h) (record n { scheduler = record n.scheduler { tasks = q } })
  start_made q h w f room i s e = task_steps n l q (issue h (new_task asks n.scheduler.tasks.starts) l.tasks) who start (reply.Handle h) v (rw counts at issued)
      (holds_insert _ _ n.scheduler.tasks.pool q.pool l.tasks h (new_task asks n.scheduler.tasks.starts) v.tasks i) (omega arith) tt
    where
      counts : record (state_of n l) { tasks = issue h (new_task asks n.scheduler.tasks.starts) l.tasks; starts = n.scheduler.tasks.starts + 1 }
          ≡ state_of (record n { scheduler = record n.scheduler { tasks = q } }) (record l { tasks = issue h (new_task asks n.scheduler.tasks.starts) l.tasks })
      counts j = record (state_of n l) { tasks = issue h (new_task asks n.scheduler.tasks.starts) l.tasks; starts = sym s j; ends = sym e j }

      issued : Gives (state_of n l) (row (state_of n l) who start (reply.Handle h)) (reply.Handle h)
          (record (state_of n l) { tasks = issue h (new_task asks n.scheduler.tasks.starts) l.tasks; starts = n.scheduler.tasks.starts + 1 })
      issued =
          past _ _ _ _ _ _ (not_true _ up) (past _ _ _ _ _ _ w
          (past_all _ _ (start_refusals (state_of n l) asks) _ _ f (past _ _ _ _ _ _ (room_in _ _ n.scheduler.tasks.pool l.tasks v.tasks room)
          (allows _ _ _ _ _ (may_be _ _ n.scheduler.tasks.pool q.pool l.tasks h _ v.tasks i) (gives_this _ _ _)))))

  start_failed : (q : TaskTable) (c : MtapiStatus) → wrong ≡ false → first (start_refusals (state_of n l) asks) ≡ None
      → AddsTask n.scheduler.tasks asks (Err c) q
      → PoolNodeSteps n l who start (reply.Mtapi c) (record n { scheduler = record n.scheduler { tasks = q } })
  start_failed q c e1 e2 e3 = grind (arith, nat_tests, reported, start_full)

  pub start_steps : (q : TaskTable) (x : Result TaskHandle MtapiStatus) → wrong ≡ false → first (start_refusals (state_of n l) asks) ≡ None
      → AddsTask n.scheduler.tasks asks x q → PoolNodeSteps n l who start (add_reply x) (record n { scheduler = record n.scheduler { tasks = q } })
  start_steps q (Ok t) w f a = start_made q t.0 w f a.0 a.1 a.2 a.3
  start_steps q (Err c) w f a = start_failed q c w f a

-- Looking

abbrev pub look_said : TaskLook → Reply
look_said (look.Ended e) = reply.Ended e
look_said look.Pending = reply.Pending
look_said (look.Refused c) = reply.Mtapi c

module _ (n : PoolNode) (l : Lists) (who : ℕ) (t : TaskHandle) (last : Bool) (v : Live n l) (up : is_up n.core.phase ≡ true) where
  abbrev looks : Op
  looks = op.TaskLook t last

  -- a look that isn't refused, at a task in this state
  looked : (x : Task) (s : TaskState) (r : Reply) (p : Slots Task) (k : List (Listed Task)) → slot_value n.scheduler.tasks.pool t.0 ≡ Some x
      → first (task_look_refusals who x) ≡ None → x.state ≡ s → Gives (state_of n l) (looks_at who t.0 last s) r (record (state_of n l) { tasks = k })
      → Holds n.scheduler.settings.tasks n.scheduler.settings.generations p k
      → PoolNodeSteps n l who looks r (record n { scheduler = record n.scheduler { tasks = with_pool n p } })
  looked x s r p k g f e w h = task_steps n l (with_pool n p) k who looks r v
      (past _ _ _ _ _ _ (not_true _ up) (at_some _ _ _ x _ _ _ (found _ _ n.scheduler.tasks.pool l.tasks t.0 (Some x) v.tasks g)
      (past_all _ _ (task_look_refusals who x) _ _ f (rw (← e) at w)))) h (omega arith) tt

  look_refused : (x : Task) (c : MtapiStatus) → slot_value n.scheduler.tasks.pool t.0 ≡ Some x → first (task_look_refusals who x) ≡ Some c
      → PoolNodeSteps n l who looks (reply.Mtapi c) n
  look_refused x c e1 e2 = grind (arith, nat_tests)

  look_absent : slot_value n.scheduler.tasks.pool t.0 ≡ None → PoolNodeSteps n l who looks (reply.Mtapi m.ErrTaskInvalid) n
  look_absent g = grind (arith, nat_tests, stays, past, not_true, at_none, found)

-- a look at a task that hasn't ended: the last one, and an earlier one
waited : (n : PoolNode) (l : Lists) (who : ℕ) (t : TaskHandle) (last : Bool) (v : Live n l) (up : is_up n.core.phase ≡ true) (x : Task) (s : TaskState)
    → slot_value n.scheduler.tasks.pool t.0 ≡ Some x → first (task_look_refusals who x) ≡ None → x.state ≡ s → end_of s ≡ None
    → PoolNodeSteps n l who (op.TaskLook t last) (look_said (look_at_end None last))
    (record n {
      scheduler = record n.scheduler {
        tasks = with_pool n (with_value n.scheduler.tasks.pool t.0 (with_notes (with_waiter (waiter_after who last)) x));
      };
    })
waited n l who t true v up x Scheduled g f e d =
    looked n l who t true v up x Scheduled _ _ (update t.0 (with_notes (with_waiter None)) l.tasks) g f e (gives_this _ _ _)
    (holds_update _ _ n.scheduler.tasks.pool l.tasks t.0 (with_notes (with_waiter None)) x v.tasks g)
waited n l who t false v up x Scheduled g f e d =
    looked n l who t false v up x Scheduled _ _ (update t.0 (with_notes (with_waiter (Some who))) l.tasks) g f e (gives_this _ _ _)
    (holds_update _ _ n.scheduler.tasks.pool l.tasks t.0 (with_notes (with_waiter (Some who))) x v.tasks g)
waited n l who t true v up x (Running w k) g f e d =
    looked n l who t true v up x (Running w k) _ _ (update t.0 (with_notes (with_waiter None)) l.tasks) g f e (gives_this _ _ _)
    (holds_update _ _ n.scheduler.tasks.pool l.tasks t.0 (with_notes (with_waiter None)) x v.tasks g)
waited n l who t false v up x (Running w k) g f e d =
    looked n l who t false v up x (Running w k) _ _ (update t.0 (with_notes (with_waiter (Some who))) l.tasks) g f e (gives_this _ _ _)
    (holds_update _ _ n.scheduler.tasks.pool l.tasks t.0 (with_notes (with_waiter (Some who))) x v.tasks g)
waited n l who t last v up x (Ended y k) g f e d = absurd (cc)

look_found : (n : PoolNode) (l : Lists) (who : ℕ) (t : TaskHandle) (last : Bool) (v : Live n l) (up : is_up n.core.phase ≡ true) (x : Task) (s : TaskState)
    → slot_value n.scheduler.tasks.pool t.0 ≡ Some x → first (task_look_refusals who x) ≡ None → x.state ≡ s →
    PoolNodeSteps n l who (op.TaskLook t last) (look_said (look_at_end (end_of s) last))
    (record n {
      scheduler = record n.scheduler {
        tasks =
            with_pool n (cond (is_none (end_of s)) (with_value n.scheduler.tasks.pool t.0 (with_notes (with_waiter (waiter_after who last)) x))
            (without n.scheduler.tasks.pool t.0));
      };
    })
look_found n l who t last v up x Scheduled g f e = waited n l who t last v up x Scheduled g f e refl
look_found n l who t last v up x (Running w k) g f e = waited n l who t last v up x (Running w k) g f e refl
look_found n l who t last v up x (Ended y k) g f e =
    looked n l who t last v up x (Ended y k) _ _ (retire t.0 l.tasks) g f e (gives_this _ _ _) (holds_remove _ _ n.scheduler.tasks.pool l.tasks t.0 x v.tasks g)

look_live : (n : PoolNode) (l : Lists) (who : ℕ) (t : TaskHandle) (last : Bool) (v : Live n l) (up : is_up n.core.phase
    ≡ true) (x : Task) (f : Option MtapiStatus) → slot_value n.scheduler.tasks.pool t.0 ≡ Some x → first (task_look_refusals who x) ≡ f →
    PoolNodeSteps n l who (op.TaskLook t last) (look_said (look_unless f (look_at_end (end_of x.state) last)))
    (record n {
      scheduler = record n.scheduler {
        tasks =
            with_pool n (cond (is_some f) n.scheduler.tasks.pool
            (cond (is_none (end_of x.state)) (with_value n.scheduler.tasks.pool t.0 (with_notes (with_waiter (waiter_after who last)) x))
            (without n.scheduler.tasks.pool t.0)));
      };
    })
look_live n l who t last v up x (Some c) g f = look_refused n l who t last v up x c g f
look_live n l who t last v up x None g f = look_found n l who t last v up x x.state g f refl

look_steps : (n : PoolNode) (l : Lists) (who : ℕ) (t : TaskHandle) (last : Bool) (v : Live n l) (up : is_up n.core.phase ≡ true) (o : Option Task)
    → slot_value n.scheduler.tasks.pool t.0 ≡ o →
    PoolNodeSteps n l who (op.TaskLook t last) (look_said (task_look_reply who last o))
    (record n { scheduler = record n.scheduler { tasks = with_pool n (looked_in n.scheduler.tasks.pool t.0 who last o) } })
look_steps n l who t last v up None g = look_absent n l who t last v up g
look_steps n l who t last v up (Some x) g = look_live n l who t last v up x (first (task_look_refusals who x)) g refl

-- what the tasks told of a look
pub look_told : (n : PoolNode) (l : Lists) (who : ℕ) (t : TaskHandle) (last : Bool) (q : TaskTable) (x : TaskLook) → Live n l → is_up n.core.phase ≡ true
    → x ≡ task_look_reply who last (slot_value n.scheduler.tasks.pool t.0)
    → q ≡ with_pool n (looked_in n.scheduler.tasks.pool t.0 who last (slot_value n.scheduler.tasks.pool t.0))
    → PoolNodeSteps n l who (op.TaskLook t last) (look_said x) (record n { scheduler = record n.scheduler { tasks = q } })
look_told n l who t last q x v up e d = reported n l q _ who _ _ d (rw e (look_steps n l who t last v up (slot_value n.scheduler.tasks.pool t.0) refl))

-- Ending

-- the tasks once one has ended
abbrev pub ended_tasks : PoolNode → ℕ → TaskEnd → Option Task → TaskTable
ended_tasks n h e o = record n.scheduler.tasks { pool = ended_in n.scheduler.tasks.pool h e n.scheduler.tasks.ends o; ends = n.scheduler.tasks.ends + 1 }

-- a row that ends one live task
pub end_steps : (n : PoolNode) (l : Lists) (who : ℕ) (o : Op) (r : Reply) (h : ℕ) (e : TaskEnd) (x : Task) → Live n l
    → slot_value n.scheduler.tasks.pool h ≡ Some x → IsHonest o
    → Gives (state_of n l) (row (state_of n l) who o r) r
    (record (state_of n l) { tasks = change h (ended e n.scheduler.tasks.ends) l.tasks; ends = n.scheduler.tasks.ends + 1 })
    → PoolNodeSteps n l who o r (record n { scheduler = record n.scheduler { tasks = ended_tasks n h e (Some x) } })
end_steps n l who o r h e x v g i w = task_steps n l (ended_tasks n h e (Some x)) (change h (ended e n.scheduler.tasks.ends) l.tasks) who o r v w
    (holds_ended _ _ n.scheduler.tasks.pool l.tasks h e n.scheduler.tasks.ends x v.tasks g) (omega arith) i

-- a task of this state shows it
state_found : (o : Option Task) (y : ShownState) → Some y ≡ option_map (λ (t : Task). shown_state t.state) o
    → (x : Task) × (o ≡ Some x) × (y ≡ shown_state x.state)
state_found o y e1 = grind (arith, nat_tests)

shown_scheduled : (s : TaskState) → shown.Scheduled ≡ shown_state s → s ≡ Scheduled
shown_scheduled s e1 = grind (arith, nat_tests)

shown_running : (s : TaskState) (w : ℕ) (k : Kind) → shown.Running w k ≡ shown_state s → s ≡ Running w k
shown_running s w k e1 = grind (arith, nat_tests)

cancel_at : (n : PoolNode) (l : Lists) (who : ℕ) (t : TaskHandle) (x : Task) (s : TaskState) (w : State) → Live n l → is_up n.core.phase ≡ true
    → slot_value n.scheduler.tasks.pool t.0 ≡ Some x → x.state ≡ s → Gives (state_of n l) (cancels t.0 s) reply.Ok w
    → Gives (state_of n l) (row (state_of n l) who (op.TaskCancel t) reply.Ok) reply.Ok w
cancel_at n l who t x s w e1 e2 e3 e4 e5 = grind (arith, nat_tests)

pub cancel_scheduled : (n : PoolNode) (l : Lists) (who : ℕ) (t : TaskHandle) (q : TaskTable) → Live n l → is_up n.core.phase ≡ true
    → Some shown.Scheduled ≡ option_map (λ (x : Task). shown_state x.state) (slot_value n.scheduler.tasks.pool t.0)
    → q ≡ ended_tasks n t.0 Cancelled (slot_value n.scheduler.tasks.pool t.0)
    → PoolNodeSteps n l who (op.TaskCancel t) reply.Ok (record n { scheduler = record n.scheduler { tasks = q } })
cancel_scheduled n l who t q v up e d =
    let x = state_found (slot_value n.scheduler.tasks.pool t.0) shown.Scheduled e in
    let s = shown_scheduled x.0.state x.2 in
    reported n l q (ended_tasks n t.0 Cancelled (Some x.0)) who _ _ (d ∙ ap (λ (o : Option Task). ended_tasks n t.0 Cancelled o) x.1)
    (end_steps n l who (op.TaskCancel t) reply.Ok t.0 Cancelled x.0 v x.1 tt (cancel_at n l who t x.0 Scheduled _ v up x.1 s (gives_this _ _ _)))

pub cancel_running : (n : PoolNode) (l : Lists) (who : ℕ) (t : TaskHandle) (w : ℕ) (k : Kind) (q : TaskTable) → Live n l → is_up n.core.phase ≡ true
    → Some (shown.Running w k) ≡ option_map (λ (x : Task). shown_state x.state) (slot_value n.scheduler.tasks.pool t.0)
    → q ≡ with_pool n (changed n.scheduler.tasks.pool t.0 (with_notes cancel_requested))
    → PoolNodeSteps n l who (op.TaskCancel t) reply.Ok (record n { scheduler = record n.scheduler { tasks = q } })
cancel_running n l who t w k q v up e d =
    let x = state_found (slot_value n.scheduler.tasks.pool t.0) (shown.Running w k) e in
    let s = shown_running x.0.state w k x.2 in
    reported n l q _ who _ _ d
    (task_steps n l (with_pool n (changed n.scheduler.tasks.pool t.0 (with_notes cancel_requested))) (update t.0 (with_notes cancel_requested) l.tasks) who
    (op.TaskCancel t) reply.Ok v
    (cancel_at n l who t x.0 (Running w k) _ v up x.1 s (gives_this _ _ _))
    (holds_changed _ _ n.scheduler.tasks.pool l.tasks t.0 (with_notes cancel_requested) v.tasks) (omega arith) tt)
