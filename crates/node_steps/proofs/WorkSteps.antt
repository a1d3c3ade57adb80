-- The ops of workers are steps of the machine.
use Rattle.node_steps.proofs.Names.{◌≡◌, ℕ, ◌<◌, Bool, true, false, not, cond, List, Option, Some, None, Result, Ok, Err, refl, sym, ◌∙◌, ap, subst, arith, ◌&&◌, nat_lt, is_none, int_eq, nat_tests, TaskHandle, MtapiStatus, TaskEnd, first, Answered, IsAnswered, slot_value, with_value, put, changed, Listed, update, Task, with_notes, runs_as, finish_refusals, asked_refusals, asked_once, watch_end_refusals, watch_end, after_asked, watch_end_of, unless_refused, TaskTable, Op, Reply, task_end, option_map, PoolNode, Lists, Holds, Live, PoolNodeSteps}
use Rattle.std.specs.Cmp.Lexicographic.{pointwise}
use Rattle.mtapi_values.specs.declared.statuses.MtapiStatus.TheVariants as m
use Rattle.task_core.specs.Answers.{cancel_asked}
use Rattle.mtapi_machine.specs.declared.ops.Op.TheVariants as op
use Rattle.mtapi_machine.specs.declared.replies.Reply.TheVariants as reply
use Rattle.mtapi_machine.proofs.Changes.{update-same}
use Rattle.node_steps.proofs.Gives.{gives_this, past, met_in, past_all, at_some, at_none, stays}
use Rattle.node_steps.proofs.Moves.{found, holds_changed}
use Rattle.node_steps.proofs.TaskSteps.{task_steps, with_pool, reported, ended_tasks, end_steps}

-- a worker's seat
pub is_worker : (who workers : ℕ) → who < workers → not (nat_lt who workers) ≡ false
is_worker who workers l = grind (arith, nat_tests)

-- Finishing

found_task : (o : Option Task) (x : Task) → Some x ≡ o → o ≡ Some x
found_task o x e = sym e

pub finish_steps : (n : PoolNode) (l : Lists) (who : ℕ) (t : TaskHandle) (done : Answered) (x : Task) (e : TaskEnd) (q : TaskTable) → Live n l
    → who < n.scheduler.settings.workers → slot_value n.scheduler.tasks.pool t.0 ≡ Some x
    → (runs_as who done.kind x && pointwise int_eq x.args done.args) ≡ true → e ≡ task_end done.end → IsAnswered done
    → q ≡ ended_tasks n t.0 e (slot_value n.scheduler.tasks.pool t.0)
    → PoolNodeSteps n l who (op.Finish t done) reply.Ok (record n { scheduler = record n.scheduler { tasks = q } })
finish_steps n l who t done x e q v w g r d a new =
    reported n l q (ended_tasks n t.0 (task_end done.end) (Some x)) who _ _ (new ∙ (λ i. ended_tasks n t.0 (d i) (g i)))
    (end_steps n l who (op.Finish t done) reply.Ok t.0 (task_end done.end) x v g a
    (past _ _ _ _ _ _ (is_worker who _ w) (at_some _ _ _ x _ _ _ (found _ _ n.scheduler.tasks.pool l.tasks t.0 (Some x) v.tasks g)
    (past_all _ _ (finish_refusals who done.kind done.args x) _ _ runs (gives_this _ _ _)))))
  where
    runs : first (finish_refusals who done.kind done.args x) ≡ None
    runs = ap (λ (b : Bool). cond (not b) (Some m.ErrTaskInvalid) None) r

-- what doesn't run so
pub finish_absent : (n : PoolNode) (l : Lists) (who : ℕ) (t : TaskHandle) (done : Answered) → Live n l → who < n.scheduler.settings.workers
    → slot_value n.scheduler.tasks.pool t.0 ≡ None → IsAnswered done → PoolNodeSteps n l who (op.Finish t done) (reply.Mtapi m.ErrTaskInvalid) n
finish_absent n l who t done e1 e2 e3 e4 = grind (arith, nat_tests)

pub finish_other : (n : PoolNode) (l : Lists) (who : ℕ) (t : TaskHandle) (done : Answered) (x : Task) → Live n l → who < n.scheduler.settings.workers
    → slot_value n.scheduler.tasks.pool t.0 ≡ Some x → (runs_as who done.kind x && pointwise int_eq x.args done.args) ≡ false → IsAnswered done
    → PoolNodeSteps n l who (op.Finish t done) (reply.Mtapi m.ErrTaskInvalid) n
finish_other n l who t done x e1 e2 e3 e4 e5 = grind (arith, nat_tests)

-- Asking

abbrev pub asked_said : Result Bool MtapiStatus → Reply
asked_said (Ok b) = reply.Asked b
asked_said (Err c) = reply.Mtapi c

module _ (n : PoolNode) (l : Lists) (who : ℕ) (t : TaskHandle) (v : Live n l) (w : who < n.scheduler.settings.workers) where
  abbrev asks : Op
  asks = op.Asked t

  asked_none : slot_value n.scheduler.tasks.pool t.0 ≡ None → PoolNodeSteps n l who asks (reply.Mtapi m.ErrTaskInvalid) n
  asked_none g = grind (arith, nat_tests, stays, past, is_worker, at_none, found)

  asked_refused : (x : Task) (c : MtapiStatus) → slot_value n.scheduler.tasks.pool t.0 ≡ Some x → first (asked_refusals who x) ≡ Some c
      → PoolNodeSteps n l who asks (reply.Mtapi c) n
  asked_refused x c e1 e2 = grind (arith, nat_tests)

  asked_told : (x : Task) → slot_value n.scheduler.tasks.pool t.0 ≡ Some x → first (asked_refusals who x) ≡ None
      → PoolNodeSteps n l who asks (reply.Asked x.notes.requested)
      (record n { scheduler = record n.scheduler { tasks = with_pool n (changed n.scheduler.tasks.pool t.0 (with_notes asked_once)) } })
  asked_told x g f =
      task_steps n l (with_pool n (changed n.scheduler.tasks.pool t.0 (with_notes asked_once))) (update t.0 (with_notes asked_once) l.tasks) who asks
      (reply.Asked x.notes.requested) v
      (past _ _ _ _ _ _ (is_worker who _ w) (at_some _ _ _ x _ _ _ (found _ _ n.scheduler.tasks.pool l.tasks t.0 (Some x) v.tasks g)
      (past_all _ _ (asked_refusals who x) _ _ f (gives_this _ _ _))))
      (holds_changed _ _ n.scheduler.tasks.pool l.tasks t.0 (with_notes asked_once) v.tasks) (omega arith) tt

  asked_at : (x : Task) (f : Option MtapiStatus) → slot_value n.scheduler.tasks.pool t.0 ≡ Some x → first (asked_refusals who x) ≡ f
      → PoolNodeSteps n l who asks (asked_said (unless_refused f x.notes.requested))
      (record n { scheduler = record n.scheduler { tasks = with_pool n (changed n.scheduler.tasks.pool t.0 (after_asked who)) } })
  asked_at x (Some c) g f = task_steps n l (with_pool n (changed n.scheduler.tasks.pool t.0 (after_asked who))) l.tasks who asks (reply.Mtapi c) v
      (past _ _ _ _ _ _ (is_worker who _ w) (at_some _ _ _ x _ _ _ (found _ _ n.scheduler.tasks.pool l.tasks t.0 (Some x) v.tasks g)
      (met_in _ (asked_refusals who x) c _ f)))
      (rw (← update-same t.0 (after_asked who) x l.tasks (found _ _ n.scheduler.tasks.pool l.tasks t.0 (Some x) v.tasks g) same)
      (holds_changed _ _ n.scheduler.tasks.pool l.tasks t.0 (after_asked who) v.tasks)) (omega arith) tt
    where
      same : after_asked who x ≡ x
      same = ap (λ (o : Option MtapiStatus). cond (is_none o) (with_notes asked_once x) x) f
  asked_at x None g f = reported n l _ (with_pool n (changed n.scheduler.tasks.pool t.0 (with_notes asked_once))) who asks _ (ap (with_pool n) same)
      (asked_told x g f)
    where
      once : after_asked who x ≡ with_notes asked_once x
      once = ap (λ (o : Option MtapiStatus). cond (is_none o) (with_notes asked_once x) x) f

      becomes : (h : Task → Task) → changed n.scheduler.tasks.pool t.0 h ≡ with_value n.scheduler.tasks.pool t.0 (h x)
      becomes h = ap (λ (o : Option Task). put n.scheduler.tasks.pool t.0 (option_map h o)) g

      same : changed n.scheduler.tasks.pool t.0 (after_asked who) ≡ changed n.scheduler.tasks.pool t.0 (with_notes asked_once)
      same = becomes (after_asked who) ∙ (ap (with_value n.scheduler.tasks.pool t.0) once ∙ sym (becomes (with_notes asked_once)))

  asked_steps : (o : Option Task) → slot_value n.scheduler.tasks.pool t.0 ≡ o
      → PoolNodeSteps n l who asks (asked_said (cancel_asked who o))
      (record n { scheduler = record n.scheduler { tasks = with_pool n (changed n.scheduler.tasks.pool t.0 (after_asked who)) } })
  asked_steps None g = grind (arith, nat_tests, reported, put, asked_none)
  asked_steps (Some x) g = asked_at x (first (asked_refusals who x)) g refl

  -- what the tasks told of an ask
  pub asked_says : (q : TaskTable) (x : Result Bool MtapiStatus) → x ≡ cancel_asked who (slot_value n.scheduler.tasks.pool t.0)
      → q ≡ with_pool n (changed n.scheduler.tasks.pool t.0 (after_asked who))
      → PoolNodeSteps n l who asks (asked_said x) (record n { scheduler = record n.scheduler { tasks = q } })
  asked_says q x e d = reported n l q _ who asks _ d (rw e (asked_steps (slot_value n.scheduler.tasks.pool t.0) refl))

-- Ending a watch

watch_told : (who : ℕ) (x : Task) (e : TaskEnd) (f : Option MtapiStatus) → first (watch_end_refusals who x) ≡ f → unless_refused f (watch_end x) ≡ Ok e
    → (first (watch_end_refusals who x) ≡ None) × (e ≡ watch_end x)
watch_told who x e f e1 e2 = grind (arith, nat_tests)

module _ (n : PoolNode) (l : Lists) (who : ℕ) (t : TaskHandle) (v : Live n l) (w : who < n.scheduler.settings.workers) where
  abbrev ends : Op
  ends = op.WatchEnd t

  pub watch_failed : (c : MtapiStatus) (o : Option Task) → slot_value n.scheduler.tasks.pool t.0 ≡ o → watch_end_of who o ≡ Err c
      → PoolNodeSteps n l who ends (reply.Mtapi c) n
  watch_failed c o e1 e2 = grind (arith, nat_tests)

  pub watch_ended : (e : TaskEnd) (q : TaskTable) (o : Option Task) → slot_value n.scheduler.tasks.pool t.0 ≡ o → watch_end_of who o ≡ Ok e
      → q ≡ ended_tasks n t.0 e o → PoolNodeSteps n l who ends (reply.Ended e) (record n { scheduler = record n.scheduler { tasks = q } })
  watch_ended e q None g k d = absurd (cc)
  watch_ended e q (Some x) g k d =
      let s = watch_told who x e (first (watch_end_refusals who x)) refl k in
      reported n l q (ended_tasks n t.0 e (Some x)) who ends _ d
      (rw s.1 (end_steps n l who ends (reply.Ended (watch_end x)) t.0 (watch_end x) x v g tt
      (past _ _ _ _ _ _ (is_worker who _ w) (at_some _ _ _ x _ _ _ (found _ _ n.scheduler.tasks.pool l.tasks t.0 (Some x) v.tasks g)
      (past_all _ _ (watch_end_refusals who x) _ _ s.0 (gives_this _ _ _))))))
