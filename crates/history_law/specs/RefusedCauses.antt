-- For each clause of the law on the causes of ends what it refuses: a cause that lacks it.
use Rattle.std.specs.Prelude.{◌≡◌, ℕ, Bool, true, false, List, [], ◌∷◌, Some, None, pos}
use Rattle.mtapi_values.specs.declared.kinds.Kind.TheVariants as kind
use Rattle.mtapi_values.specs.declared.statuses.MtapiStatus.TheVariants as status
use Rattle.history_law.specs.Names.{TaskEnd, Completed, Cancelled, Failed, QueueHandle, Done, Answered, Listed, Action, new_action, Queue, Task, Running, new_task, with_state, with_notes, no_tally, Op, State, opening, NodeEntry, after_from, usual, worked_first_handle, next_handle, the_action, one_task}
use Rattle.mtapi_machine.specs.declared.ops.Op.TheVariants as op
use Rattle.mtapi_machine.specs.Worked.{task_handle}
use Rattle.history_law.specs.Quiet.{task_at}
use Rattle.history_law.specs.Causes.{Cause, HasEndCause, EndHasItsCause}

-- the ops by which tasks end
abbrev pub may_end : Op → Bool
may_end (op.TaskCancel t) = true
may_end (op.QueueDisable q) = true
may_end op.Close = true
may_end (op.QueueDelete q) = true
may_end (op.ActionDelete a) = true
may_end (op.ActionDisable a) = true
may_end (op.Finish t done) = true
may_end (op.WatchEnd t) = true
may_end (op.TallyEnd t) = true
may_end _ = false

-- a task of the queue of the next handle that hasn't begun, and one that runs
abbrev pub unbegun : Task
unbegun = new_task (record { job = 1; args = pos 2 ∷ []; priority = 0; cores = 1; detached = false; group = None; queue = Some next_handle }) 0

abbrev pub begun_task : Task
begun_task = with_state (Running 0 kind.Watch) unbegun

-- a tally at this stage, which read 5 and adds 3
abbrev pub tally_at : ℕ → Task
tally_at stage = with_notes (λ n. record n { tally = record no_tally { stage = stage; verdict = Failed status.ErrArgSize; kept = pos 5 } })
    (record unbegun { args = pos 1 ∷ pos 1 ∷ pos 0 ∷ pos 3 ∷ [] })

-- queues
abbrev pub worked_queue_handle : ℕ → QueueHandle
worked_queue_handle h = record { 0 = h }

-- a state without objects; one with that queue, enabled or not; one with two actions that may each run the task
abbrev pub bare : State
bare = opening usual

abbrev pub the_queue : Bool → Listed Queue
the_queue enabled = record {
  handle = next_handle;
  live = true;
  fields = record { id = 1; job = 1; priority = 0; limit = 2; ordered = false; retain = true; enabled = enabled };
}

abbrev pub with_queue : Bool → State
with_queue enabled = record bare { queues = the_queue enabled ∷ [] }

abbrev pub listed_at : ℕ → Listed Action
listed_at h = record { handle = h; live = true; fields = new_action 1 kind.Echo 1 }

abbrev pub two_actions : State
two_actions = record bare { actions = listed_at worked_first_handle ∷ listed_at next_handle ∷ [] }

-- what a worker says that it made of 2
abbrev pub echoed : Answered
echoed = record { kind = kind.Echo; args = pos 2 ∷ []; end = Done (pos 2 ∷ []) }

-- in this state and of the task of the first handle, the op doesn't end it so
abbrev pub IsNoCause : State → Task → Op → TaskEnd → Type 0
IsNoCause s t o e = Cause s worked_first_handle t o e → ⊥

pub record CausesRefuse : Type 0 where
  -- no other op is a cause of an end
  pub other_op : (s : State) (h : ℕ) (t : Task) (o : Op) (e : TaskEnd) → may_end o ≡ false → Cause s h t o e → ⊥
  -- a cancel
  pub cancel_end : IsNoCause bare unbegun (op.TaskCancel (task_handle worked_first_handle)) (Completed (pos 2 ∷ []))
  pub cancel_begun : IsNoCause bare begun_task (op.TaskCancel (task_handle worked_first_handle)) Cancelled
  pub cancel_other : IsNoCause bare unbegun (op.TaskCancel (task_handle next_handle)) Cancelled
  -- a queue that is disabled
  pub disabled_end : IsNoCause bare unbegun (op.QueueDisable (worked_queue_handle next_handle)) (Failed status.ErrQueueDeleted)
  pub disabled_begun : IsNoCause bare begun_task (op.QueueDisable (worked_queue_handle next_handle)) Cancelled
  pub disabled_other : IsNoCause bare unbegun (op.QueueDisable (worked_queue_handle worked_first_handle)) Cancelled
  -- the close
  pub close_end : IsNoCause (with_queue false) unbegun op.Close (Failed status.ErrQueueDeleted)
  pub close_begun : IsNoCause (with_queue false) begun_task op.Close Cancelled
  pub close_enabled : IsNoCause (with_queue true) unbegun op.Close Cancelled
  -- a queue that is deleted
  pub deleted_end : IsNoCause bare unbegun (op.QueueDelete (worked_queue_handle next_handle)) Cancelled
  pub deleted_begun : IsNoCause bare begun_task (op.QueueDelete (worked_queue_handle next_handle)) (Failed status.ErrQueueDeleted)
  pub deleted_other : IsNoCause bare unbegun (op.QueueDelete (worked_queue_handle worked_first_handle)) (Failed status.ErrQueueDeleted)
  -- an action that is deleted, and one that is disabled
  pub action_deleted_end : IsNoCause bare unbegun (op.ActionDelete the_action) (Failed status.ErrActionDisabled)
  pub action_deleted_begun : IsNoCause bare begun_task (op.ActionDelete the_action) (Failed status.ErrActionDeleted)
  pub action_deleted_served : IsNoCause two_actions unbegun (op.ActionDelete the_action) (Failed status.ErrActionDeleted)
  pub action_disabled_end : IsNoCause bare unbegun (op.ActionDisable the_action) (Failed status.ErrActionDeleted)
  pub action_disabled_begun : IsNoCause bare begun_task (op.ActionDisable the_action) (Failed status.ErrActionDisabled)
  pub action_disabled_served : IsNoCause two_actions unbegun (op.ActionDisable the_action) (Failed status.ErrActionDisabled)
  -- an answer
  pub answer_end : IsNoCause bare begun_task (op.Finish (task_handle worked_first_handle) echoed) (Completed (pos 3 ∷ []))
  pub answer_other : IsNoCause bare begun_task (op.Finish (task_handle next_handle) echoed) (Completed (pos 2 ∷ []))
  -- a watch, which made no look
  pub watch_end : IsNoCause bare begun_task (op.WatchEnd (task_handle worked_first_handle)) Cancelled
  pub watch_other : IsNoCause bare begun_task (op.WatchEnd (task_handle next_handle)) (Completed (pos 2 ∷ []))
  -- a tally
  pub tally_failed : IsNoCause bare (tally_at 3) (op.TallyEnd (task_handle worked_first_handle)) (Failed status.ErrArgSize)
  pub tally_verdict : IsNoCause bare (tally_at 4) (op.TallyEnd (task_handle worked_first_handle)) (Failed status.ErrActionFailed)
  pub tally_fits : IsNoCause bare (tally_at 2) (op.TallyEnd (task_handle worked_first_handle)) (Failed status.ErrActionFailed)
  pub tally_unwritten : IsNoCause bare (tally_at 2) (op.TallyEnd (task_handle worked_first_handle)) (Completed (pos 8 ∷ []))
  pub tally_sum : IsNoCause bare (tally_at 3) (op.TallyEnd (task_handle worked_first_handle)) (Completed (pos 9 ∷ []))
  pub tally_other : IsNoCause bare (tally_at 3) (op.TallyEnd (task_handle next_handle)) (Completed (pos 8 ∷ []))
  -- where there is no entry, none is a cause
  pub no_entry : HasEndCause bare [] worked_first_handle Cancelled → ⊥
  -- what is told of the task is so at the entry that ended it
  pub of_its_task : (s : State) (es : List NodeEntry) (h : ℕ) (e : TaskEnd) → (x : HasEndCause s es h e) → task_at (after_from s x.before).tasks h ≡ Some x.task
  -- the law tells why the task of the worked history ended
  pub told : EndHasItsCause usual one_task worked_first_handle → HasEndCause (opening usual) one_task worked_first_handle (Completed (pos 5 ∷ []))
