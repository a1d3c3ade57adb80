-- Why a task ended: the op that ended it, and what it found.
use Rattle.std.specs.Prelude.{◌≡◌, ℕ, true, false, ◌==◌, List, [], ◌∷◌, ◌++◌, Some}
use Rattle.history_law.specs.Names.{TaskEnd, Completed, Cancelled, Failed, ErrActionDeleted, ErrActionDisabled, ErrActionFailed, ErrQueueDeleted, TaskHandle, ActionHandle, QueueHandle, Answered, fits, Listed, live_of, change, gone, with_fields, Action, with_enabled, has_worker, Task, is_unstarted, watch_end, added, is_in, is_shut_in, Op, ActionDelete, ActionDisable, TaskCancel, QueueDisable, QueueDelete, Close, Finish, WatchEnd, TallyEnd, Terms, State, opening, workers, task_end, NodeEntry, after_from, after, end_at}
use Rattle.history_law.specs.Quiet.{task_at}

-- the task hasn't begun, and with these actions no worker can take it
pub record IsLeft (s : State) (t : Task) (actions : List (Listed Action)) : Type 0 where
  pub unstarted : is_unstarted t ≡ true
  pub left : has_worker (workers s) t.job t.cores (live_of actions) ≡ false

-- the task of this handle, as it is in this state, ends so by this op
pub data Cause (s : State) (h : ℕ) (t : Task) : Op → TaskEnd → Type 0 where
  -- it hasn't begun, and is cancelled, or its queue is disabled, or the node is closed while its queue is disabled
  by_cancel : (x : TaskHandle) → x.0 ≡ h → is_unstarted t ≡ true → Cause s h t (TaskCancel x) Cancelled
  by_disabled_queue : (q : QueueHandle) → is_unstarted t ≡ true → is_in q.0 t ≡ true → Cause s h t (QueueDisable q) Cancelled
  by_close : is_unstarted t ≡ true → is_shut_in s.queues t ≡ true → Cause s h t Close Cancelled
  -- it hasn't begun, and its queue is deleted, or the action is deleted or disabled without which no worker can take it
  by_deleted_queue : (q : QueueHandle) → is_unstarted t ≡ true → is_in q.0 t ≡ true → Cause s h t (QueueDelete q) (Failed ErrQueueDeleted)
  by_deleted_action : (a : ActionHandle) → IsLeft s t (change a.0 gone s.actions) → Cause s h t (ActionDelete a) (Failed ErrActionDeleted)
  by_disabled_action : (a : ActionHandle) → IsLeft s t (change a.0 (with_fields (with_enabled false)) s.actions)
      → Cause s h t (ActionDisable a) (Failed ErrActionDisabled)
  -- its action answered so
  by_answer : (x : TaskHandle) (done : Answered) (e : TaskEnd) → x.0 ≡ h → e ≡ task_end done.end → Cause s h t (Finish x done) e
  -- its watch ended: with bad arguments it fails, and it is cancelled exactly where it saw a request
  by_watch : (x : TaskHandle) (e : TaskEnd) → x.0 ≡ h → e ≡ watch_end t → Cause s h t (WatchEnd x) e
  -- its tally ended: it found its mutex or its segment not, or the sum doesn't fit, or it has written the sum
  by_failed_tally : (x : TaskHandle) (e : TaskEnd) → x.0 ≡ h → (t.notes.tally.stage == 4) ≡ true → e ≡ t.notes.tally.verdict → Cause s h t (TallyEnd x) e
  by_sum : (x : TaskHandle) → x.0 ≡ h → (t.notes.tally.stage == 2) ≡ true → fits (added t) ≡ false → Cause s h t (TallyEnd x) (Failed ErrActionFailed)
  by_tally : (x : TaskHandle) → x.0 ≡ h → (t.notes.tally.stage == 2) ≡ false → Cause s h t (TallyEnd x) (Completed (added t ∷ []))

-- an entry of the list, which goes on from this state, ended the task of this handle so, and why
pub record HasEndCause (s : State) (es : List NodeEntry) (h : ℕ) (e : TaskEnd) : Type 0 where
  pub before : List NodeEntry
  pub by : NodeEntry
  pub behind : List NodeEntry
  pub cut : es ≡ before ++ by ∷ behind
  pub task : Task
  pub is : task_at (after_from s before).tasks h ≡ Some task
  pub cause : Cause (after_from s before) h task by.op e

-- where the task has ended, its end has a cause
abbrev pub EndHasItsCause : Terms → List NodeEntry → ℕ → Type 0
EndHasItsCause terms es h = (e : TaskEnd) → end_at (after terms es).tasks h ≡ Some e → HasEndCause (opening terms) es h e
