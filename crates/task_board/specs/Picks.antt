-- Which task a worker may take, as the slots show it.
use Rattle.std.specs.Prelude.{◌≡◌, ℕ, ◌<◌, Bool, true, Option, Some, None}
use Rattle.task_board.specs.Names.{in_mask, TaskHandle, Slots, slot_value, SomeLive, Action, runs_job_on, Task, is_unstarted, HeldQueue}
use Rattle.mtapi_values.specs.declared.handles.ActionHandle.{ActionHandle}
use Rattle.task_board.specs.declared.scheduler.Choice.{Choice}
use Rattle.task_board.specs.Queued.{begins_in}

-- the task is scheduled, its queue, if any, lets it begin, and it may run on the worker by this action
pub record RunsBy (lets : Option ℕ → Bool) (w : ℕ) (t : Task) (a : Action) : Type 0 where
  pub unstarted : is_unstarted t ≡ true
  pub queue : lets t.queue ≡ true
  pub core : in_mask w t.cores ≡ true
  pub action : runs_job_on t.job w a ≡ true

-- the worker may take the task, by some live action
abbrev pub Takeable : Slots Action → (Option ℕ → Bool) → ℕ → Task → Type 0
Takeable actions lets w t = SomeLive (slot_value actions) (RunsBy lets w t)

module _ (actions : Slots Action) (tasks : Slots Task) (queues : Slots HeldQueue) (w : ℕ) where
  -- what was chosen is live, and may be taken
  pub record IsChoice (c : Choice) : Type 0 where
    pub t : Task
    pub a : Action
    pub task : slot_value tasks c.task.0 ≡ Some t
    pub action : slot_value actions c.action.0 ≡ Some a
    pub kind : a.kind ≡ c.kind
    pub priority : t.priority ≡ c.priority
    pub runs : RunsBy (begins_in queues c.task.0) w t a

  -- the choice of this task and this action, where these are one
  abbrev pub IsChoiceOf : TaskHandle → ActionHandle → Option Choice → Type 0
  IsChoiceOf task action None = (c : Choice) → c.task ≡ task → c.action ≡ action → IsChoice c → ⊥
  IsChoiceOf task action (Some c) = (c.task ≡ task) × (c.action ≡ action) × IsChoice c

  -- no live task may be taken
  abbrev pub NoneTakeable : Type 0
  NoneTakeable = (h : ℕ) (t : Task) → slot_value tasks h ≡ Some t → Takeable actions (begins_in queues h) w t → ⊥

  -- no live task of a smaller priority may be taken
  abbrev pub NoneBetter : ℕ → Type 0
  NoneBetter priority = (h : ℕ) (t : Task) → slot_value tasks h ≡ Some t → Takeable actions (begins_in queues h) w t → t.priority < priority → ⊥

  -- it may be taken, and no task that may be has a smaller priority; or none may be taken
  abbrev pub IsBest : Option Choice → Type 0
  IsBest None = NoneTakeable
  IsBest (Some c) = IsChoice c × NoneBetter c.priority
