-- What a scheduler sees of a task.
use Rattle.std.specs.Prelude.{◌≡◌, ℕ, Bool, true, Option, Some, None}
use Rattle.task_board.specs.Names.{in_mask, Slots, slot_value, SomeLive, Action, Passes, runs_job_on, Task, TaskState, Scheduled, Running, Ended}

-- a task that hasn't ended: what decides who may take it, the number of its start, and the worker on which it runs, if it does
pub record Seen : Type 0 where
  pub job : ℕ
  pub priority : ℕ
  pub cores : ℕ
  pub queue : Option ℕ
  pub start : ℕ
  pub on : Option ℕ

abbrev pub seen_as : Task → TaskState → Option Seen
seen_as t Scheduled = Some (record { job = t.job; priority = t.priority; cores = t.cores; queue = t.queue; start = t.start; on = None })
seen_as t (Running w k) = Some (record { job = t.job; priority = t.priority; cores = t.cores; queue = t.queue; start = t.start; on = Some w })
seen_as t (Ended e n) = None

-- an ended task is seen no more
abbrev pub seen : Option Task → Option Seen
seen None = None
seen (Some t) = seen_as t t.state

-- what is seen by each handle
abbrev pub seen_in : Slots Task → ℕ → Option Seen
seen_in p h = seen (slot_value p h)

-- the worker may take it, where its queue, if any, lets it begin
pub record MayTake (actions : Slots Action) (lets : Option ℕ → Bool) (w : ℕ) (s : Seen) : Type 0 where
  pub waits : s.on ≡ None
  pub queue : lets s.queue ≡ true
  pub core : in_mask w s.cores ≡ true
  pub action : SomeLive (slot_value actions) (Passes (runs_job_on s.job w))
