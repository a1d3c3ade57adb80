-- Ends of waiting tasks, many at once.
use Rattle.std.specs.Prelude.{◌≡◌, ◌⊎◌, ℕ, ◌+◌, Bool, true, false, not, ◌&&◌, ◌==◌, List, [], ◌∷◌, Option, Some, if◌then◌else◌}
use Rattle.task_board.specs.Names.{TaskEnd, holds, in_mask, Slots, slot_value, Action, some_below, Task, is_unstarted, Queue, is_in, IsUnion, TaskTable, ended_in}
use Rattle.mtapi_values.specs.declared.masks.Mask.{Mask}
use Rattle.task_board.specs.declared.ends.WaitingTest.{WaitingTest}
use Rattle.task_board.specs.declared.ends.WaitingTest.TheVariants.{Unserved, InQueue, Shut}
use Rattle.task_board.specs.declared.walks.Walk.{Walk}
use Rattle.task_board.specs.declared.walks.Walk.TheVariants.{Waiting, OfJob, Queued}
use Rattle.task_board.specs.Seen.{seen_in}
use Rattle.task_board.specs.Scheduler.{AreWaiting}

-- the task has this job, and of so many workers none is on these cores and on those of the task
abbrev pub is_unserved : ℕ → ℕ → ℕ → Task → Bool
is_unserved workers job cores t = (t.job == job) && not (some_below workers (λ w. in_mask w cores && in_mask w t.cores))

-- each task of the job that hasn't begun has one of so many workers on these cores
abbrev pub AreServed : ℕ → ℕ → ℕ → Slots Task → Type 0
AreServed workers job cores tasks = (h : ℕ) (t : Task) → slot_value tasks h ≡ Some t → is_unstarted t ≡ true → is_unserved workers job cores t ≡ false

-- a queue is named that is live and disabled
abbrev pub is_shut : Slots Queue → Option ℕ → Bool
is_shut queues o = holds (λ q. holds (λ x. not x.enabled) (slot_value queues q)) o

-- with so many workers and these queues, the task passes the test
abbrev pub passes : ℕ → Slots Queue → WaitingTest → Task → Bool
passes workers queues (Unserved job cores) t = is_unserved workers job cores.0 t
passes workers queues (InQueue queue) t = is_in queue.0 t
passes workers queues Shut t = is_shut queues t.queue

-- the task hasn't begun, and passes the test
abbrev pub ends_by : ℕ → Slots Queue → WaitingTest → Task → Bool
ends_by workers queues test t = is_unstarted t && passes workers queues test t

-- a walk that has each task that hasn't begun and passes the test
abbrev pub walk_of : WaitingTest → Walk
walk_of (Unserved job cores) = OfJob job
walk_of (InQueue queue) = Queued queue
walk_of Shut = Waiting

-- the tasks once this one has ended, with the next number of an end
abbrev pub ended_next : TaskEnd → ℕ → TaskTable → TaskTable
ended_next e h q = record q { pool = ended_in q.pool h e q.ends (slot_value q.pool h); ends = q.ends + 1 }

-- the same where it passes; else the tasks as they were
abbrev pub ended_if : (Task → Bool) → TaskEnd → ℕ → TaskTable → TaskTable
ended_if p e h q = if holds p (slot_value q.pool h) then ended_next e h q else q

-- the tasks once each of these that passes has ended, one after the other
abbrev pub ended_each : (Task → Bool) → TaskEnd → List ℕ → TaskTable → TaskTable
ended_each p e [] q = q
ended_each p e (h ∷ hs) q = ended_each p e hs (ended_if p e h q)

-- each task that hasn't begun and passes ends, in the order of their starts
pub record EndsWaiting (p : Task → Bool) (e : TaskEnd) (old new : TaskTable) : Type 0 where
  pub list : List ℕ
  pub waiting : AreWaiting (seen_in old.pool) list
  pub now : new ≡ ended_each p e list old

-- each task of the job that hasn't begun and that no worker can take ends, in the order of their starts
pub record EndsUnserved (workers : ℕ) (actions : Slots Action) (job : ℕ) (e : TaskEnd) (old new : TaskTable) : Type 0 where
  pub mask : Mask
  pub covered : IsUnion actions job mask.0
  pub ends : EndsWaiting (is_unserved workers job mask.0) e old new

-- the same; or the actions of the job cover these cores, and the tasks are as they were
abbrev pub EndsUnless : ℕ → Slots Action → ℕ → ℕ → TaskEnd → TaskTable → TaskTable → Type 0
EndsUnless workers actions job before e old new = EndsUnserved workers actions job e old new ⊎ (IsUnion actions job before × (new ≡ old))
