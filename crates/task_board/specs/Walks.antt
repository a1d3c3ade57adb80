-- The lists of tasks that a call walks.
use Rattle.std.specs.Prelude.{◌≡◌, ℕ, ◌≤◌, ◌<◌, ◌%◌, Bool, true, ◌==◌, ◌&&◌, is_none, is_some, List, length, Option, Some}
use Rattle.task_board.specs.Names.{holds, Slots, slot_value, list_at, has_handle, Queue, HeldQueue, tasks_of}
use Rattle.task_board.specs.declared.walks.Walk.{Walk}
use Rattle.task_board.specs.declared.walks.Walk.TheVariants.{Waiting, OfJob, Queued}
use Rattle.task_board.specs.Seen.{Seen}
use Rattle.task_board.specs.Waiting.{WaitingTable, job_list}
use Rattle.task_board.specs.Keyed.{ListsBy}

-- the list that is walked, of that of the tasks that haven't begun and those of the queues
abbrev pub walked : Walk → WaitingTable → Slots HeldQueue → List ℕ
walked Waiting waiting queues = list_at waiting.lists 0
walked (OfJob job) waiting queues = job_list waiting job
walked (Queued q) waiting queues = tasks_of (slot_value queues q.0)

-- each handle of the list is seen
abbrev pub AreSeen : (ℕ → Option Seen) → List ℕ → Type 0
AreSeen at hs = (h : ℕ) → has_handle h hs ≡ true → (s : Seen) × (at h ≡ Some s)

-- the list has exactly the handles of the tasks that are seen so, in the order of their starts
abbrev pub AreIn : (Seen → Bool) → (ℕ → Option Seen) → List ℕ → Type 0
AreIn m at hs = ListsBy (λ s. s.start) (λ s. m s ≡ true) at hs

-- the task hasn't begun, and its job has this remainder
abbrev pub waits_at : ℕ → ℕ → Seen → Bool
waits_at n r s = is_none s.on && (s.job % n == r)

-- there are so many lists, and each has the tasks that haven't begun of the jobs with its number as their remainder
pub record AreByJob (n : ℕ) (at : ℕ → Option Seen) (lists : List (List ℕ)) : Type 0 where
  pub some : 1 ≤ length lists
  pub count : length lists ≡ n
  pub each : (r : ℕ) → r < length lists → AreIn (waits_at (length lists) r) at (list_at lists r)

-- with so many lists by jobs and these queues, the walk has a task that is seen so
abbrev pub is_walked : ℕ → Walk → Slots Queue → Seen → Bool
is_walked n Waiting queues s = is_none s.on
is_walked n (OfJob job) queues s = waits_at n (job % n) s
is_walked n (Queued q) queues s = is_some (slot_value queues q.0) && holds (λ k. k == q.0) s.queue
