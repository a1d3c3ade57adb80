-- What a scheduler keeps beside its actions and its tasks.
use Rattle.std.specs.Prelude.{◌≡◌, ◌⊎◌, ℕ, ◌<◌, ◌≤◌, Bool, true, List, length, Option, Some, None, slice_index_or, slice_get, slice_set}
use Rattle.mtapi_values.specs.Attributes.{NodeSettings}
use Rattle.task_board.specs.Names.{TaskHandle, Slots, slot_of, slot_value, max_of, list_at, has_handle, Action, IsUnion, Queue, TaskTable, HeldQueue, QueueTable, Group, GroupTable}
use Rattle.ready_index.specs.declared.marks.Mark.{Mark}
use Rattle.ready_index.specs.Marks.{ReadyMarks, mark_at, is_for_at}
use Rattle.task_board.specs.Members.{without_members, members_seen, AreMembers}
use Rattle.task_board.specs.Seen.{Seen, seen_in, MayTake}
use Rattle.task_board.specs.Queued.{ListInOrder, begins_in, AreQueued}
use Rattle.task_board.specs.Mapped.{mapped}
use Rattle.task_board.specs.Waiting.{WaitingTable}
use Rattle.task_board.specs.Walks.{AreByJob}

pub record SchedulerTable : Type 0 where
  pub settings : NodeSettings
  pub actions : Slots Action
  pub tasks : TaskTable
  pub queues : QueueTable
  pub ready : ReadyMarks
  pub waiting : WaitingTable
  pub running : List (Option TaskHandle)
  pub groups : GroupTable

-- the slots of the groups without their members
abbrev pub group_slots : SchedulerTable → Slots Group
group_slots b = without_members b.groups.pool

-- the mark is right for what is seen: it is for a worker, with a priority, exactly where the worker may take a task of this priority
pub record IsMarkOf (actions : Slots Action) (lets : Option ℕ → Bool) (x : Option Seen) (o : Option Mark) : Type 0 where
  pub sound : (w p : ℕ) → is_for_at w p o ≡ true → (s : Seen) × (x ≡ Some s) × (s.priority ≡ p) × MayTake actions lets w s
  pub whole : (w : ℕ) (s : Seen) → x ≡ Some s → MayTake actions lets w s → is_for_at w s.priority o ≡ true

-- the marks are those of the tasks that may be taken
pub record Marked (actions : Slots Action) (lets : ℕ → Option ℕ → Bool) (at : ℕ → Option Seen) (marks : List (Option Mark)) : Type 0 where
  pub sound : (w p place : ℕ) → is_for_at w p (mark_at marks place) ≡ true
      → (h : ℕ) × (s : Seen) × (slot_of h ≡ place) × (at h ≡ Some s) × (s.priority ≡ p) × MayTake actions (lets h) w s
  pub whole : (w h : ℕ) (s : Seen) → at h ≡ Some s → MayTake actions (lets h) w s → is_for_at w s.priority (mark_at marks (slot_of h)) ≡ true

-- the list has the handles of the tasks that haven't begun, in the order of their starts
pub record AreWaiting (at : ℕ → Option Seen) (hs : List ℕ) : Type 0 where
  pub listed : (h : ℕ) (s : Seen) → at h ≡ Some s → s.on ≡ None → has_handle h hs ≡ true
  pub waits : (h : ℕ) → has_handle h hs ≡ true → (s : Seen) × (at h ≡ Some s) × (s.on ≡ None)
  pub ordered : ListInOrder at hs

-- what runs on a worker
abbrev pub running_on : List (Option TaskHandle) → ℕ → Option TaskHandle
running_on running w = slice_index_or running w None

-- each worker has the task that runs on it, and no second one does
pub record AreRunning (at : ℕ → Option Seen) (running : List (Option TaskHandle)) : Type 0 where
  pub found : (h w : ℕ) (s : Seen) → at h ≡ Some s → s.on ≡ Some w → running_on running w ≡ Some (record { 0 = h })
  pub runs : (w : ℕ) (t : TaskHandle) → running_on running w ≡ Some t → (s : Seen) × (at t.0 ≡ Some s) × (s.on ≡ Some w)

-- each task has one of the priorities
pub record AreRanked (at : ℕ → Option Seen) (priorities : ℕ) : Type 0 where
  pub known : (h : ℕ) (s : Seen) → at h ≡ Some s → s.priority < priorities

-- each task was started, so the next number of a start is greater
pub record AreStarted (at : ℕ → Option Seen) (starts : ℕ) : Type 0 where
  pub before : (h : ℕ) (s : Seen) → at h ≡ Some s → s.start < starts

pub record IsScheduler (b : SchedulerTable) : Type 0 where
  pub few : b.settings.workers ≤ 16
  pub workers : b.ready.workers ≡ b.settings.workers
  pub priorities : b.ready.priorities ≡ b.settings.priorities
  pub slots : length b.ready.marks ≡ max_of b.tasks.pool
  pub places : b.waiting.places ≡ max_of b.tasks.pool
  pub lists : length b.waiting.lists ≡ 1
  pub seats : length b.running ≡ 25
  pub room : b.queues.tasks ≡ max_of b.tasks.pool
  pub marked : Marked b.actions (begins_in b.queues.pool) (seen_in b.tasks.pool) b.ready.marks
  pub waiting_are : AreWaiting (seen_in b.tasks.pool) (list_at b.waiting.lists 0)
  pub by_job : AreByJob b.settings.actions (seen_in b.tasks.pool) b.waiting.by_job
  pub running_are : AreRunning (seen_in b.tasks.pool) b.running
  pub ranked : AreRanked (seen_in b.tasks.pool) b.settings.priorities
  pub started : AreStarted (seen_in b.tasks.pool) b.tasks.starts
  pub queued : AreQueued (seen_in b.tasks.pool) b.queues.pool b.settings.priorities
  pub members : AreMembers (members_seen b.tasks.pool) (slot_value b.groups.pool) b.tasks.starts b.tasks.ends
  pub task_slots : b.groups.tasks ≡ max_of b.tasks.pool

-- the queues without their tasks
abbrev pub records_of : Slots HeldQueue → Slots Queue
records_of queues = mapped (λ (x : HeldQueue). x.queue) queues

-- the scheduler has these actions and these tasks now, and the same queues and groups, but for their tasks and members
pub record Becomes (old new : SchedulerTable) (actions : Slots Action) (tasks : TaskTable) : Type 0 where
  pub settings : new.settings ≡ old.settings
  pub actions_are : new.actions ≡ actions
  pub tasks_are : new.tasks ≡ tasks
  pub queues_are : records_of new.queues.pool ≡ records_of old.queues.pool
  pub groups_are : group_slots new ≡ group_slots old

-- the scheduler has these queues now, and all else as it was
pub record BecomesWith (old new : SchedulerTable) (queues : Slots HeldQueue) : Type 0 where
  pub settings : new.settings ≡ old.settings
  pub actions_are : new.actions ≡ old.actions
  pub tasks_are : new.tasks ≡ old.tasks
  pub queues_are : new.queues.pool ≡ queues
  pub groups_are : new.groups ≡ old.groups

module _ (actions : Slots Action) (lets : ℕ → Option ℕ → Bool) (at : ℕ → Option Seen) where
  -- the slot of the handle has the mark that is right for what is seen
  pub record IsFresh (h : ℕ) (old new : ReadyMarks) : Type 0 where
    pub mark : Option Mark
    pub right : IsMarkOf actions (lets h) (at h) mark
    pub now : new ≡ record old { marks = slice_set old.marks (slot_of h) mark }

  -- the same where there is a handle; else the marks are as they were
  abbrev pub IsFreshAt : Option ℕ → ReadyMarks → ReadyMarks → Type 0
  IsFreshAt None old new = new ≡ old
  IsFreshAt (Some h) old new = IsFresh h old new

  -- the same where the task has this job; else the marks are as they were
  abbrev pub IsFreshFor : ℕ → ℕ → ReadyMarks → ReadyMarks → Type 0
  IsFreshFor job h old new = (((s : Seen) → at h ≡ Some s → s.job ≡ job) × IsFresh h old new) ⊎ (((s : Seen) → at h ≡ Some s → s.job ≡ job → ⊥) × (new ≡ old))

-- a task of this job stands in the list before this index, and has this slot
pub record StandsBefore (at : ℕ → Option Seen) (job : ℕ) (hs : List ℕ) (index place : ℕ) : Type 0 where
  pub i : ℕ
  pub h : ℕ
  pub s : Seen
  pub before : i < index
  pub stands : slice_get hs i ≡ Some h
  pub is : at h ≡ Some s
  pub has_job : s.job ≡ job
  pub slot : slot_of h ≡ place

-- the tasks of this job before this index of the list are marked anew, and all other marks are as they were
pub record Remarked (actions : Slots Action) (lets : ℕ → Option ℕ → Bool) (at : ℕ
    → Option Seen) (job : ℕ) (hs : List ℕ) (index : ℕ) (old new : ReadyMarks) : Type 0 where
  pub workers : new.workers ≡ old.workers
  pub priorities : new.priorities ≡ old.priorities
  pub slots : length new.marks ≡ length old.marks
  pub fresh : (i h : ℕ) (s : Seen) → i < index → slice_get hs i ≡ Some h → at h ≡ Some s → s.job ≡ job
      → IsMarkOf actions (lets h) (at h) (mark_at new.marks (slot_of h))
  pub others : (place : ℕ) → (mark_at new.marks place ≡ mark_at old.marks place) ⊎ StandsBefore at job hs index place

-- the waiting tasks of the job are marked anew; or its actions cover these cores, and the marks are as they were
abbrev pub RemarkedUnless : (actions : Slots Action) (lets : ℕ → Option ℕ → Bool) (at : ℕ → Option Seen) (job mask : ℕ) (hs : List ℕ) (old new : ReadyMarks)
    → Type 0
RemarkedUnless actions lets at job mask hs old new = Remarked actions lets at job hs (length hs) old new ⊎ (IsUnion actions job mask × (new ≡ old))
