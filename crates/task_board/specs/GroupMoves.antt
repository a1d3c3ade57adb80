-- What becomes of a scheduler where members leave a group.
use Rattle.std.specs.Prelude.{◌≡◌, ℕ, Bool, true, not, ◌&&◌, List, [], ◌∷◌, ◌++◌, length, Option, Some, None}
use Rattle.task_board.specs.Names.{TaskEnd, TaskHandle, Slots, slot_value, without, Task, Ended, end_of, is_unended, Ending, is_member, first_fault, TaskTable, detached_in, Members, no_members}
use Rattle.mtapi_values.specs.declared.statuses.MtapiStatus.{MtapiStatus}
use Rattle.task_board.specs.Scheduler.{SchedulerTable, Becomes}

-- the task names the group and has ended
abbrev pub is_ended_member : ℕ → Task → Bool
is_ended_member g t = is_member g t && not (is_unended t)

-- the ends of these tasks, in this order; one that hasn't ended has none
abbrev pub ends_numbered : Option Task → Option (TaskEnd × ℕ)
ends_numbered None = None
ends_numbered (Some t) = end_of t.state

abbrev pub ending_of : ℕ → Option (TaskEnd × ℕ) → List Ending → List Ending
ending_of h None es = es
ending_of h (Some e) es = record { task = h; end = e.0; number = e.1 } ∷ es

abbrev pub endings_of : (ℕ → Option Task) → List ℕ → List Ending
endings_of at [] = []
endings_of at (h ∷ hs) = ending_of h (ends_numbered (at h)) (endings_of at hs)

-- one live task after the other, each of which passes, has been moved so
abbrev pub Each : (Task → Bool) → (Slots Task → ℕ → Task → Slots Task) → List ℕ → Slots Task → Slots Task → Type 0
Each p move [] old new = new ≡ old
Each p move (h ∷ hs) old new = (t : Task) × (slot_value old h ≡ Some t) × (p t ≡ true) × Each p move hs (move old h t) new

-- a task that is freed, and one that is let go: it becomes detached, and stops being live if it has ended
abbrev pub frees : Slots Task → ℕ → Task → Slots Task
frees p h t = without p h

abbrev pub lets_go : Slots Task → ℕ → Task → Slots Task
lets_go p h t = detached_in p h (Some t)

-- only groups have changed, and perhaps tasks
pub record Regroups (old new : SchedulerTable) (tasks : TaskTable) : Type 0 where
  pub settings : new.settings ≡ old.settings
  pub actions_are : new.actions ≡ old.actions
  pub tasks_are : new.tasks ≡ tasks
  pub queues_are : new.queues ≡ old.queues

-- this member of the group, which has these members, leaves it, and its task is moved so
pub record Parts (old new : SchedulerTable) (g h : ℕ) (before after : Members) (t : Task) (pool : Slots Task) : Type 0 where
  pub group : slot_value old.groups.pool g ≡ Some before
  pub group_now : slot_value new.groups.pool g ≡ Some after
  pub task : slot_value old.tasks.pool h ≡ Some t
  pub member : is_member g t ≡ true
  pub becomes : Becomes old new old.actions (record old.tasks { pool = pool })

-- the member that ended first is freed, and its end is given
pub record TakesMember (old new : SchedulerTable) (g h : ℕ) (e : TaskEnd) : Type 0 where
  pub members : Members
  pub rest : List ℕ
  pub t : Task
  pub number : ℕ
  pub list : members.ended ≡ h ∷ rest
  pub state : t.state ≡ Ended e number
  pub parts : Parts old new g h members (record members { ended = rest }) t (frees old.tasks.pool h t)

-- the member that entered first, of those that haven't ended, is let go
pub record Leaves (old new : SchedulerTable) (g h : ℕ) : Type 0 where
  pub members : Members
  pub rest : List ℕ
  pub t : Task
  pub list : members.unended ≡ h ∷ rest
  pub parts : Parts old new g h members (record members { unended = rest }) t (lets_go old.tasks.pool h t)

-- no member of the group has ended, or none is left of the others; nothing changes
abbrev pub NoneTaken : SchedulerTable → SchedulerTable → ℕ → Type 0
NoneTaken old new g = (new ≡ old) × ((m : Members) → slot_value old.groups.pool g ≡ Some m → m.ended ≡ [])

abbrev pub NoneLeaves : SchedulerTable → SchedulerTable → ℕ → Type 0
NoneLeaves old new g = (new ≡ old) × ((m : Members) → slot_value old.groups.pool g ≡ Some m → m.unended ≡ [])

abbrev pub TakesFirst : SchedulerTable → ℕ → Option (TaskHandle × TaskEnd) → SchedulerTable → Type 0
TakesFirst old g None new = NoneTaken old new g
TakesFirst old g (Some x) new = TakesMember old new g x.0.0 x.1

abbrev pub LeavesFirst : SchedulerTable → ℕ → Option TaskHandle → SchedulerTable → Type 0
LeavesFirst old g None new = NoneLeaves old new g
LeavesFirst old g (Some t) new = Leaves old new g t.0

-- the members of the group that have ended are freed, in the order of their ends; the answer is the first fault
pub record FreesAll (old new : SchedulerTable) (g : ℕ) (fault : Option MtapiStatus) : Type 0 where
  pub members : Members
  pub group : slot_value old.groups.pool g ≡ Some members
  pub group_now : slot_value new.groups.pool g ≡ Some (record members { ended = [] })
  pub each : Each (is_ended_member g) frees members.ended old.tasks.pool new.tasks.pool
  pub fault_is : fault ≡ first_fault (endings_of (slot_value old.tasks.pool) members.ended)
  pub becomes : Becomes old new old.actions (record old.tasks { pool = new.tasks.pool })

-- all members of the group are let go
pub record LetsAllGo (old new : SchedulerTable) (g : ℕ) : Type 0 where
  pub handles : List ℕ
  pub each : Each (is_member g) lets_go handles old.tasks.pool new.tasks.pool
  pub group_now : slot_value new.groups.pool g ≡ Some no_members
  pub becomes : Becomes old new old.actions (record old.tasks { pool = new.tasks.pool })

-- all members of the group that haven't ended are let go
pub record LetsUnendedGo (old new : SchedulerTable) (g : ℕ) : Type 0 where
  pub members : Members
  pub group : slot_value old.groups.pool g ≡ Some members
  pub group_now : slot_value new.groups.pool g ≡ Some (record members { unended = [] })
  pub each : Each (is_member g) lets_go members.unended old.tasks.pool new.tasks.pool
  pub becomes : Becomes old new old.actions (record old.tasks { pool = new.tasks.pool })

-- so far: these members have been freed, and these are left
pub record Freed (old now : SchedulerTable) (g index : ℕ) (fault : Option MtapiStatus) : Type 0 where
  pub members : Members
  pub done : List ℕ
  pub rest : List ℕ
  pub list : members.ended ≡ done ++ rest
  pub count : length done ≡ index
  pub group : slot_value old.groups.pool g ≡ Some members
  pub group_now : slot_value now.groups.pool g ≡ Some (record members { ended = rest })
  pub each : Each (is_ended_member g) frees done old.tasks.pool now.tasks.pool
  pub kept : (h : ℕ) (t : Task) → slot_value now.tasks.pool h ≡ Some t → slot_value old.tasks.pool h ≡ Some t
  pub fault_is : fault ≡ first_fault (endings_of (slot_value old.tasks.pool) done)
  pub becomes : Becomes old now old.actions (record old.tasks { pool = now.tasks.pool })

-- so far: these members have been let go, and these are left
pub record Left (old now : SchedulerTable) (g index : ℕ) : Type 0 where
  pub members : Members
  pub done : List ℕ
  pub rest : List ℕ
  pub list : members.unended ≡ done ++ rest
  pub count : length done ≡ index
  pub group : slot_value old.groups.pool g ≡ Some members
  pub group_now : slot_value now.groups.pool g ≡ Some (record members { unended = rest })
  pub each : Each (is_member g) lets_go done old.tasks.pool now.tasks.pool
  pub becomes : Becomes old now old.actions (record old.tasks { pool = now.tasks.pool })
