-- Which ops make objects, and when an object of a kind can be made.
use Rattle.std.specs.Prelude.{◌≡◌, ℕ, Bool, true, false, Option, Some, None, is_some, length}
use Rattle.std.specs.Bool.{MatchBool}
use Rattle.mtapi_renaming.specs.Names.{ObjectKind, Action, Group, Queue, Mutex, Sem, Rwl, Shmem, live_of, live_object, is_full, Op, Pick, ActionCreate, TaskStart, TaskEnqueue, GroupCreate, QueueCreate, MutexCreate, SemCreate, RwlCreate, ShmemCreate, Reply, Handle, Picked, State, Objects, objects_of, actions, tasks, groups, queues, mutexes, sems, rwls, segments, handle_of}
use Rattle.mtapi_values.specs.declared.handles.ObjectKind.TheVariants.{Task}
use Rattle.mtapi_machine.specs.Moves.{is_fresh}

-- the kind of the object that the op makes
abbrev pub made_kind : Op → Option ObjectKind
made_kind (ActionCreate job x cores) = Some Action
made_kind (TaskStart job args priority cores detached group) = Some Task
made_kind (TaskEnqueue q args cores detached group) = Some Task
made_kind GroupCreate = Some Group
made_kind (QueueCreate id job priority limit ordered retain) = Some Queue
made_kind (MutexCreate id recursive) = Some Mutex
made_kind (SemCreate id limit) = Some Sem
made_kind (RwlCreate id limit) = Some Rwl
made_kind (ShmemCreate id cells) = Some Shmem
made_kind op = None

-- how many objects of the kind are live
abbrev pub live_in : ObjectKind → State → ℕ
live_in Action s = length (live_of s.actions)
live_in Task s = length (live_of s.tasks)
live_in Group s = length (live_of s.groups)
live_in Queue s = length (live_of s.queues)
live_in Mutex s = length (live_of s.mutexes)
live_in Sem s = length (live_of s.sems)
live_in Rwl s = length (live_of s.rwls)
live_in Shmem s = length (live_of s.segments)

-- the handle names a live object of the kind
abbrev pub is_live_of : ObjectKind → State → ℕ → Bool
is_live_of Action s h = is_some (live_object s.actions h)
is_live_of Task s h = is_some (live_object s.tasks h)
is_live_of Group s h = is_some (live_object s.groups h)
is_live_of Queue s h = is_some (live_object s.queues h)
is_live_of Mutex s h = is_some (live_object s.mutexes h)
is_live_of Sem s h = is_some (live_object s.sems h)
is_live_of Rwl s h = is_some (live_object s.rwls h)
is_live_of Shmem s h = is_some (live_object s.segments h)

-- no further object can be made
abbrev pub is_kind_full : {T : Type 0} → Objects T → State → Bool
is_kind_full o s = is_full s.terms.settings.generations (o.max s.terms.settings) (o.list s)

-- so for each kind
abbrev pub is_full_of : ObjectKind → State → Bool
is_full_of k s = is_kind_full (objects_of k) s

-- the handle may be given to a new object of the kind
abbrev pub is_fresh_of : ObjectKind → State → ℕ → Bool
is_fresh_of k s h = is_fresh (objects_of k) s h

-- what is answered where no further object of the kind can be made
abbrev pub limit_of : ObjectKind → Reply
limit_of Action = actions.limit
limit_of Task = tasks.limit
limit_of Group = groups.limit
limit_of Queue = queues.limit
limit_of Mutex = mutexes.limit
limit_of Sem = sems.limit
limit_of Rwl = rwls.limit
limit_of Shmem = segments.limit

-- the replies that are allowed where nothing is refused before the limit: the limit where no further object of the kind can be made, and
-- else any handle that may be given
abbrev pub CanBe : ObjectKind → State → Reply → Type 0
CanBe k s r = MatchBool (is_full_of k s) (r ≡ limit_of k) ((is_fresh_of k s (handle_of r) ≡ true) × (r ≡ Handle (handle_of r)))

-- a worker takes a task
abbrev pub takes_task : Op → Reply → Bool
takes_task Pick (Picked t a x args) = true
takes_task op r = false

-- the reply is a handle
abbrev pub is_handle : Reply → Bool
is_handle (Handle h) = true
is_handle _ = false
