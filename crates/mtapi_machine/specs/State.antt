-- The state of the machine, and each kind of its objects.
use Rattle.std.specs.Prelude.{ℕ, ◌+◌, Bool, true, false, not, ◌&&◌, List, []}
use Rattle.mtapi_values.specs.declared.statuses.MtapiStatus.TheVariants as m
use Rattle.mtapi_values.specs.declared.statuses.MrapiStatus.TheVariants as c
use Rattle.mtapi_machine.specs.Names.{NodeSettings, no_marks, TaskEnd, Listed, any_listed, count_listed, change, update, retire, Action, Task, is_unended, end_each, ended, Group, Queue, Mutex, Sem, Rwl, Segment}
use Rattle.mtapi_values.specs.declared.handles.ObjectKind.{ObjectKind}
use Rattle.mtapi_values.specs.declared.handles.ObjectKind.TheVariants as kind
use Rattle.mtapi_values.specs.declared.handles.Layout.{Layout}
use Rattle.mtapi_machine.specs.declared.terms.Phase.{Phase}
use Rattle.mtapi_machine.specs.declared.terms.Phase.TheVariants.{New, Open, Closing}
use Rattle.mtapi_machine.specs.declared.terms.Terms.{Terms}
use Rattle.mtapi_machine.specs.declared.replies.Reply.{Reply}
use Rattle.mtapi_machine.specs.declared.replies.Reply.TheVariants.{Mtapi, Mrapi}

-- what no op changes, the phase, whether main has released, which workers have stopped, how many tasks were started and how many
-- have ended, and of each kind the objects that were ever made
pub record State : Type 0 where
  pub terms : Terms
  pub phase : Phase
  pub released : Bool
  pub stopped : List Bool
  pub starts : ℕ
  pub ends : ℕ
  pub actions : List (Listed Action)
  pub tasks : List (Listed Task)
  pub groups : List (Listed Group)
  pub queues : List (Listed Queue)
  pub mutexes : List (Listed Mutex)
  pub sems : List (Listed Sem)
  pub rwls : List (Listed Rwl)
  pub segments : List (Listed Segment)

-- the terms of a node of this layout, with these settings and so many callers
abbrev pub terms_with : Layout → NodeSettings → ℕ → Terms
terms_with layout settings callers = record { layout = layout; settings = settings; callers = callers }

-- the state before the first entry: New, and no object was made
abbrev pub opening : Terms → State
opening terms = record {
  terms = terms;
  phase = New;
  released = false;
  stopped = no_marks;
  starts = 0;
  ends = 0;
  actions = [];
  tasks = [];
  groups = [];
  queues = [];
  mutexes = [];
  sems = [];
  rwls = [];
  segments = [];
}

-- how many workers there are: the seats below this number
abbrev pub workers : State → ℕ
workers s = s.terms.settings.workers

-- how many seats there are: those of the workers, and then those of the callers
abbrev pub seats : State → ℕ
seats s = workers s + s.terms.callers

-- the phase is New
abbrev pub is_new : Phase → Bool
is_new New = true
is_new _ = false

-- the phase is Open
abbrev pub is_open : Phase → Bool
is_open Open = true
is_open _ = false

-- the phase is Open or Closing
abbrev pub is_up : Phase → Bool
is_up Closing = true
is_up p = is_open p

-- the phase is Closing or Closed
abbrev pub is_past_open : Phase → Bool
is_past_open p = not (is_new p) && not (is_open p)

-- the phase is Closing or Closed, and no task is scheduled or running
abbrev pub is_stop : State → Bool
is_stop s = is_past_open s.phase && not (any_listed is_unended s.tasks)

-- Objects

-- a kind of object: its name, its list in a state, the state with another list, how many of them the settings allow, and what it
-- answers where a handle names no live object and where no further object can be made
pub record Objects (T : Type 0) : Type 0 where
  pub kind : ObjectKind
  pub list : State → List (Listed T)
  pub with_list : List (Listed T) → State → State
  pub max : NodeSettings → ℕ
  pub invalid : Reply
  pub limit : Reply

-- the eight kinds
abbrev pub actions : Objects Action
actions = record {
  kind = kind.Action;
  list = λ s. s.actions;
  with_list = λ l s. record s { actions = l };
  max = λ a. a.actions;
  invalid = Mtapi m.ErrActionInvalid;
  limit = Mtapi m.ErrActionLimit;
}

abbrev pub tasks : Objects Task
tasks = record {
  kind = kind.Task;
  list = λ s. s.tasks;
  with_list = λ l s. record s { tasks = l };
  max = λ a. a.tasks;
  invalid = Mtapi m.ErrTaskInvalid;
  limit = Mtapi m.ErrTaskLimit;
}

abbrev pub groups : Objects Group
groups = record {
  kind = kind.Group;
  list = λ s. s.groups;
  with_list = λ l s. record s { groups = l };
  max = λ a. a.groups;
  invalid = Mtapi m.ErrGroupInvalid;
  limit = Mtapi m.ErrGroupLimit;
}

abbrev pub queues : Objects Queue
queues = record {
  kind = kind.Queue;
  list = λ s. s.queues;
  with_list = λ l s. record s { queues = l };
  max = λ a. a.queues;
  invalid = Mtapi m.ErrQueueInvalid;
  limit = Mtapi m.ErrQueueLimit;
}

abbrev pub mutexes : Objects Mutex
mutexes = record {
  kind = kind.Mutex;
  list = λ s. s.mutexes;
  with_list = λ l s. record s { mutexes = l };
  max = λ a. a.objects;
  invalid = Mrapi c.ErrMutexInvalid;
  limit = Mrapi c.ErrMutexLimit;
}

abbrev pub sems : Objects Sem
sems = record {
  kind = kind.Sem;
  list = λ s. s.sems;
  with_list = λ l s. record s { sems = l };
  max = λ a. a.objects;
  invalid = Mrapi c.ErrSemInvalid;
  limit = Mrapi c.ErrSemLimit;
}

abbrev pub rwls : Objects Rwl
rwls = record {
  kind = kind.Rwl;
  list = λ s. s.rwls;
  with_list = λ l s. record s { rwls = l };
  max = λ a. a.objects;
  invalid = Mrapi c.ErrRwlInvalid;
  limit = Mrapi c.ErrRwlLimit;
}

abbrev pub segments : Objects Segment
segments = record {
  kind = kind.Shmem;
  list = λ s. s.segments;
  with_list = λ l s. record s { segments = l };
  max = λ a. a.objects;
  invalid = Mrapi c.ErrShmInvalid;
  limit = Mrapi c.ErrShmLimit;
}

-- the fields of an object of each kind
abbrev pub FieldsOf : ObjectKind → Type 0
FieldsOf kind.Action = Action
FieldsOf kind.Task = Task
FieldsOf kind.Group = Group
FieldsOf kind.Queue = Queue
FieldsOf kind.Mutex = Mutex
FieldsOf kind.Sem = Sem
FieldsOf kind.Rwl = Rwl
FieldsOf kind.Shmem = Segment

-- the objects of each kind
abbrev pub objects_of : (k : ObjectKind) → Objects (FieldsOf k)
objects_of kind.Action = actions
objects_of kind.Task = tasks
objects_of kind.Group = groups
objects_of kind.Queue = queues
objects_of kind.Mutex = mutexes
objects_of kind.Sem = sems
objects_of kind.Rwl = rwls
objects_of kind.Shmem = segments

module _ {T : Type 0} where
  -- the state with the fields of the live object of this handle changed
  abbrev pub object_changed : Objects T → ℕ → (T → T) → State → State
  object_changed o h f s = o.with_list (update h f (o.list s)) s

  -- the state in which the object of this handle isn't live any more
  abbrev pub object_without : Objects T → ℕ → State → State
  object_without o h s = o.with_list (retire h (o.list s)) s

-- the live task of this handle ends, with the next number of an end
abbrev pub end_task : ℕ → TaskEnd → State → State
end_task h e s = record s { tasks = change h (ended e s.ends) s.tasks; ends = s.ends + 1 }

-- every live task that passes ends, in the order of their starts
abbrev pub end_tasks : (Task → Bool) → TaskEnd → State → State
end_tasks p e s = record s { tasks = end_each p e s.ends s.tasks; ends = s.ends + count_listed p s.tasks }
