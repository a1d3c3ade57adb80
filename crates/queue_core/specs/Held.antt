-- The queues as their calls see them: each with its unended tasks, and what the calls answer and leave.
use Rattle.std.specs.Prelude.{◌≡◌, ℕ, ◌≤◌, Bool, true, false, ◌==◌, List, [], ◌∷◌, ◌++◌, length, Option, Some, None, Result, Ok, Err, slice_get}
use Rattle.mtapi_values.specs.Attributes.{QueueAttributes}
use Rattle.mtapi_values.specs.Conditions.{first}
use Rattle.mtapi_values.specs.declared.handles.QueueHandle.{QueueHandle}
use Rattle.mtapi_values.specs.declared.statuses.MtapiStatus.{MtapiStatus}
use Rattle.mtapi_values.specs.declared.statuses.MtapiStatus.TheVariants.{ErrQueueInvalid, ErrQueueExists, ErrQueueLimit}
use Rattle.handle_pool.specs.Slots.{Slot, Slots, slot_value, IsFull, Inserts}
use Rattle.handle_pool.specs.Walks.{SomeLive, NoneLive}
use Rattle.linked_places.specs.Lists.{HandleLists, stands_at, has_handle, without_handle}
use Rattle.linked_places.specs.Beside.{pool_beside, AreBeside}
use Rattle.mtapi_objects.specs.Queues.{Queue, opened, put_refusals}
use Rattle.queue_core.specs.declared.facts.QueueFacts.{QueueFacts}

-- a queue, and its unended tasks in the order in which they were put
pub record HeldQueue : Type 0 where
  pub queue : Queue
  pub tasks : List ℕ

-- the slots of the queues, and how many slots of tasks there are
pub record QueueTable : Type 0 where
  pub pool : Slots HeldQueue
  pub tasks : ℕ

-- a new queue is enabled, and has the id, the job and what its attributes say
abbrev pub new_queue_of : ℕ → ℕ → QueueAttributes → Queue
new_queue_of id job attr = record {
  id = id;
  job = job;
  priority = attr.priority;
  limit = attr.limit;
  ordered = attr.ordered;
  retain = attr.retain;
  enabled = true;
}

-- a queue with these tasks
abbrev pub held : Queue → List ℕ → HeldQueue
held queue tasks = record { queue = queue; tasks = tasks }

-- the queue has this id
abbrev pub has_id : ℕ → Queue → Bool
has_id id q = q.id == id

abbrev pub HasQueueId : ℕ → HeldQueue → Type 0
HasQueueId id h = has_id id h.queue ≡ true

-- a create: an id that is live first, then no room; else a new queue with no tasks under a handle
abbrev pub CreatesQueue : QueueTable → Queue → Result QueueHandle MtapiStatus → QueueTable → Type 0
CreatesQueue old queue (Ok q) new = NoneLive (slot_value old.pool) (HasQueueId queue.id) × (IsFull old.pool → ⊥) × Inserts old.pool new.pool q.0 (held queue [])
    × (new.tasks ≡ old.tasks)
CreatesQueue old queue (Err ErrQueueExists) new = SomeLive (slot_value old.pool) (HasQueueId queue.id) × (new ≡ old)
CreatesQueue old queue (Err ErrQueueLimit) new = NoneLive (slot_value old.pool) (HasQueueId queue.id) × IsFull old.pool × (new ≡ old)
CreatesQueue old queue (Err _) new = ⊥

-- the one live queue of this id, or none has it
abbrev pub Finds : Slots HeldQueue → ℕ → Result QueueHandle MtapiStatus → Type 0
Finds pool id (Ok q) = ((h : HeldQueue) × (slot_value pool q.0 ≡ Some h) × HasQueueId id h)
    × ((k : ℕ) (h : HeldQueue) → slot_value pool k ≡ Some h → HasQueueId id h → k ≡ q.0)
Finds pool id (Err ErrQueueInvalid) = NoneLive (slot_value pool) (HasQueueId id)
Finds pool id (Err _) = ⊥

-- refused exactly where the queue isn't live
abbrev pub live_reply : Option HeldQueue → Result Unit MtapiStatus
live_reply None = Err ErrQueueInvalid
live_reply (Some h) = Ok tt

-- the queue, enabled or disabled
abbrev pub with_opened : Bool → HeldQueue → HeldQueue
with_opened on h = record { queue = opened on h.queue; tasks = h.tasks }

-- a task is put behind the others
abbrev pub with_task : ℕ → HeldQueue → HeldQueue
with_task task h = record { queue = h.queue; tasks = h.tasks ++ task ∷ [] }

-- a task has ended
abbrev pub without_task : ℕ → HeldQueue → HeldQueue
without_task task h = record { queue = h.queue; tasks = without_handle task h.tasks }

-- what a put answers: what the queue refuses first, then that its unended tasks equal its limit
abbrev pub put_answer : Option MtapiStatus → Bool → Result Unit MtapiStatus
put_answer (Some status) full = Err status
put_answer None true = Err ErrQueueLimit
put_answer None false = Ok tt

abbrev pub put_reply : Option HeldQueue → Result Unit MtapiStatus
put_reply None = Err ErrQueueInvalid
put_reply (Some h) = put_answer (first (put_refusals h.queue)) (length h.tasks == h.queue.limit)

-- no unended task of any live queue has this slot
abbrev pub NoTaskAt : ℕ → Slots HeldQueue → Type 0
NoTaskAt slot pool = (q : ℕ) (h : HeldQueue) → slot_value pool q ≡ Some h → stands_at slot h.tasks ≡ false

-- the task is an unended one of the queue
abbrev pub IsUnendedTask : ℕ → Option HeldQueue → Type 0
IsUnendedTask task None = ⊥
IsUnendedTask task (Some h) = has_handle task h.tasks ≡ true

-- the unended task that was put first
abbrev pub first_task : Option HeldQueue → Option ℕ
first_task None = None
first_task (Some h) = slice_get h.tasks 0

-- the unended tasks, and none where there is no queue
abbrev pub tasks_of : Option HeldQueue → List ℕ
tasks_of None = []
tasks_of (Some h) = h.tasks

-- a queue at a glance, with so many unended tasks
abbrev pub facts_with : Queue → ℕ → QueueFacts
facts_with q unended = record {
  job = q.job;
  priority = q.priority;
  enabled = q.enabled;
  ordered = q.ordered;
  retain = q.retain;
  limit = q.limit;
  unended = unended;
}

abbrev pub facts_of : HeldQueue → QueueFacts
facts_of h = facts_with h.queue (length h.tasks)

-- what the slots and the lists are seen as
abbrev pub table_of : Slots Queue → HandleLists → QueueTable
table_of pool tasks = record { pool = pool_beside held pool tasks.lists; tasks = tasks.places }

-- a retired slot holds no queue
abbrev pub AreRetiredEmpty : Slots HeldQueue → Type 0
AreRetiredEmpty pool = (place : ℕ) (slot : Slot HeldQueue) → slice_get pool.slots place ≡ Some slot → slot.retired ≡ true → slot.value ≡ None

-- what the lists keep of the slots
pub record AreQueues (pool : Slots Queue) (tasks : HandleLists) : Type 0 where
  pub beside : AreBeside pool.slots tasks.lists
  pub few : tasks.places ≤ 65536
