-- The attributes of each type, and the ranges that the type keeps.
use Rattle.std.specs.Prelude.{◌≡◌, ℕ, ◌≤◌, ◌<◌, ◌^◌, Bool, false}

-- the value is in this range, both ends included
abbrev pub IsWithin : ℕ → ℕ → ℕ → Type 0
IsWithin least greatest value = (least ≤ value) × (value ≤ greatest)

-- the settings of a node
pub record NodeSettings : Type 0 where
  pub workers : ℕ
  pub tasks : ℕ
  pub actions : ℕ
  pub groups : ℕ
  pub queues : ℕ
  pub objects : ℕ
  pub priorities : ℕ
  pub generations : ℕ

-- each setting of a node is in its range
pub record AreNodeSettings (s : NodeSettings) : Type 0 where
  pub workers : IsWithin 1 16 s.workers
  pub tasks : IsWithin 1 65536 s.tasks
  pub actions : IsWithin 1 1024 s.actions
  pub groups : IsWithin 1 1024 s.groups
  pub queues : IsWithin 1 256 s.queues
  pub objects : IsWithin 1 256 s.objects
  pub priorities : IsWithin 1 8 s.priorities
  pub generations : IsWithin 1 4294967295 s.generations

-- the attributes of an action
pub record ActionAttributes : Type 0 where
  pub global : Bool
  pub affinity : ℕ
  pub domain_shared : Bool

-- an action is neither global nor shared between domains, and its mask has 64 bits
pub record AreActionAttributes (a : ActionAttributes) : Type 0 where
  pub global : a.global ≡ false
  pub affinity : a.affinity < 2 ^ 64
  pub domain_shared : a.domain_shared ≡ false

-- the attributes of a task
pub record TaskAttributes : Type 0 where
  pub detached : Bool
  pub instances : ℕ
  pub priority : ℕ
  pub affinity : ℕ

-- each attribute of a task is in its range
pub record AreTaskAttributes (t : TaskAttributes) : Type 0 where
  pub instances : t.instances ≡ 1
  pub priority : t.priority ≤ 7
  pub affinity : t.affinity < 2 ^ 64

-- the attributes of a queue
pub record QueueAttributes : Type 0 where
  pub global : Bool
  pub priority : ℕ
  pub limit : ℕ
  pub ordered : Bool
  pub retain : Bool
  pub domain_shared : Bool

-- each attribute of a queue is in its range
pub record AreQueueAttributes (q : QueueAttributes) : Type 0 where
  pub global : q.global ≡ false
  pub priority : q.priority ≤ 7
  pub limit : IsWithin 1 65536 q.limit
  pub domain_shared : q.domain_shared ≡ false

-- the attributes of a mutex
pub record MutexAttributes : Type 0 where
  pub recursive : Bool
