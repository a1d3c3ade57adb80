-- What ties the lists of the queues to the tasks, and which tasks their queues let begin.
use Rattle.std.specs.Prelude.{◌≡◌, ◌⊎◌, ℕ, ◌<◌, Bool, true, List, Option, Some, None, Ok, slice_get}
use Rattle.task_board.specs.Names.{holds, Slot, Slots, slot_of, generation_of, free_slot, slot_value, changed, has_handle, NewTask, HeldQueue, put_reply, without_task}
use Rattle.queue_ready.specs.Ready.{may_begin}
use Rattle.task_board.specs.Seen.{Seen}
use Rattle.task_board.specs.Keyed.{RisesByNumber}

-- each task of the list was started before those behind it
abbrev pub ListInOrder : (ℕ → Option Seen) → List ℕ → Type 0
ListInOrder at hs = RisesByNumber (λ s. s.start) at hs

-- a task that names no queue may begin, and one whose queue is live and lets it
abbrev pub begins_in : Slots HeldQueue → ℕ → Option ℕ → Bool
begins_in queues h None = true
begins_in queues h (Some q) = holds (λ x. may_begin h x.queue x.tasks) (slot_value queues q)

-- the slot has had this generation: it has a later one, or it has this one and isn't free
abbrev pub HasHad : ℕ → Slot HeldQueue → Type 0
HasHad generation slot = (generation < slot.generation) ⊎ ((generation ≡ slot.generation) × (slot ≡ free_slot generation → ⊥))

-- the handle was given to a queue
abbrev pub WasGiven : Slots HeldQueue → ℕ → Type 0
WasGiven queues q = (slot : Slot HeldQueue) → slice_get queues.slots (slot_of q) ≡ Some slot → HasHad (generation_of q) slot

-- the list of each live queue has exactly the unended tasks that name it, each of its job, in the order of their starts
pub record AreQueued (at : ℕ → Option Seen) (queues : Slots HeldQueue) (priorities : ℕ) : Type 0 where
  pub listed : (h q : ℕ) (s : Seen) (x : HeldQueue) → at h ≡ Some s → s.queue ≡ Some q → slot_value queues q ≡ Some x → has_handle h x.tasks ≡ true
  pub names : (h q : ℕ) (x : HeldQueue) → slot_value queues q ≡ Some x → has_handle h x.tasks ≡ true
      → (s : Seen) × (at h ≡ Some s) × (s.queue ≡ Some q) × (s.job ≡ x.queue.job)
  pub ordered : (q : ℕ) (x : HeldQueue) → slot_value queues q ≡ Some x → ListInOrder at x.tasks
  -- a task that hasn't begun names a live queue, if any, and each task one that was made
  pub live : (h q : ℕ) (s : Seen) → at h ≡ Some s → s.on ≡ None → s.queue ≡ Some q → (x : HeldQueue) × (slot_value queues q ≡ Some x)
  pub given : (h q : ℕ) (s : Seen) → at h ≡ Some s → s.queue ≡ Some q → WasGiven queues q
  -- each queue has one of the priorities
  pub ranked : (q : ℕ) (x : HeldQueue) → slot_value queues q ≡ Some x → x.queue.priority < priorities

-- the queues once a task has left the queue that it names, if that is live
abbrev pub left_queue : Slots HeldQueue → Option ℕ → ℕ → Slots HeldQueue
left_queue queues None h = queues
left_queue queues (Some q) h = changed queues q (without_task h)

-- the first task of this queue, if there is one
abbrev pub head_of_queue : Slots HeldQueue → Option ℕ → Option ℕ
head_of_queue queues None = None
head_of_queue queues (Some q) = first_in (slot_value queues q)
  where
    first_in : Option HeldQueue → Option ℕ
    first_in None = None
    first_in (Some x) = slice_get x.tasks 0

-- the task names this queue, which is live, takes it, and has its job and its priority
pub record IsRoomFor (queues : Slots HeldQueue) (q : ℕ) (t : NewTask) : Type 0 where
  pub x : HeldQueue
  pub live : slot_value queues q ≡ Some x
  pub takes : put_reply (Some x) ≡ Ok tt
  pub names : t.queue ≡ Some q
  pub job : t.job ≡ x.queue.job
  pub priority : t.priority ≡ x.queue.priority

-- no task that hasn't begun names this queue
abbrev pub NoneWaitsIn : ℕ → (ℕ → Option Seen) → Type 0
NoneWaitsIn q at = (h : ℕ) (s : Seen) → at h ≡ Some s → s.on ≡ None → s.queue ≡ Some q → ⊥
