-- Worked rows of the objects: what calls on one are refused for and what they leave. Each is decided by computing.
use Rattle.std.specs.Prelude.{◌≡◌, ℕ, Bool, true, false, List, [], ◌∷◌, map, Some, None, pos, negsuc}
use Rattle.mtapi_values.specs.declared.kinds.Kind.TheVariants as kind
use Rattle.mtapi_values.specs.declared.statuses.MrapiStatus.TheVariants.{ErrMutexLocked, ErrMutexNotlocked, ErrMutexKey, ErrMutexLockorder, ErrSemNotlocked, ErrRwlLocked, ErrRwlNotlocked, ErrShmNotattached, ErrShmAttached, ErrParameter}
use Rattle.mtapi_values.specs.declared.statuses.MtapiStatus.TheVariants.{ErrWaitPending, ErrArgSize, ErrActionFailed, ErrTaskCancelled}
use Rattle.mtapi_values.specs.declared.ends.TaskEnd.TheVariants.{Completed, Cancelled, Failed}
use Rattle.mtapi_values.specs.Conditions.{first}
use Rattle.handle_pool.specs.Issued.{Listed}
use Rattle.mtapi_objects.specs.Actions.{new_action, has_worker}
use Rattle.mtapi_objects.specs.Tasks.{Task, NewTask, Running, Ended, new_task, with_state, with_notes, with_waiter, end_each, is_unstarted, task_look_refusals, kind_number, watch_end, tally_args}
use Rattle.mtapi_objects.specs.Groups.{endings, first_fault}
use Rattle.mtapi_objects.specs.Queues.{Queue, lets, opened}
use Rattle.mtapi_objects.specs.Mutexes.{Mutex, new_mutex, mutex_look_refusals, mutex_busy, locked_by, mutex_unlock_refusals, unlocked}
use Rattle.mtapi_objects.specs.Sems.{Sem, new_sem, sem_busy, sem_taken, sem_unlock_refusals}
use Rattle.mtapi_objects.specs.Rwls.{Rwl, new_rwl, rwl_busy, rwl_create_refusals, rwl_look_refusals, rwl_taken, rwl_unlock_refusals}
use Rattle.mtapi_objects.specs.Segments.{Segment, new_segment, cell_refusals, with_cell, with_attached, shmem_delete_refusals}

-- a recursive mutex that seat 3 has locked twice
abbrev pub locked_twice : Mutex
locked_twice = locked_by 3 (locked_by 3 (new_mutex 1 true))

pub record WorkedMutexes : Type 0 where
  pub key_above : first (mutex_unlock_refusals 3 3 locked_twice) ≡ Some ErrMutexKey
  pub no_key : first (mutex_unlock_refusals 3 0 locked_twice) ≡ Some ErrMutexKey
  pub first_key : first (mutex_unlock_refusals 3 1 locked_twice) ≡ Some ErrMutexLockorder
  pub last_key : first (mutex_unlock_refusals 3 2 locked_twice) ≡ None
  pub another : first (mutex_unlock_refusals 4 2 locked_twice) ≡ Some ErrMutexNotlocked
  pub once_more : first (mutex_look_refusals 3 locked_twice) ≡ None
  pub not_recursive : first (mutex_look_refusals 3 (locked_by 3 (new_mutex 1 false))) ≡ Some ErrMutexLocked
  pub deepest : first (mutex_look_refusals 3 (record locked_twice { depth = 63 })) ≡ None
  pub too_deep : first (mutex_look_refusals 3 (record locked_twice { depth = 64 })) ≡ Some ErrMutexLocked
  pub busy : mutex_busy 4 locked_twice ≡ true
  pub once : (unlocked locked_twice).owner ≡ Some 3
  pub free : unlocked (unlocked locked_twice) ≡ new_mutex 1 true

-- a lock of two readers, which seat 0 reads; and one which seat 1 writes
abbrev pub with_reader : Rwl
with_reader = rwl_taken 0 false (new_rwl 1 2)

abbrev pub with_writer : Rwl
with_writer = rwl_taken 1 true (new_rwl 1 2)

pub record WorkedRwls : Type 0 where
  pub writer_beside_reader : rwl_busy true with_reader ≡ true
  pub reader_beside_reader : rwl_busy false with_reader ≡ false
  pub readers_at_limit : rwl_busy false (rwl_taken 2 false with_reader) ≡ true
  pub reader_beside_writer : rwl_busy false with_writer ≡ true
  pub writer_beside_writer : rwl_busy true with_writer ≡ true
  pub reads_twice : first (rwl_look_refusals 0 with_reader) ≡ Some ErrRwlLocked
  pub other_mode : first (rwl_unlock_refusals 0 true with_reader) ≡ Some ErrRwlNotlocked
  pub no_readers : first (rwl_create_refusals 0) ≡ Some ErrParameter
  pub most_readers : first (rwl_create_refusals 32) ≡ None
  pub more_readers : first (rwl_create_refusals 33) ≡ Some ErrParameter

-- a semaphore of two that seats 0 and 1 hold
abbrev pub held_sem : Sem
held_sem = sem_taken 1 (sem_taken 0 (new_sem 1 2))

pub record WorkedSems : Type 0 where
  pub one_left : sem_busy (sem_taken 0 (new_sem 1 2)) ≡ false
  pub none_left : sem_busy held_sem ≡ true
  pub another : first (sem_unlock_refusals 2 held_sem) ≡ Some ErrSemNotlocked
  pub own : first (sem_unlock_refusals 1 held_sem) ≡ None

-- a segment of three cells to which seat 5 is attached
abbrev pub attached : Segment
attached = with_attached 5 true (new_segment 1 3)

pub record WorkedSegments : Type 0 where
  pub zeros : (new_segment 1 3).cells ≡ (pos 0 ∷ pos 0 ∷ pos 0 ∷ [])
  pub written : (with_cell 1 (pos 7) attached).cells ≡ (pos 0 ∷ pos 7 ∷ pos 0 ∷ [])
  pub last_cell : first (cell_refusals 5 2 attached) ≡ None
  pub past_the_end : first (cell_refusals 5 3 attached) ≡ Some ErrParameter
  pub another : first (cell_refusals 6 2 attached) ≡ Some ErrShmNotattached
  pub still_attached : first (shmem_delete_refusals attached) ≡ Some ErrShmAttached
  pub left : first (shmem_delete_refusals (with_attached 5 false attached)) ≡ None

-- a task with these arguments, of a group, in a queue, with the number of its start
abbrev pub worked_asked : NewTask
worked_asked = record { job = 1; args = pos 2 ∷ []; priority = 0; cores = 1; detached = false; group = Some 7; queue = Some 9 }

abbrev pub worked_task_of : ℕ → Task
worked_task_of start = new_task worked_asked start

-- a live task
abbrev pub listed_task : ℕ → Task → Listed Task
listed_task h t = record { handle = h; live = true; fields = t }

-- three tasks, of which the second runs
abbrev pub three : List (Listed Task)
three = listed_task 1 (worked_task_of 0) ∷ listed_task 2 (with_state (Running 0 kind.Echo) (worked_task_of 1)) ∷ listed_task 3 (worked_task_of 2) ∷ []

abbrev pub over_task : ℕ → Task → Task
over_task n t = with_state (Ended Cancelled n) t

pub record WorkedTaskObjects : Type 0 where
  -- those that haven't begun end in the order of their starts, with the numbers 5 and 6
  pub ended_in_order : end_each is_unstarted Cancelled 5 three
      ≡ (listed_task 1 (over_task 5 (worked_task_of 0)) ∷ listed_task 2 (with_state (Running 0 kind.Echo) (worked_task_of 1))
      ∷ listed_task 3 (over_task 6 (worked_task_of 2)) ∷ [])
  pub another_waits : first (task_look_refusals 1 (with_notes (λ n. record (with_waiter (Some 2) n) { group = None }) (worked_task_of 0))) ≡ Some ErrWaitPending
  pub unseen : watch_end (worked_task_of 0) ≡ Completed (pos 2 ∷ [])
  pub seen : watch_end (with_notes (λ n. record n { seen = true }) (worked_task_of 0)) ≡ Cancelled
  pub too_long : watch_end (record (worked_task_of 0) { args = pos 65 ∷ [] }) ≡ Failed ErrActionFailed
  pub no_args : watch_end (record (worked_task_of 0) { args = [] }) ≡ Failed ErrArgSize
  pub longest : watch_end (record (worked_task_of 0) { args = pos 64 ∷ [] }) ≡ Completed (pos 64 ∷ [])
  -- each kind has a number of its own; a tally takes four arguments, of which the last alone may be negative
  pub kinds : map kind_number (kind.Add ∷ kind.Mul ∷ kind.Max ∷ kind.Div ∷ kind.Gcd ∷ kind.Echo ∷ kind.Triangle ∷ kind.Fail ∷ kind.Watch ∷ kind.Tally ∷ [])
      ≡ (1 ∷ 2 ∷ 3 ∷ 4 ∷ 5 ∷ 6 ∷ 7 ∷ 8 ∷ 9 ∷ 10 ∷ [])
  pub four : tally_args (pos 1 ∷ pos 2 ∷ pos 3 ∷ negsuc 4 ∷ []) ≡ Some (record { mutex = 1; segment = 2; cell = 3; number = negsuc 4 })
  pub three : tally_args (pos 1 ∷ pos 2 ∷ pos 3 ∷ []) ≡ None
  pub five : tally_args (pos 1 ∷ pos 2 ∷ pos 3 ∷ pos 4 ∷ pos 5 ∷ []) ≡ None
  pub negative_mutex : tally_args (negsuc 1 ∷ pos 2 ∷ pos 3 ∷ pos 4 ∷ []) ≡ None
  pub negative_segment : tally_args (pos 1 ∷ negsuc 2 ∷ pos 3 ∷ pos 4 ∷ []) ≡ None
  pub negative_cell : tally_args (pos 1 ∷ pos 2 ∷ negsuc 3 ∷ pos 4 ∷ []) ≡ None

-- the second member ended first, and was cancelled; then the first one failed
abbrev pub two_ended : List (ℕ × Task)
two_ended = (1, with_state (Ended (Failed ErrActionFailed) 8) (worked_task_of 0)) ∷ (2, with_state (Ended Cancelled 4) (worked_task_of 1))
    ∷ (3, worked_task_of 2) ∷ []

abbrev pub worked_queue : Bool → Queue
worked_queue ordered = record { id = 1; job = 1; priority = 0; limit = 4; ordered = ordered; retain = false; enabled = true }

pub record WorkedGroupObjects : Type 0 where
  pub in_order_of_ends : endings 7 two_ended
      ≡ (record { task = 2; end = Cancelled; number = 4 } ∷ record { task = 1; end = Failed ErrActionFailed; number = 8 } ∷ [])
  pub fault : first_fault (endings 7 two_ended) ≡ Some ErrTaskCancelled
  pub another : endings 8 two_ended ≡ []

pub record WorkedQueueObjects : Type 0 where
  pub head : lets 9 (worked_task_of 0) ((1, worked_task_of 0) ∷ (2, worked_task_of 1) ∷ []) (worked_queue true) ≡ true
  pub behind : lets 9 (worked_task_of 1) ((1, worked_task_of 0) ∷ (2, worked_task_of 1) ∷ []) (worked_queue true) ≡ false
  pub head_ended : lets 9 (worked_task_of 1) ((1, over_task 0 (worked_task_of 0)) ∷ (2, worked_task_of 1) ∷ []) (worked_queue true) ≡ true
  pub unordered : lets 9 (worked_task_of 1) ((1, worked_task_of 0) ∷ (2, worked_task_of 1) ∷ []) (worked_queue false) ≡ true
  pub disabled : lets 9 (worked_task_of 0) ((1, worked_task_of 0) ∷ []) (opened false (worked_queue false)) ≡ false

pub record WorkedActionObjects : Type 0 where
  pub on_a_worker : has_worker 2 1 2 ((1, new_action 1 kind.Add 2) ∷ []) ≡ true
  pub on_no_worker : has_worker 1 1 2 ((1, new_action 1 kind.Add 2) ∷ []) ≡ false
  pub other_core : has_worker 2 1 1 ((1, new_action 1 kind.Add 2) ∷ []) ≡ false
  pub other_job : has_worker 2 3 2 ((1, new_action 1 kind.Add 2) ∷ []) ≡ false

pub record WorkedObjects : Type 0 where
  pub actions : WorkedActionObjects
  pub tasks : WorkedTaskObjects
  pub groups : WorkedGroupObjects
  pub queues : WorkedQueueObjects
  pub mutexes : WorkedMutexes
  pub sems : WorkedSems
  pub rwls : WorkedRwls
  pub segments : WorkedSegments
