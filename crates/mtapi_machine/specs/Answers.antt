-- The answers to each op: a constructor an outcome, with the reply, the moves that are made, and what was found. Whoever proves a law of
-- entries matches on these, and walks over no row.
use Rattle.std.specs.Prelude.{◌≡◌, ℕ, ◌+◌, Bool, true, false, not, ◌&&◌, ◌||◌, ◌==◌, nat_lt, List, [], ◌∷◌, length, ℤ, pos, Option, Some, None, is_some, if◌then◌else◌}
use Rattle.std.specs.Ordering.{int_eq}
use Rattle.mtapi_machine.specs.Names.{Kind, Mask, MtapiStatus, MrapiStatus, TaskEnd, Completed, Cancelled, Failed, TaskHandle, ActionHandle, GroupHandle, QueueHandle, MutexHandle, SemHandle, RwlHandle, ShmemHandle, all_marked, Answered, fits, live_object, live_of, any_listed, count_listed, first_handle, gone, with_fields, Action, new_action, with_enabled, has_job, is_eligible, Task, NewTask, Scheduled, Running, Ended, is_unended, runs_on, runs_as, with_waiter, cancel_requested, task_look_refusals, finish_refusals, asked_refusals, asked_once, watch_end_refusals, watch_end, Adds, tally_args, cell_in, added, with_tally, tally_failed, tally_has, tally_read, tally_written, Group, new_group, is_unended_member, Ending, endings, first_fault, in_no_group, Queue, opened, is_in, is_unended_in, put_refusals, is_shut_in, Mutex, new_mutex, mutex_delete_refusals, mutex_look_refusals, mutex_busy, locked_by, mutex_unlock_refusals, unlocked, Sem, new_sem, sem_delete_refusals, sem_busy, sem_taken, sem_unlock_refusals, sem_given, Rwl, new_rwl, rwl_delete_refusals, rwl_look_refusals, rwl_busy, rwl_taken, rwl_unlock_refusals, rwl_given, Segment, new_segment, shmem_delete_refusals, attach_refusals, detach_refusals, with_attached, cell_refusals, cell_of, with_cell}
use Rattle.mtapi_values.specs.declared.kinds.Kind.TheVariants as kinds
use Rattle.mtapi_values.specs.declared.statuses.MtapiStatus.TheVariants as m
use Rattle.mtapi_values.specs.declared.statuses.MrapiStatus.TheVariants as c
use Rattle.mtapi_machine.specs.declared.ops.Op.{Op}
use Rattle.mtapi_machine.specs.declared.ops.Op.TheVariants as op
use Rattle.mtapi_machine.specs.declared.replies.Reply.{Reply}
use Rattle.mtapi_machine.specs.declared.replies.Reply.TheVariants as reply
use Rattle.mtapi_machine.specs.declared.terms.Phase.TheVariants.{Open, Closing, Closed}
use Rattle.mtapi_machine.specs.State.{State, workers, is_new, is_open, is_past_open, is_stop, actions, tasks}
use Rattle.mtapi_machine.specs.Moves.{Move, Sort, Groups, Queues, Mutexes, Sems, Rwls, Segments, Fields, all_of, is_fresh, is_served, phase_is, released, stops, makes_action, enables, withdraws, starts_task, runs_task, ends_task, ends_waiting, notes, leaves, frees_members, lets_members_go, makes, alters, removes}
use Rattle.mtapi_machine.specs.Row.{Allows, moves_of}
use Rattle.mtapi_machine.specs.Rows.{row}
use Rattle.mtapi_machine.specs.TaskRows.{asked_for, asked_of}
use Rattle.mtapi_machine.specs.QueueRows.{new_queue}
use Rattle.mtapi_machine.specs.WorkRows.{is_ready, can_take, has_better, task_end}
use Rattle.mtapi_machine.specs.Laws.{all_live}

-- none of these conditions is met
abbrev pub AreUnmet : {C : Type 0} → List (Bool × C) → Type 0
AreUnmet [] = Unit {0}
AreUnmet (x ∷ xs) = (x.0 ≡ false) × AreUnmet xs

-- the ops of MRAPI
abbrev pub is_mrapi : Op → Bool
is_mrapi (op.MutexCreate id recursive) = true
is_mrapi (op.MutexGet id) = true
is_mrapi (op.MutexDelete h) = true
is_mrapi (op.MutexLook h last) = true
is_mrapi (op.MutexUnlock h key) = true
is_mrapi (op.SemCreate id limit) = true
is_mrapi (op.SemGet id) = true
is_mrapi (op.SemDelete h) = true
is_mrapi (op.SemLook h last) = true
is_mrapi (op.SemUnlock h) = true
is_mrapi (op.RwlCreate id limit) = true
is_mrapi (op.RwlGet id) = true
is_mrapi (op.RwlDelete h) = true
is_mrapi (op.RwlLook h writer last) = true
is_mrapi (op.RwlUnlock h writer) = true
is_mrapi (op.ShmemCreate id cells) = true
is_mrapi (op.ShmemGet id) = true
is_mrapi (op.ShmemDelete h) = true
is_mrapi (op.ShmemAttach h) = true
is_mrapi (op.ShmemDetach h) = true
is_mrapi (op.ShmemRead h cell) = true
is_mrapi (op.ShmemWrite h cell value) = true
is_mrapi _ = false

-- a status that refuses: not that for the end of the time, nor that for turns that are used up
abbrev pub is_refusal : MtapiStatus → Bool
is_refusal m.Timeout = false
is_refusal m.ErrSpent = false
is_refusal _ = true

abbrev pub is_caller_refusal : MrapiStatus → Bool
is_caller_refusal c.Timeout = false
is_caller_refusal c.ErrSpent = false
is_caller_refusal _ = true

-- such a status of the op's standard
abbrev pub refuses_with : Op → Reply → Bool
refuses_with o (reply.Mtapi x) = not (is_mrapi o) && is_refusal x
refuses_with o (reply.Mrapi x) = is_mrapi o && is_caller_refusal x
refuses_with o _ = false

-- what a start and an enqueue found
pub record Starts (s : State) (t : NewTask) (h : ℕ) : Type 0 where
  pub up : is_open s.phase ≡ true
  pub grouped : all_live s.groups t.group ≡ true
  pub served : is_served s t.job t.cores ≡ true
  pub fresh : is_fresh tasks s h ≡ true

-- the worker has this live task, which runs so
pub record HasTask (s : State) (who h : ℕ) (x : Task) (k : Kind) : Type 0 where
  pub inside : nat_lt who (workers s) ≡ true
  pub found : live_object s.tasks h ≡ Some x
  pub runs : runs_as who k x ≡ true

-- a caller has this live object, and isn't refused
pub record HasObject (k : Sort) (s : State) (who h : ℕ) (x : Fields k) (causes : List (Bool × MrapiStatus)) : Type 0 where
  pub outside : nat_lt who (workers s) ≡ false
  pub found : live_object ((all_of k).list s) h ≡ Some x
  pub unmet : AreUnmet causes

-- the mutex and the segment that a tally names
pub record HasBoth (s : State) (x : Task) (y : Adds) (a b : ℕ) : Type 0 where
  pub mutex : Mutex
  pub segment : Segment
  pub names : tally_args x.args ≡ Some y
  pub first_mutex : first_handle (λ z. z.id == y.mutex) (live_of s.mutexes) ≡ Some a
  pub first_segment : first_handle (λ z. z.id == y.segment) (live_of s.segments) ≡ Some b
  pub found_mutex : live_object s.mutexes a ≡ Some mutex
  pub found_segment : live_object s.segments b ≡ Some segment
  pub in_cells : nat_lt y.cell (length segment.cells) ≡ true
  pub free : is_some mutex.owner ≡ false

-- with what a tally gives up that finds not both
abbrev pub gives_up_with : MtapiStatus → Bool
gives_up_with m.ErrActionFailed = true
gives_up_with m.ErrArgSize = true
gives_up_with _ = false

-- how a tally ends that has both
abbrev pub tally_verdict : Task → TaskEnd
tally_verdict x = if x.notes.tally.stage == 2 then Failed m.ErrActionFailed else Completed (added x ∷ [])

pub data Answers (s : State) (who : ℕ) : Op → Reply → List Move → Type 0 where
  -- refused: nothing changes
  refuses : (o : Op) (x : MtapiStatus) → refuses_with o (reply.Mtapi x) ≡ true → Answers s who o (reply.Mtapi x) []
  refuses_caller : (o : Op) (x : MrapiStatus) → refuses_with o (reply.Mrapi x) ≡ true → Answers s who o (reply.Mrapi x) []
  -- phases
  opens_node : is_new s.phase ≡ true → Answers s who op.Initialize reply.Ok (phase_is Open ∷ [])
  releases_callers : is_open s.phase ≡ true → Answers s who op.Release reply.Ok (released ∷ [])
  enters_early : is_past_open s.phase ≡ false → s.released ≡ false → Answers s who op.Enter reply.Pending []
  enters_node : is_past_open s.phase ≡ false → s.released ≡ true → Answers s who op.Enter reply.Ok []
  closes_node : is_past_open s.phase ≡ false → Answers s who op.Close reply.Ok (phase_is Closing ∷ ends_waiting (is_shut_in s.queues) Cancelled ∷ [])
  finals_node : is_past_open s.phase ≡ true → all_marked (workers s) s.stopped ≡ true → Answers s who op.Final reply.Ok (phase_is Closed ∷ [])
  -- jobs and actions
  finds_job : (job : ℕ) → any_listed (has_job job) s.actions ≡ true → Answers s who (op.JobGet job) (reply.Number (pos job)) []
  creates_action : (job : ℕ) (kind : Kind) (cores : Mask) (h : ℕ) → is_fresh actions s h ≡ true
      → Answers s who (op.ActionCreate job kind cores) (reply.Handle h) (makes_action h (new_action job kind cores.0) ∷ [])
  deletes_action : (a : ActionHandle) (x : Action) → live_object s.actions a.0 ≡ Some x
      → Answers s who (op.ActionDelete a) reply.Ok (withdraws a.0 gone m.ErrActionDeleted ∷ [])
  disables_action : (a : ActionHandle) (x : Action) → live_object s.actions a.0 ≡ Some x
      → Answers s who (op.ActionDisable a) reply.Ok (withdraws a.0 (with_fields (with_enabled false)) m.ErrActionDisabled ∷ [])
  enables_action : (a : ActionHandle) (x : Action) → live_object s.actions a.0 ≡ Some x → Answers s who (op.ActionEnable a) reply.Ok (enables a.0 ∷ [])
  -- starts
  starts : (job : ℕ) (args : List ℤ) (priority : ℕ) (cores : Mask) (detached : Bool) (group : Option GroupHandle) (h : ℕ)
      → Starts s (asked_for job args priority cores detached group) h
      → Answers s who (op.TaskStart job args priority cores detached group) (reply.Handle h) (starts_task h (asked_for job args priority cores detached group)
      ∷ [])
  enqueues : (q : QueueHandle) (args : List ℤ) (cores : Mask) (detached : Bool) (group : Option GroupHandle) (h : ℕ) (x : Queue)
      → live_object s.queues q.0 ≡ Some x → AreUnmet (put_refusals x) → Starts s (asked_of q.0 x args cores detached group) h
      → (count_listed (is_unended_in q.0) s.tasks == x.limit) ≡ false
      → Answers s who (op.TaskEnqueue q args cores detached group) (reply.Handle h) (starts_task h (asked_of q.0 x args cores detached group) ∷ [])
  -- looks at a task, and cancelling
  looks_over : (t : TaskHandle) (last : Bool) (x : Task) (e : TaskEnd) (n : ℕ) → live_object s.tasks t.0 ≡ Some x → AreUnmet (task_look_refusals who x)
      → x.state ≡ Ended e n → Answers s who (op.TaskLook t last) (reply.Ended e) (leaves t.0 ∷ [])
  looks_early : (t : TaskHandle) (x : Task) → live_object s.tasks t.0 ≡ Some x → AreUnmet (task_look_refusals who x) → is_unended x ≡ true
      → Answers s who (op.TaskLook t false) reply.Pending (notes t.0 (with_waiter (Some who)) ∷ [])
  looks_last : (t : TaskHandle) (x : Task) → live_object s.tasks t.0 ≡ Some x → AreUnmet (task_look_refusals who x) → is_unended x ≡ true
      → Answers s who (op.TaskLook t true) (reply.Mtapi m.Timeout) (notes t.0 (with_waiter None) ∷ [])
  cancels_waiting : (t : TaskHandle) (x : Task) → live_object s.tasks t.0 ≡ Some x → x.state ≡ Scheduled
      → Answers s who (op.TaskCancel t) reply.Ok (ends_task t.0 Cancelled ∷ [])
  cancels_running : (t : TaskHandle) (x : Task) (w : ℕ) (k : Kind) → live_object s.tasks t.0 ≡ Some x → x.state ≡ Running w k
      → Answers s who (op.TaskCancel t) reply.Ok (notes t.0 cancel_requested ∷ [])
  cancels_over : (t : TaskHandle) (x : Task) (e : TaskEnd) (n : ℕ) → live_object s.tasks t.0 ≡ Some x → x.state ≡ Ended e n
      → Answers s who (op.TaskCancel t) reply.Ok []
  -- groups
  creates_group : (h : ℕ) → is_fresh (all_of Groups) s h ≡ true → Answers s who op.GroupCreate (reply.Handle h) (makes Groups h new_group ∷ [])
  deletes_group : (g : GroupHandle) (x : Group) → live_object s.groups g.0 ≡ Some x
      → Answers s who (op.GroupDelete g) reply.Ok (lets_members_go g.0 ∷ removes Groups g.0 ∷ [])
  all_early : (g : GroupHandle) (x : Group) → live_object s.groups g.0 ≡ Some x → any_listed (is_unended_member g.0) s.tasks ≡ true
      → Answers s who (op.AllLook g false) reply.Pending []
  all_late : (g : GroupHandle) → Answers s who (op.AllLook g true) (reply.Mtapi m.Timeout) []
  all_well : (g : GroupHandle) (last : Bool) (x : Group) → live_object s.groups g.0 ≡ Some x → any_listed (is_unended_member g.0) s.tasks ≡ false
      → first_fault (endings g.0 (live_of s.tasks)) ≡ None → Answers s who (op.AllLook g last) reply.Ok (frees_members g.0 ∷ [])
  all_faulty : (g : GroupHandle) (last : Bool) (x : Group) (c : MtapiStatus) → live_object s.groups g.0 ≡ Some x
      → any_listed (is_unended_member g.0) s.tasks ≡ false → first_fault (endings g.0 (live_of s.tasks)) ≡ Some c
      → Answers s who (op.AllLook g last) (reply.Mtapi c) (frees_members g.0 ∷ [])
  any_early : (g : GroupHandle) (x : Group) → live_object s.groups g.0 ≡ Some x → endings g.0 (live_of s.tasks) ≡ []
      → Answers s who (op.AnyLook g false) reply.Pending []
  any_late : (g : GroupHandle) → Answers s who (op.AnyLook g true) (reply.Mtapi m.Timeout) []
  any_given : (g : GroupHandle) (last : Bool) (x : Group) (y : Ending) (ys : List Ending) (t : Task) (e : TaskEnd) (n : ℕ) → live_object s.groups g.0 ≡ Some x
      → endings g.0 (live_of s.tasks) ≡ y ∷ ys → live_object s.tasks y.task ≡ Some t → t.state ≡ Ended e n
      → Answers s who (op.AnyLook g last) (reply.Given (record { 0 = y.task }) e) (notes y.task in_no_group ∷ leaves y.task ∷ [])
  -- queues
  creates_queue : (id job priority limit : ℕ) (ordered retain : Bool) (h : ℕ) → any_listed (λ y. y.id == id) s.queues ≡ false
      → is_fresh (all_of Queues) s h ≡ true
      → Answers s who (op.QueueCreate id job priority limit ordered retain) (reply.Handle h) (makes Queues h (new_queue id job priority limit ordered retain)
      ∷ [])
  gets_queue : (id h : ℕ) → first_handle (λ y. y.id == id) (live_of s.queues) ≡ Some h → Answers s who (op.QueueGet id) (reply.Handle h) []
  enables_queue : (q : QueueHandle) (x : Queue) → live_object s.queues q.0 ≡ Some x
      → Answers s who (op.QueueEnable q) reply.Ok (alters Queues q.0 (opened true) ∷ [])
  retains_queue : (q : QueueHandle) (x : Queue) → live_object s.queues q.0 ≡ Some x → x.retain ≡ true
      → Answers s who (op.QueueDisable q) reply.Ok (alters Queues q.0 (opened false) ∷ [])
  disables_queue : (q : QueueHandle) (x : Queue) → live_object s.queues q.0 ≡ Some x → x.retain ≡ false
      → Answers s who (op.QueueDisable q) reply.Ok (alters Queues q.0 (opened false) ∷ ends_waiting (is_in q.0) Cancelled ∷ [])
  deletes_queue : (q : QueueHandle) (x : Queue) → live_object s.queues q.0 ≡ Some x
      → Answers s who (op.QueueDelete q) reply.Ok (ends_waiting (is_in q.0) (Failed m.ErrQueueDeleted) ∷ removes Queues q.0 ∷ [])
  -- work
  idles_in_new : is_new s.phase ≡ true → Answers s who op.Pick reply.Idle []
  idles : any_listed (can_take s who) s.tasks ≡ false → Answers s who op.Pick reply.Idle []
  stops_worker : nat_lt who (workers s) ≡ true → any_listed (runs_on who) s.tasks ≡ false → is_stop s ≡ true → Answers s who op.Pick reply.Stop (stops who ∷ [])
  picks : (t : TaskHandle) (a : ActionHandle) (x : Task) (y : Action) → nat_lt who (workers s) ≡ true → any_listed (runs_on who) s.tasks ≡ false
      → live_object s.tasks t.0 ≡ Some x → live_object s.actions a.0 ≡ Some y
      → is_ready s x ≡ true → is_eligible (workers s) who x.job x.cores y ≡ true → has_better s who x.priority ≡ false
      → Answers s who op.Pick (reply.Picked t a y.kind x.args) (runs_task t.0 who y.kind ∷ [])
  finishes : (t : TaskHandle) (done : Answered) (x : Task) → HasTask s who t.0 x done.kind → AreUnmet (finish_refusals who done.kind done.args x)
      → Answers s who (op.Finish t done) reply.Ok (ends_task t.0 (task_end done.end) ∷ [])
  asks : (t : TaskHandle) (x : Task) → HasTask s who t.0 x kinds.Watch → AreUnmet (asked_refusals who x)
      → Answers s who (op.Asked t) (reply.Asked x.notes.requested) (notes t.0 asked_once ∷ [])
  ends_watch : (t : TaskHandle) (x : Task) → HasTask s who t.0 x kinds.Watch → AreUnmet (watch_end_refusals who x)
      → Answers s who (op.WatchEnd t) (reply.Ended (watch_end x)) (ends_task t.0 (watch_end x) ∷ [])
  -- tallies
  lock_early : (t : TaskHandle) (x : Task) → HasTask s who t.0 x kinds.Tally → (x.notes.tally.stage == 0) ≡ true
      → Answers s who (op.TallyLock t) reply.Pending []
  lock_fails : (t : TaskHandle) (x : Task) (c : MtapiStatus) → HasTask s who t.0 x kinds.Tally → (x.notes.tally.stage == 0) ≡ true → gives_up_with c ≡ true
      → Answers s who (op.TallyLock t) (reply.Asked false) (notes t.0 (with_tally (tally_failed c)) ∷ [])
  lock_got : (t : TaskHandle) (x : Task) (y : Adds) (a b : ℕ) → HasTask s who t.0 x kinds.Tally → (x.notes.tally.stage == 0) ≡ true → HasBoth s x y a b
      → Answers s who (op.TallyLock t) (reply.Asked true) (alters Mutexes a (locked_by who) ∷ alters Segments b (with_attached who true)
      ∷ notes t.0 (with_tally (tally_has a b)) ∷ [])
  tally_reads : (t : TaskHandle) (x : Task) (y : Segment) → HasTask s who t.0 x kinds.Tally → (x.notes.tally.stage == 1) ≡ true
      → live_object s.segments x.notes.tally.segment ≡ Some y
      → Answers s who (op.TallyRead t) (reply.Number (cell_of (cell_in (tally_args x.args)) y))
      (notes t.0 (with_tally (tally_read (cell_of (cell_in (tally_args x.args)) y))) ∷ [])
  tally_writes : (t : TaskHandle) (value : ℤ) (x : Task) (y : Segment) → HasTask s who t.0 x kinds.Tally
      → (not (x.notes.tally.stage == 2) || not (int_eq value (added x))) ≡ false → live_object s.segments x.notes.tally.segment ≡ Some y
      → Answers s who (op.TallyWrite t value) reply.Ok (alters Segments x.notes.tally.segment (with_cell (cell_in (tally_args x.args)) value)
      ∷ notes t.0 (with_tally tally_written) ∷ [])
  tally_ends_failed : (t : TaskHandle) (x : Task) → HasTask s who t.0 x kinds.Tally → (x.notes.tally.stage == 4) ≡ true
      → Answers s who (op.TallyEnd t) (reply.Ended x.notes.tally.verdict) (ends_task t.0 x.notes.tally.verdict ∷ [])
  tally_ends : (t : TaskHandle) (x : Task) (y : Segment) (z : Mutex) → HasTask s who t.0 x kinds.Tally
      → (nat_lt x.notes.tally.stage 2 || ((x.notes.tally.stage == 2) && fits (added x))) ≡ false → (x.notes.tally.stage == 4) ≡ false
      → live_object s.segments x.notes.tally.segment ≡ Some y → live_object s.mutexes x.notes.tally.mutex ≡ Some z
      → Answers s who (op.TallyEnd t) (reply.Ended (tally_verdict x)) (alters Segments x.notes.tally.segment (with_attached who false)
      ∷ alters Mutexes x.notes.tally.mutex unlocked ∷ ends_task t.0 (tally_verdict x) ∷ [])
  -- mutexes
  creates_mutex : (id : ℕ) (recursive : Bool) (h : ℕ) → any_listed (λ y. y.id == id) s.mutexes ≡ false → is_fresh (all_of Mutexes) s h ≡ true
      → Answers s who (op.MutexCreate id recursive) (reply.Handle h) (makes Mutexes h (new_mutex id recursive) ∷ [])
  gets_mutex : (id h : ℕ) → first_handle (λ y. y.id == id) (live_of s.mutexes) ≡ Some h → Answers s who (op.MutexGet id) (reply.Handle h) []
  deletes_mutex : (h : MutexHandle) (x : Mutex) → HasObject Mutexes s who h.0 x (mutex_delete_refusals x)
      → Answers s who (op.MutexDelete h) reply.Ok (removes Mutexes h.0 ∷ [])
  mutex_early : (h : MutexHandle) (x : Mutex) → HasObject Mutexes s who h.0 x (mutex_look_refusals who x) → mutex_busy who x ≡ true
      → Answers s who (op.MutexLook h false) reply.Pending []
  mutex_late : (h : MutexHandle) → Answers s who (op.MutexLook h true) (reply.Mrapi c.Timeout) []
  locks_mutex : (h : MutexHandle) (last : Bool) (x : Mutex) → HasObject Mutexes s who h.0 x (mutex_look_refusals who x) → mutex_busy who x ≡ false
      → Answers s who (op.MutexLook h last) (reply.Number (pos (x.depth + 1))) (alters Mutexes h.0 (locked_by who) ∷ [])
  unlocks_mutex : (h : MutexHandle) (key : ℕ) (x : Mutex) → HasObject Mutexes s who h.0 x (mutex_unlock_refusals who key x)
      → Answers s who (op.MutexUnlock h key) reply.Ok (alters Mutexes h.0 unlocked ∷ [])
  -- semaphores
  creates_sem : (id limit h : ℕ) → any_listed (λ y. y.id == id) s.sems ≡ false → is_fresh (all_of Sems) s h ≡ true
      → Answers s who (op.SemCreate id limit) (reply.Handle h) (makes Sems h (new_sem id limit) ∷ [])
  gets_sem : (id h : ℕ) → first_handle (λ y. y.id == id) (live_of s.sems) ≡ Some h → Answers s who (op.SemGet id) (reply.Handle h) []
  deletes_sem : (h : SemHandle) (x : Sem) → HasObject Sems s who h.0 x (sem_delete_refusals x) → Answers s who (op.SemDelete h) reply.Ok (removes Sems h.0 ∷ [])
  sem_early : (h : SemHandle) (x : Sem) → HasObject Sems s who h.0 x [] → sem_busy x ≡ true → Answers s who (op.SemLook h false) reply.Pending []
  sem_late : (h : SemHandle) → Answers s who (op.SemLook h true) (reply.Mrapi c.Timeout) []
  takes_sem : (h : SemHandle) (last : Bool) (x : Sem) → HasObject Sems s who h.0 x [] → sem_busy x ≡ false
      → Answers s who (op.SemLook h last) reply.Ok (alters Sems h.0 (sem_taken who) ∷ [])
  gives_sem : (h : SemHandle) (x : Sem) → HasObject Sems s who h.0 x (sem_unlock_refusals who x)
      → Answers s who (op.SemUnlock h) reply.Ok (alters Sems h.0 (sem_given who) ∷ [])
  -- reader-writer locks
  creates_rwl : (id limit h : ℕ) → any_listed (λ y. y.id == id) s.rwls ≡ false → is_fresh (all_of Rwls) s h ≡ true
      → Answers s who (op.RwlCreate id limit) (reply.Handle h) (makes Rwls h (new_rwl id limit) ∷ [])
  gets_rwl : (id h : ℕ) → first_handle (λ y. y.id == id) (live_of s.rwls) ≡ Some h → Answers s who (op.RwlGet id) (reply.Handle h) []
  deletes_rwl : (h : RwlHandle) (x : Rwl) → HasObject Rwls s who h.0 x (rwl_delete_refusals x) → Answers s who (op.RwlDelete h) reply.Ok (removes Rwls h.0 ∷ [])
  rwl_early : (h : RwlHandle) (writer : Bool) (x : Rwl) → HasObject Rwls s who h.0 x (rwl_look_refusals who x) → rwl_busy writer x ≡ true
      → Answers s who (op.RwlLook h writer false) reply.Pending []
  rwl_late : (h : RwlHandle) (writer : Bool) → Answers s who (op.RwlLook h writer true) (reply.Mrapi c.Timeout) []
  takes_rwl : (h : RwlHandle) (writer last : Bool) (x : Rwl) → HasObject Rwls s who h.0 x (rwl_look_refusals who x) → rwl_busy writer x ≡ false
      → Answers s who (op.RwlLook h writer last) reply.Ok (alters Rwls h.0 (rwl_taken who writer) ∷ [])
  gives_rwl : (h : RwlHandle) (writer : Bool) (x : Rwl) → HasObject Rwls s who h.0 x (rwl_unlock_refusals who writer x)
      → Answers s who (op.RwlUnlock h writer) reply.Ok (alters Rwls h.0 (rwl_given who writer) ∷ [])
  -- segments
  creates_segment : (id cells h : ℕ) → any_listed (λ y. y.id == id) s.segments ≡ false → is_fresh (all_of Segments) s h ≡ true
      → Answers s who (op.ShmemCreate id cells) (reply.Handle h) (makes Segments h (new_segment id cells) ∷ [])
  gets_segment : (id h : ℕ) → first_handle (λ y. y.id == id) (live_of s.segments) ≡ Some h → Answers s who (op.ShmemGet id) (reply.Handle h) []
  deletes_segment : (h : ShmemHandle) (x : Segment) → HasObject Segments s who h.0 x (shmem_delete_refusals x)
      → Answers s who (op.ShmemDelete h) reply.Ok (removes Segments h.0 ∷ [])
  attaches : (h : ShmemHandle) (x : Segment) → HasObject Segments s who h.0 x (attach_refusals who x)
      → Answers s who (op.ShmemAttach h) reply.Ok (alters Segments h.0 (with_attached who true) ∷ [])
  detaches : (h : ShmemHandle) (x : Segment) → HasObject Segments s who h.0 x (detach_refusals who x)
      → Answers s who (op.ShmemDetach h) reply.Ok (alters Segments h.0 (with_attached who false) ∷ [])
  reads_cell : (h : ShmemHandle) (cell : ℕ) (x : Segment) → HasObject Segments s who h.0 x (cell_refusals who cell x)
      → Answers s who (op.ShmemRead h cell) (reply.Number (cell_of cell x)) []
  writes_cell : (h : ShmemHandle) (cell : ℕ) (value : ℤ) (x : Segment) → HasObject Segments s who h.0 x (cell_refusals who cell x)
      → Answers s who (op.ShmemWrite h cell value) reply.Ok (alters Segments h.0 (with_cell cell value) ∷ [])

abbrev pub RowsAnswer : Type 0
RowsAnswer = (s : State) (who : ℕ) (o : Op) (r : Reply) → Allows (row s who o r) r → Answers s who o r (moves_of (row s who o r))
