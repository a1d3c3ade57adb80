-- Worked rows of the words of the laws: which ops, replies and entries each of them takes, of every op and every reply, with values that all
-- differ. Each is decided by computing.
use Rattle.std.specs.Prelude.{◌≡◌, ℕ, Bool, true, false, not, List, [], ◌∷◌, map, pos, Some, None}
use Rattle.std.specs.List.{filter, filter_map}
use Rattle.mtapi_values.specs.declared.kinds.Kind.TheVariants as kind
use Rattle.mtapi_values.specs.declared.handles.ObjectKind.TheVariants as object
use Rattle.mtapi_values.specs.declared.statuses.MtapiStatus.TheVariants as status
use Rattle.mtapi_values.specs.declared.statuses.MrapiStatus.TheVariants.{ErrSemLocked}
use Rattle.history_law.specs.Names.{TaskEnd, Completed, Cancelled, Failed, Mask, Done, entry, Listed, Task, Scheduled, Running, new_task, with_state, with_notes, no_tally, Op, Reply, NodeEntry, action, group, queue, mutex, sem, rwl, segment}
use Rattle.mtapi_objects.specs.Tasks.{Ended}
use Rattle.mtapi_machine.specs.declared.ops.Op.TheVariants as op
use Rattle.mtapi_machine.specs.declared.replies.Reply.TheVariants as reply
use Rattle.mtapi_machine.specs.Tables.{task}
use Rattle.history_law.specs.Words.{some_entry, entries_that, makes_object, is_this_handle, issues}
use Rattle.history_law.specs.Accepted.{accepted_by, issued_by}
use Rattle.history_law.specs.Affinity.{task_mask, action_mask}
use Rattle.history_law.specs.Order.{looks_for_any, is_given, gives_task, number_at}
use Rattle.history_law.specs.Ordered.{asks_ordered, makes_ordered, puts_this_into, puts_task, is_pick_of, is_picked, picks_task}
use Rattle.history_law.specs.Seats.{moves_phase, is_release_op, is_late_end, says_ok, says_stop, is_released, is_stop_of, closes}
use Rattle.history_law.specs.Told.{end_told, given_told, done_told, told_by}
use Rattle.history_law.specs.Exclusion.{by_seat, looks_at_mutex, unlocks_mutex, says_number, gets_mutex, gives_mutex, says_end, is_tally_end, ends_tally, looks_at_sem, unlocks_sem, gets_sem, gives_sem, limit_in_op, looks_at_rwl, unlocks_rwl, gets_rwl, gives_rwl}
use Rattle.history_law.specs.Tally.{record_of, adds_to, is_completed, number_added, sum_of, is_write, writes_to}
use Rattle.history_law.specs.TallyHolds.{got_both}
use Rattle.history_law.specs.Quiet.{is_quiet, task_at}

-- the cores 1 and 2 of a task that is started, 0 and 2 of one that is enqueued, and 0 and 1 of an action
abbrev pub started_on : Mask
started_on = record { 0 = 6 }

abbrev pub enqueued_on : Mask
enqueued_on = record { 0 = 5 }

abbrev pub made_on : Mask
made_on = record { 0 = 3 }

-- the ops that make an object
abbrev pub new_action_op : Op
new_action_op = op.ActionCreate 2 kind.Max made_on

abbrev pub starts_op : Op
starts_op = op.TaskStart 2 (pos 8 ∷ []) 4 started_on true (Some (group 11))

abbrev pub enqueues : ℕ → Op
enqueues q = op.TaskEnqueue (queue q) (pos 9 ∷ []) enqueued_on true (Some (group 12))

abbrev pub new_queue_op : Bool → Op
new_queue_op ordered = op.QueueCreate 13 2 4 14 ordered true

abbrev pub makes_mutex : Op
makes_mutex = op.MutexCreate 15 true

abbrev pub makes_sem : Op
makes_sem = op.SemCreate 16 17

abbrev pub makes_rwl : Op
makes_rwl = op.RwlCreate 18 19

abbrev pub makes_segment : Op
makes_segment = op.ShmemCreate 20 21

-- a worker says that the task of this handle answered 22
abbrev pub finishes : ℕ → Op
finishes h = op.Finish (task h) (record { kind = kind.Add; args = pos 22 ∷ []; end = Done (pos 22 ∷ []) })

-- every op, of the object of this handle where it names one
abbrev pub ops_at : ℕ → List Op
ops_at h =
    op.Initialize
    ∷ op.Release
    ∷ op.Enter
    ∷ op.Close
    ∷ op.Final
    ∷ op.JobGet 2
    ∷ new_action_op
    ∷ op.ActionDelete (action h)
    ∷ op.ActionDisable (action h)
    ∷ op.ActionEnable (action h)
    ∷ starts_op
    ∷ enqueues h
    ∷ op.TaskLook (task h) true
    ∷ op.TaskCancel (task h)
    ∷ op.GroupCreate
    ∷ op.GroupDelete (group h)
    ∷ op.AllLook (group h) true
    ∷ op.AnyLook (group h) true
    ∷ new_queue_op true
    ∷ new_queue_op false
    ∷ op.QueueGet h
    ∷ op.QueueEnable (queue h)
    ∷ op.QueueDisable (queue h)
    ∷ op.QueueDelete (queue h)
    ∷ op.Pick
    ∷ finishes h
    ∷ op.Asked (task h)
    ∷ op.WatchEnd (task h)
    ∷ op.TallyLock (task h)
    ∷ op.TallyRead (task h)
    ∷ op.TallyWrite (task h) (pos 23)
    ∷ op.TallyEnd (task h)
    ∷ makes_mutex
    ∷ op.MutexGet h
    ∷ op.MutexDelete (mutex h)
    ∷ op.MutexLook (mutex h) true
    ∷ op.MutexUnlock (mutex h) 24
    ∷ makes_sem
    ∷ op.SemGet h
    ∷ op.SemDelete (sem h)
    ∷ op.SemLook (sem h) true
    ∷ op.SemUnlock (sem h)
    ∷ makes_rwl
    ∷ op.RwlGet h
    ∷ op.RwlDelete (rwl h)
    ∷ op.RwlLook (rwl h) true false
    ∷ op.RwlLook (rwl h) false true
    ∷ op.RwlUnlock (rwl h) true
    ∷ op.RwlUnlock (rwl h) false
    ∷ makes_segment
    ∷ op.ShmemGet h
    ∷ op.ShmemDelete (segment h)
    ∷ op.ShmemAttach (segment h)
    ∷ op.ShmemDetach (segment h)
    ∷ op.ShmemRead (segment h) 25
    ∷ op.ShmemWrite (segment h) 25 (pos 26)
    ∷ []

-- the ops of the object 7 that pass
abbrev pub ops_that : (Op → Bool) → List Op
ops_that p = filter p (ops_at 7)

-- which ops a word takes, whatever their objects
pub record WorkedOps : Type 0 where
  pub unquiet : ops_that (λ o. not (is_quiet o))
      ≡ op.ActionDelete (action 7)
      ∷ op.ActionDisable (action 7)
      ∷ op.ActionEnable (action 7)
      ∷ op.TaskCancel (task 7)
      ∷ op.GroupDelete (group 7)
      ∷ op.AnyLook (group 7) true
      ∷ op.QueueEnable (queue 7)
      ∷ op.QueueDisable (queue 7)
      ∷ op.QueueDelete (queue 7)
      ∷ []
  pub action : ops_that (makes_object object.Action) ≡ new_action_op ∷ []
  pub tasks : ops_that (makes_object object.Task) ≡ starts_op ∷ enqueues 7 ∷ []
  pub group : ops_that (makes_object object.Group) ≡ op.GroupCreate ∷ []
  pub queues : ops_that (makes_object object.Queue) ≡ new_queue_op true ∷ new_queue_op false ∷ []
  pub mutex : ops_that (makes_object object.Mutex) ≡ makes_mutex ∷ []
  pub sem : ops_that (makes_object object.Sem) ≡ makes_sem ∷ []
  pub rwl : ops_that (makes_object object.Rwl) ≡ makes_rwl ∷ []
  pub segment : ops_that (makes_object object.Shmem) ≡ makes_segment ∷ []
  pub phase : ops_that moves_phase ≡ op.Initialize ∷ op.Close ∷ op.Final ∷ []
  pub release : ops_that is_release_op ≡ op.Release ∷ []
  pub closing : ops_that closes ≡ op.Close ∷ op.Final ∷ []
  pub pick : ops_that is_pick_of ≡ op.Pick ∷ []
  pub ordered : ops_that asks_ordered ≡ new_queue_op true ∷ []
  pub task_masks : filter_map task_mask (ops_at 7) ≡ 6 ∷ 5 ∷ []
  pub action_masks : filter_map action_mask (ops_at 7) ≡ 3 ∷ []
  pub limits : filter_map limit_in_op (ops_at 7) ≡ 17 ∷ 19 ∷ []
  pub accepted : filter_map (λ o. accepted_by o (reply.Handle 27)) (ops_at 7) ≡ 27 ∷ 27 ∷ []
  pub quiet_kinds : map (λ k. is_quiet (op.ActionCreate 2 k made_on)) (kind.Add ∷ kind.Fail ∷ kind.Watch ∷ kind.Tally ∷ []) ≡ (true ∷ true ∷ false ∷ false ∷ [])

-- which ops a word takes of the object of a handle, and that it takes none of another's
pub record WorkedHandled : Type 0 where
  pub any_look : ops_that (looks_for_any 7) ≡ op.AnyLook (group 7) true ∷ []
  pub put : ops_that (puts_this_into 7) ≡ enqueues 7 ∷ []
  pub mutex_look : ops_that (looks_at_mutex 7) ≡ op.MutexLook (mutex 7) true ∷ []
  pub mutex_unlock : ops_that (unlocks_mutex 7) ≡ op.MutexUnlock (mutex 7) 24 ∷ []
  pub tally_end : ops_that (is_tally_end 7) ≡ op.TallyEnd (task 7) ∷ []
  pub sem_look : ops_that (looks_at_sem 7) ≡ op.SemLook (sem 7) true ∷ []
  pub sem_unlock : ops_that (unlocks_sem 7) ≡ op.SemUnlock (sem 7) ∷ []
  pub writer_look : ops_that (looks_at_rwl 7 true) ≡ op.RwlLook (rwl 7) true false ∷ []
  pub reader_look : ops_that (looks_at_rwl 7 false) ≡ op.RwlLook (rwl 7) false true ∷ []
  pub writer_unlock : ops_that (unlocks_rwl 7 true) ≡ op.RwlUnlock (rwl 7) true ∷ []
  pub reader_unlock : ops_that (unlocks_rwl 7 false) ≡ op.RwlUnlock (rwl 7) false ∷ []
  pub write : ops_that (is_write 7 25) ≡ op.ShmemWrite (segment 7) 25 (pos 26) ∷ []
  pub other_cell : ops_that (is_write 7 26) ≡ []
  pub others : map ops_that (looks_for_any 6 ∷ puts_this_into 6 ∷ looks_at_mutex 6 ∷ unlocks_mutex 6 ∷ is_tally_end 6 ∷ looks_at_sem 6 ∷ unlocks_sem 6 ∷ [])
      ≡ ([] ∷ [] ∷ [] ∷ [] ∷ [] ∷ [] ∷ [] ∷ [])
  pub other_locks : map ops_that (looks_at_rwl 6 true ∷ looks_at_rwl 6 false ∷ unlocks_rwl 6 true ∷ unlocks_rwl 6 false ∷ is_write 6 25 ∷ [])
      ≡ ([] ∷ [] ∷ [] ∷ [] ∷ [] ∷ [])

-- an end, and every reply, with what it names
abbrev pub an_end : TaskEnd
an_end = Completed (pos 31 ∷ [])

abbrev pub every_reply : List Reply
every_reply =
    reply.Ok
    ∷ reply.Handle 7
    ∷ reply.Handle 6
    ∷ reply.Number (pos 32)
    ∷ reply.Ended an_end
    ∷ reply.Given (task 7) Cancelled
    ∷ reply.Given (task 6) an_end
    ∷ reply.Pending
    ∷ reply.Picked (task 7) (action 33) kind.Max (pos 34 ∷ [])
    ∷ reply.Picked (task 6) (action 7) kind.Max (pos 34 ∷ [])
    ∷ reply.Idle
    ∷ reply.Stop
    ∷ reply.Asked true
    ∷ reply.Asked false
    ∷ reply.Mtapi status.ErrTaskLimit
    ∷ reply.Mrapi ErrSemLocked
    ∷ []

-- which replies a word takes, and what it reads from them
pub record WorkedWordReplies : Type 0 where
  pub handle : filter (is_this_handle 7) every_reply ≡ reply.Handle 7 ∷ []
  pub ok : filter says_ok every_reply ≡ reply.Ok ∷ []
  pub stop : filter says_stop every_reply ≡ reply.Stop ∷ []
  pub number : filter says_number every_reply ≡ reply.Number (pos 32) ∷ []
  pub end : filter says_end every_reply ≡ reply.Ended an_end ∷ []
  pub given : filter (is_given 7) every_reply ≡ reply.Given (task 7) Cancelled ∷ []
  pub picked : filter (is_picked 7) every_reply ≡ reply.Picked (task 7) (action 33) kind.Max (pos 34 ∷ []) ∷ []
  pub issued : filter_map issued_by every_reply ≡ 7 ∷ 6 ∷ []
  pub told : filter_map end_told every_reply ≡ an_end ∷ []
  pub told_of_group : filter_map (given_told 7) every_reply ≡ Cancelled ∷ []
  pub told_when_done : filter_map (done_told Cancelled) every_reply ≡ Cancelled ∷ []
  pub late : map is_late_end (Failed status.Timeout ∷ Failed status.ErrSpent ∷ Failed status.ErrActionFailed ∷ Cancelled ∷ an_end ∷ [])
      ≡ (true ∷ true ∷ false ∷ false ∷ false ∷ [])
  -- the end that each op tells by the replies Ended, Given and Ok
  pub by_ended : filter_map (λ o. told_by 7 o (reply.Ended an_end)) (ops_at 7) ≡ an_end ∷ an_end ∷ an_end ∷ []
  pub by_given : filter_map (λ o. told_by 7 o (reply.Given (task 7) Cancelled)) (ops_at 5) ≡ Cancelled ∷ []
  pub by_ok : filter_map (λ o. told_by 7 o reply.Ok) (ops_at 7) ≡ Completed (pos 22 ∷ []) ∷ []
  pub by_look : told_by 7 (op.TaskLook (task 7) true) (reply.Ended an_end) ≡ Some an_end
  pub by_watch : told_by 7 (op.WatchEnd (task 7)) (reply.Ended an_end) ≡ Some an_end
  pub by_tally : told_by 7 (op.TallyEnd (task 7)) (reply.Ended an_end) ≡ Some an_end
  pub of_another : filter_map (λ o. told_by 6 o (reply.Ended an_end)) (ops_at 7) ≡ []
  pub ok_of_another : filter_map (λ o. told_by 6 o reply.Ok) (ops_at 7) ≡ []

-- this op by seat 1 with these replies passes so
abbrev pub by : (NodeEntry → Bool) → Op → List Reply → List Bool
by p o rs = map (λ r. p (entry 1 o r)) rs

-- an entry passes by its op and its reply together
pub record WorkedEntries : Type 0 where
  pub issue : by (issues object.Sem 7) makes_sem (reply.Handle 7 ∷ reply.Handle 6 ∷ reply.Pending ∷ []) ≡ (true ∷ false ∷ false ∷ [])
  pub no_issue : by (issues object.Sem 7) makes_rwl (reply.Handle 7 ∷ []) ≡ (false ∷ [])
  pub give : by (gives_task 7 6) (op.AnyLook (group 7) false) (reply.Given (task 6) an_end ∷ reply.Given (task 7) an_end ∷ []) ≡ (true ∷ false ∷ [])
  pub no_give : by (gives_task 7 6) (op.AnyLook (group 6) false) (reply.Given (task 6) an_end ∷ []) ≡ (false ∷ [])
  pub make_ordered : by (makes_ordered 7) (new_queue_op true) (reply.Handle 7 ∷ reply.Handle 6 ∷ []) ≡ (true ∷ false ∷ [])
  pub not_ordered : by (makes_ordered 7) (new_queue_op false) (reply.Handle 7 ∷ []) ≡ (false ∷ [])
  pub put : by (puts_task 7 6) (enqueues 7) (reply.Handle 6 ∷ reply.Handle 7 ∷ []) ≡ (true ∷ false ∷ [])
  pub no_put : by (puts_task 7 6) (enqueues 6) (reply.Handle 6 ∷ []) ≡ (false ∷ [])
  pub pick : by (picks_task 6) op.Pick (reply.Picked (task 6) (action 7) kind.Max [] ∷ reply.Picked (task 7) (action 6) kind.Max [] ∷ []) ≡ (true ∷ false ∷ [])
  pub no_pick : by (picks_task 6) op.Enter (reply.Picked (task 6) (action 7) kind.Max [] ∷ []) ≡ (false ∷ [])
  pub released : by is_released op.Release (reply.Ok ∷ reply.Pending ∷ []) ≡ (true ∷ false ∷ [])
  pub not_released : by is_released op.Enter (reply.Ok ∷ []) ≡ (false ∷ [])
  pub stop : by (is_stop_of 1) op.Pick (reply.Stop ∷ reply.Idle ∷ []) ≡ (true ∷ false ∷ [])
  pub other_stop : by (is_stop_of 0) op.Pick (reply.Stop ∷ []) ≡ (false ∷ [])
  pub got_mutex : by (gets_mutex 7) (op.MutexLook (mutex 7) false) (reply.Number (pos 1) ∷ reply.Ok ∷ reply.Pending ∷ []) ≡ (true ∷ false ∷ false ∷ [])
  pub gave_mutex : by (gives_mutex 7) (op.MutexUnlock (mutex 7) 1) (reply.Ok ∷ reply.Number (pos 1) ∷ reply.Pending ∷ []) ≡ (true ∷ false ∷ false ∷ [])
  pub ended_tally : by (ends_tally 7) (op.TallyEnd (task 7)) (reply.Ended an_end ∷ reply.Ok ∷ []) ≡ (true ∷ false ∷ [])
  pub got_sem : by (gets_sem 7) (op.SemLook (sem 7) false) (reply.Ok ∷ reply.Number (pos 1) ∷ reply.Pending ∷ []) ≡ (true ∷ false ∷ false ∷ [])
  pub gave_sem : by (gives_sem 7) (op.SemUnlock (sem 7)) (reply.Ok ∷ reply.Pending ∷ []) ≡ (true ∷ false ∷ [])
  pub got_rwl : by (gets_rwl 7 true) (op.RwlLook (rwl 7) true false) (reply.Ok ∷ reply.Pending ∷ []) ≡ (true ∷ false ∷ [])
  pub got_to_read : by (gets_rwl 7 true) (op.RwlLook (rwl 7) false false) (reply.Ok ∷ []) ≡ (false ∷ [])
  pub gave_rwl : by (gives_rwl 7 false) (op.RwlUnlock (rwl 7) false) (reply.Ok ∷ reply.Pending ∷ []) ≡ (true ∷ false ∷ [])
  pub gave_as_writer : by (gives_rwl 7 false) (op.RwlUnlock (rwl 7) true) (reply.Ok ∷ []) ≡ (false ∷ [])
  pub wrote : by (writes_to 7 25) (op.ShmemWrite (segment 7) 25 (pos 26)) (reply.Ok ∷ reply.Pending ∷ []) ≡ (true ∷ false ∷ [])
  pub of_seat : map (λ w. by_seat w (gets_sem 7) (entry 1 (op.SemLook (sem 7) false) reply.Ok)) (0 ∷ 1 ∷ []) ≡ (false ∷ true ∷ [])

-- entries of which the second and the third are an Ok
abbrev pub two_pass : List NodeEntry
two_pass = entry 0 op.Enter reply.Pending ∷ entry 1 op.Enter reply.Ok ∷ entry 1 op.Release reply.Ok ∷ []

-- a task with the arguments of a tally, which adds 3 to the cell 25 of the segment 7, at this stage; it has completed
abbrev pub notes_at : ℕ → Task
notes_at stage =
    with_notes
    (λ n. record n { tally = record no_tally { stage = stage; segment = 7 } })
    (new_task (record { job = 1; args = pos 4 ∷ pos 5 ∷ pos 25 ∷ pos 3 ∷ []; priority = 0; cores = 1; detached = false; group = None; queue = None }) 0)

abbrev pub worked_tallied : ℕ → Task
worked_tallied stage = with_state (Ended an_end 41) (notes_at stage)

-- two records: the first object has left
abbrev pub two_listed : List (Listed Task)
two_listed = record { handle = 7; live = false; fields = worked_tallied 2 } ∷ record { handle = 6; live = true; fields = notes_at 0 } ∷ []

pub record WorkedLists : Type 0 where
  pub some : map (some_entry (λ e. says_ok e.reply)) ([] ∷ (entry 0 op.Enter reply.Pending ∷ []) ∷ two_pass ∷ []) ≡ (false ∷ false ∷ true ∷ [])
  pub count : map (entries_that (λ e. says_ok e.reply)) ([] ∷ (entry 0 op.Enter reply.Pending ∷ []) ∷ two_pass ∷ []) ≡ (0 ∷ 0 ∷ 2 ∷ [])
  pub numbers : map (number_at two_listed) (7 ∷ 6 ∷ 5 ∷ []) ≡ (Some 41 ∷ None ∷ None ∷ [])
  pub tasks : map (task_at two_listed) (7 ∷ 6 ∷ 5 ∷ []) ≡ (Some (worked_tallied 2) ∷ Some (notes_at 0) ∷ None ∷ [])
  pub records : map (record_of two_listed) (7 ∷ 6 ∷ 5 ∷ []) ≡ (Some (worked_tallied 2) ∷ Some (notes_at 0) ∷ None ∷ [])
  pub stages : map (λ stage. adds_to 7 25 (notes_at stage)) (0 ∷ 1 ∷ 2 ∷ 3 ∷ 4 ∷ []) ≡ (false ∷ true ∷ true ∷ true ∷ false ∷ [])
  pub got : map (λ stage. got_both (notes_at stage).notes.tally) (0 ∷ 1 ∷ 2 ∷ 3 ∷ 4 ∷ []) ≡ (false ∷ true ∷ true ∷ true ∷ false ∷ [])
  pub other_place : (adds_to 6 25 (notes_at 2) ≡ false) × (adds_to 7 24 (notes_at 2) ≡ false)
  pub completed : map is_completed (Scheduled ∷ Running 0 kind.Tally ∷ Ended an_end 1 ∷ Ended Cancelled 1 ∷ Ended (Failed status.ErrActionFailed) 1 ∷ [])
      ≡ (false ∷ false ∷ true ∷ false ∷ false ∷ [])
  pub added : map (number_added 7 25) (worked_tallied 2 ∷ notes_at 2 ∷ worked_tallied 4 ∷ []) ≡ (pos 3 ∷ pos 0 ∷ pos 0 ∷ [])
  pub sum : sum_of (λ t. pos t.priority) (record { handle = 7; live = false; fields = record (worked_tallied 2) { priority = 3 } }
      ∷ record { handle = 6; live = true; fields = record (notes_at 0) { priority = 4 } } ∷ []) ≡ pos 7

pub record WorkedWords : Type 0 where
  pub ops : WorkedOps
  pub handled : WorkedHandled
  pub replies : WorkedWordReplies
  pub entries : WorkedEntries
  pub lists : WorkedLists
