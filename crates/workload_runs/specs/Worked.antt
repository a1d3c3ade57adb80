-- Worked calls: what each kind of statement makes, with numbers that all differ, and what seats make. Each is found by computing.
use Rattle.std.specs.Prelude.{◌≡◌, ℕ, true, false, List, [], ◌∷◌, pos, negsuc, Some, None}
use Rattle.mtapi_values.specs.declared.kinds.Kind.TheVariants as kind
use Rattle.mtapi_values.specs.declared.masks.Mask.{Mask}
use Rattle.mtapi_values.specs.declared.timeouts.Timeout.TheVariants as timeout
use Rattle.mtapi_values.specs.declared.handles.GroupHandle.{GroupHandle}
use Rattle.workload_file.specs.declared.workload.Deed.{Deed}
use Rattle.workload_file.specs.declared.workload.Deed.TheVariants as deed
use Rattle.mtapi_machine.specs.declared.ops.Op.TheVariants as op
use Rattle.mtapi_values.specs.Timeouts.{looks_of}
use Rattle.mtapi_values.specs.declared.ends.TaskEnd.TheVariants.{Cancelled}
use Rattle.mtapi_values.specs.declared.statuses.MtapiStatus.TheVariants as mtapi
use Rattle.mtapi_values.specs.declared.statuses.MrapiStatus.TheVariants as mrapi
use Rattle.history.specs.Histories.{entry}
use Rattle.mtapi_machine.specs.declared.replies.Reply.TheVariants as reply
use Rattle.workload_runs.specs.Calls.{Call, Once, Looking, call_of}
use Rattle.workload_runs.specs.Lines.{line_with, lines_of, before_it, looks_before, is_timeout, head_lines, tail_of_main}
use Rattle.workload_runs.specs.RunOf.{is_work, all_work}

-- the handles that seven statements bound, of which the third was refused
abbrev pub bound : List ℕ
bound = 900 ∷ 911 ∷ 0 ∷ 933 ∷ 944 ∷ 955 ∷ 966 ∷ []

abbrev pub cores : ℕ → Mask
cores mask = record { 0 = mask }

abbrev pub worked_group : ℕ → GroupHandle
worked_group handle = record { 0 = handle }

-- behind these statements, a statement makes this call
abbrev pub Makes : Deed → Call → Type 0
Makes d c = call_of bound d ≡ c

-- the phases, actions and tasks
pub record WorkedTaskCalls : Type 0 where
  pub begin : Makes deed.Begin (Once op.Release)
  pub action : Makes (deed.Action 21 kind.Gcd (cores 6)) (Once (op.ActionCreate 21 kind.Gcd (cores 6)))
  pub action_delete : Makes (deed.ActionDelete 1) (Once (op.ActionDelete (record { 0 = 911 })))
  pub action_enable : Makes (deed.ActionEnable 3) (Once (op.ActionEnable (record { 0 = 933 })))
  pub action_disable : Makes (deed.ActionDisable 4) (Once (op.ActionDisable (record { 0 = 944 })))
  pub start : Makes (deed.Start 22 (pos 31 ∷ negsuc 31 ∷ []) 3 (cores 5) false (Some 6))
      (Once (op.TaskStart 22 (pos 31 ∷ negsuc 31 ∷ []) 3 (cores 5) false (Some (worked_group 966))))
  pub start_detached : Makes (deed.Start 23 [] 4 (cores 9) true None) (Once (op.TaskStart 23 [] 4 (cores 9) true None))
  pub enqueue : Makes (deed.Enqueue 5 (pos 33 ∷ []) (cores 10) false (Some 4))
      (Once (op.TaskEnqueue (record { 0 = 955 }) (pos 33 ∷ []) (cores 10) false (Some (worked_group 944))))
  pub enqueue_detached : Makes (deed.Enqueue 3 (pos 34 ∷ pos 35 ∷ []) (cores 12) true None)
      (Once (op.TaskEnqueue (record { 0 = 933 }) (pos 34 ∷ pos 35 ∷ []) (cores 12) true None))
  pub wait : Makes (deed.Wait 1 (timeout.Looks 41)) (Looking true (λ last. op.TaskLook (record { 0 = 911 }) last) (timeout.Looks 41))
  pub wait_refused : Makes (deed.Wait 2 timeout.NoWait) (Looking true (λ last. op.TaskLook (record { 0 = 0 }) last) timeout.NoWait)
  pub cancel : Makes (deed.Cancel 6) (Once (op.TaskCancel (record { 0 = 966 })))

-- the groups and queues
pub record WorkedGroupCalls : Type 0 where
  pub group : Makes deed.Group (Once op.GroupCreate)
  pub wait_all : Makes (deed.WaitAll 3 (timeout.Looks 42)) (Looking false (λ last. op.AllLook (record { 0 = 933 }) last) (timeout.Looks 42))
  pub wait_any : Makes (deed.WaitAny 4 timeout.Infinite) (Looking false (λ last. op.AnyLook (record { 0 = 944 }) last) timeout.Infinite)
  pub group_delete : Makes (deed.GroupDelete 5) (Once (op.GroupDelete (record { 0 = 955 })))
  pub queue_ordered : Makes (deed.Queue 51 24 5 61 true false) (Once (op.QueueCreate 51 24 5 61 true false))
  pub queue_retains : Makes (deed.Queue 52 25 6 62 false true) (Once (op.QueueCreate 52 25 6 62 false true))
  pub queue_get : Makes (deed.QueueGet 53) (Once (op.QueueGet 53))
  pub queue_enable : Makes (deed.QueueEnable 0) (Once (op.QueueEnable (record { 0 = 900 })))
  pub queue_disable : Makes (deed.QueueDisable 1) (Once (op.QueueDisable (record { 0 = 911 })))
  pub queue_delete : Makes (deed.QueueDelete 3) (Once (op.QueueDelete (record { 0 = 933 })))

-- the mutexes, semaphores and reader-writer locks
pub record WorkedLockCalls : Type 0 where
  pub mutex : Makes (deed.Mutex 54 false) (Once (op.MutexCreate 54 false))
  pub mutex_recursive : Makes (deed.Mutex 55 true) (Once (op.MutexCreate 55 true))
  pub mutex_get : Makes (deed.MutexGet 56) (Once (op.MutexGet 56))
  pub mutex_delete : Makes (deed.MutexDelete 4) (Once (op.MutexDelete (record { 0 = 944 })))
  pub lock : Makes (deed.Lock 5 (timeout.Looks 43)) (Looking false (λ last. op.MutexLook (record { 0 = 955 }) last) (timeout.Looks 43))
  pub unlock : Makes (deed.Unlock 6 71) (Once (op.MutexUnlock (record { 0 = 966 }) 71))
  pub sem : Makes (deed.Sem 57 72) (Once (op.SemCreate 57 72))
  pub sem_get : Makes (deed.SemGet 58) (Once (op.SemGet 58))
  pub sem_delete : Makes (deed.SemDelete 0) (Once (op.SemDelete (record { 0 = 900 })))
  pub sem_lock : Makes (deed.SemLock 1 (timeout.Looks 44)) (Looking false (λ last. op.SemLook (record { 0 = 911 }) last) (timeout.Looks 44))
  pub sem_unlock : Makes (deed.SemUnlock 3) (Once (op.SemUnlock (record { 0 = 933 })))
  pub rwl : Makes (deed.Rwl 59 32) (Once (op.RwlCreate 59 32))
  pub rwl_get : Makes (deed.RwlGet 60) (Once (op.RwlGet 60))
  pub rwl_delete : Makes (deed.RwlDelete 4) (Once (op.RwlDelete (record { 0 = 944 })))
  pub rwl_lock_reader : Makes (deed.RwlLock 5 false (timeout.Looks 45)) (Looking false (λ last. op.RwlLook (record { 0 = 955 }) false last) (timeout.Looks 45))
  pub rwl_lock_writer : Makes (deed.RwlLock 6 true (timeout.Looks 46)) (Looking false (λ last. op.RwlLook (record { 0 = 966 }) true last) (timeout.Looks 46))
  pub rwl_unlock_reader : Makes (deed.RwlUnlock 0 false) (Once (op.RwlUnlock (record { 0 = 900 }) false))
  pub rwl_unlock_writer : Makes (deed.RwlUnlock 1 true) (Once (op.RwlUnlock (record { 0 = 911 }) true))

-- the segments
pub record WorkedSegmentCalls : Type 0 where
  pub shmem : Makes (deed.Shmem 63 81) (Once (op.ShmemCreate 63 81))
  pub shmem_get : Makes (deed.ShmemGet 64) (Once (op.ShmemGet 64))
  pub shmem_delete : Makes (deed.ShmemDelete 3) (Once (op.ShmemDelete (record { 0 = 933 })))
  pub attach : Makes (deed.Attach 4) (Once (op.ShmemAttach (record { 0 = 944 })))
  pub detach : Makes (deed.Detach 5) (Once (op.ShmemDetach (record { 0 = 955 })))
  pub read : Makes (deed.Read 6 82) (Once (op.ShmemRead (record { 0 = 966 }) 82))
  pub write : Makes (deed.Write 0 83 (negsuc 84)) (Once (op.ShmemWrite (record { 0 = 900 }) 83 (negsuc 84)))

-- the lines of a seat, in order, with their numbers; the looks of a call; and what main makes before its statements and behind them
pub record WorkedSeats : Type 0 where
  pub lines : lines_of 3 (entry 3 op.Enter reply.Ok ∷ entry 4 op.Enter reply.Pending ∷ entry 2 op.Pick reply.Idle ∷ entry 3 (op.QueueGet 9) (reply.Handle 911)
      ∷ []) (21 ∷ 22 ∷ 23 ∷ 24 ∷ []) ≡ line_with op.Enter reply.Ok 21 ∷ line_with (op.QueueGet 9) (reply.Handle 911) 24 ∷ []
  pub none_kept : before_it (op.QueueGet 9) None ≡ []
  pub one_kept : before_it (op.QueueGet 9) (Some 5) ≡ line_with (op.QueueGet 9) reply.Pending 5 ∷ []
  pub no_look_before : looks_before None ≡ 0
  pub looks_before_it : looks_before (Some 5) ≡ 6
  pub one_look : looks_of timeout.NoWait ≡ Some 1
  pub looks : looks_of (timeout.Looks 5) ≡ Some 6
  pub no_last_look : looks_of timeout.Infinite ≡ None
  pub mtapi_timeout : is_timeout (reply.Mtapi mtapi.Timeout) ≡ true
  pub mrapi_timeout : is_timeout (reply.Mrapi mrapi.Timeout) ≡ true
  pub no_timeout : is_timeout (reply.Mtapi mtapi.GroupCompleted) ≡ false
  pub no_lock_timeout : is_timeout (reply.Mrapi mrapi.ErrSpent) ≡ false
  pub head_with_begin : head_lines true ≡ line_with op.Initialize reply.Ok 0 ∷ []
  pub head_without_begin : head_lines false ≡ line_with op.Initialize reply.Ok 0 ∷ line_with op.Release reply.Ok 0 ∷ []
  pub tail : tail_of_main ≡ line_with op.Close reply.Ok 0 ∷ line_with op.Final reply.Ok 0 ∷ []

-- no status is work, nor is another answer than the op's own, nor an op of a caller
pub record WorkedWorkReplies : Type 0 where
  pub picked : is_work op.Pick (reply.Picked (record { 0 = 1 }) (record { 0 = 2 }) kind.Add []) ≡ true
  pub idle : is_work op.Pick reply.Idle ≡ true
  pub stop : is_work op.Pick reply.Stop ≡ false
  pub pick_pending : is_work op.Pick reply.Pending ≡ false
  pub pick_refused : is_work op.Pick (reply.Mtapi mtapi.ErrParameter) ≡ false
  pub asked_refused : is_work (op.Asked (record { 0 = 1 })) (reply.Mtapi mtapi.ErrParameter) ≡ false
  pub watch_end_refused : is_work (op.WatchEnd (record { 0 = 1 })) (reply.Mtapi mtapi.ErrParameter) ≡ false
  pub tally_lock_refused : is_work (op.TallyLock (record { 0 = 1 })) (reply.Mtapi mtapi.ErrParameter) ≡ false
  pub tally_lock_pending : is_work (op.TallyLock (record { 0 = 1 })) reply.Pending ≡ true
  pub tally_read_refused : is_work (op.TallyRead (record { 0 = 1 })) (reply.Mtapi mtapi.ErrParameter) ≡ false
  pub tally_read_pending : is_work (op.TallyRead (record { 0 = 1 })) reply.Pending ≡ false
  pub tally_write_refused : is_work (op.TallyWrite (record { 0 = 1 }) (pos 2)) (reply.Mtapi mtapi.ErrParameter) ≡ false
  pub tally_end_refused : is_work (op.TallyEnd (record { 0 = 1 })) (reply.Mtapi mtapi.ErrParameter) ≡ false
  pub look : is_work (op.TaskLook (record { 0 = 1 }) true) (reply.Ended Cancelled) ≡ false
  pub creates : is_work op.GroupCreate (reply.Handle 1) ≡ false
  pub closes : is_work op.Close reply.Ok ≡ false
  pub all : all_work (line_with op.Pick reply.Idle 1 ∷ line_with (op.TallyLock (record { 0 = 1 })) reply.Pending 2 ∷ []) ≡ true
  pub not_the_last : all_work (line_with op.Pick reply.Idle 1 ∷ line_with op.Pick reply.Stop 2 ∷ []) ≡ false

-- the calls of all kinds of statements, and what seats make
pub record WorkedCalls : Type 0 where
  pub tasks : WorkedTaskCalls
  pub groups : WorkedGroupCalls
  pub locks : WorkedLockCalls
  pub segments : WorkedSegmentCalls
  pub seats : WorkedSeats
  pub work : WorkedWorkReplies
