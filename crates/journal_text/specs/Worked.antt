-- Worked journals: the head line, a line for each op and each reply, with values that all differ, and what is no journal. Each is found
-- by computing.
use Rattle.std.specs.Prelude.{◌≡◌, ℕ, ◌+◌, ◌*◌, ◌^◌, true, false, List, [], ◌∷◌, ◌++◌, codes, pos, negsuc, Some, None, Ok, Err}
use Rattle.mtapi_values.specs.declared.kinds.Kind.TheVariants as kind
use Rattle.mtapi_values.specs.declared.masks.Mask.{Mask}
use Rattle.mtapi_values.specs.declared.handles.Layout.{Layout}
use Rattle.mtapi_values.specs.declared.handles.Layout.TheVariants.{One, Two}
use Rattle.mtapi_values.specs.declared.ends.TaskEnd.TheVariants.{Completed, Cancelled, Failed}
use Rattle.mtapi_values.specs.declared.statuses.MtapiStatus.TheVariants as mtapi
use Rattle.mtapi_values.specs.declared.statuses.MrapiStatus.TheVariants as mrapi
use Rattle.action_fn.specs.declared.finished.ActEnd.TheVariants.{Done, Fails}
use Rattle.mtapi_machine.specs.declared.ops.Op.{Op}
use Rattle.mtapi_machine.specs.declared.ops.Op.TheVariants as op
use Rattle.mtapi_machine.specs.declared.replies.Reply.{Reply}
use Rattle.mtapi_machine.specs.declared.replies.Reply.TheVariants as reply
use Rattle.mtapi_machine.specs.Legal.{NodeEntry}
use Rattle.node_journals.specs.declared.entries.Journal.{Journal}
use Rattle.journal_text.specs.declared.heads.Head.{Head}
use Rattle.journal_text.specs.declared.faults.TextError.TheVariants as error
use Rattle.journal_text.specs.Handles.{handle_of_word}
use Rattle.journal_text.specs.Heads.{head_text, head_of}
use Rattle.journal_text.specs.Lines.{entry_text, entry_of_line}
use Rattle.journal_text.specs.Journals.{journal_text, journal_of}

-- three workers and so many callers
abbrev pub head : Layout → ℕ → Head
head layout callers = record {
  layout = layout;
  settings = record { workers = 3; tasks = 31; actions = 32; groups = 33; queues = 34; objects = 35; priorities = 6; generations = 37 };
  callers = callers;
}

-- a seat asked this, and got this reply
abbrev pub worked_entry : ℕ → Op → Reply → NodeEntry
worked_entry who o r = record { who = who; op = o; reply = r }

-- the line of main's op, whose reply is Ok
abbrev pub op_line : Layout → Op → List ℕ
op_line layout o = entry_text (head layout 4) (worked_entry 3 o reply.Ok) 0

-- the line of a reply to a pick of the last worker
abbrev pub reply_line : Layout → Reply → List ℕ
reply_line layout r = entry_text (head layout 4) (worked_entry 2 op.Pick r) 0

abbrev pub ok_line : List ℕ → List ℕ
ok_line text = codes "c0 " ++ (text ++ codes " -> ok")

abbrev pub pick_line : List ℕ → List ℕ
pick_line text = codes "w2 pick -> " ++ text

-- the handle of layout two of generation 21 and slot 34 of the kind with this number
abbrev pub worked_handle : ℕ → ℕ
worked_handle kind = 21 * 2 ^ 32 + kind * 2 ^ 24 + 34

-- an op without a handle has the same words in both texts
pub record TellsWords (o : Op) (text : List ℕ) : Type 0 where
  pub one : op_line One o ≡ ok_line text
  pub two : op_line Two o ≡ ok_line text

-- an op on the object of a handle has these words in text 1 with the handle 911, and these in text 2 with the one of this kind
pub record NamesHandle (o : ℕ → Op) (kind : ℕ) (one_text two_text : List ℕ) : Type 0 where
  pub one : op_line One (o 911) ≡ ok_line one_text
  pub two : op_line Two (o (worked_handle kind)) ≡ ok_line two_text

-- the same of a reply
pub record Replies (r : ℕ → Reply) (kind : ℕ) (one_text two_text : List ℕ) : Type 0 where
  pub one : reply_line One (r 911) ≡ pick_line one_text
  pub two : reply_line Two (r (worked_handle kind)) ≡ pick_line two_text

abbrev pub some_cores : ℕ → Mask
some_cores mask = record { 0 = mask }

-- the ops of the phases, of jobs and of actions
pub record WorkedNodeOps : Type 0 where
  pub initialize : TellsWords op.Initialize (codes "initialize")
  pub released : TellsWords op.Release (codes "release")
  pub enters : TellsWords op.Enter (codes "enter")
  pub closes : TellsWords op.Close (codes "close")
  pub final : TellsWords op.Final (codes "final")
  pub job_get : TellsWords (op.JobGet 22) (codes "job_get 22")
  pub action_create : TellsWords (op.ActionCreate 23 kind.Gcd (some_cores 6)) (codes "action_create 23 gcd 6")
  pub action_delete : NamesHandle (λ h. op.ActionDelete (record { 0 = h })) 1 (codes "action_delete 911") (codes "action_delete a21.34")
  pub action_disable : NamesHandle (λ h. op.ActionDisable (record { 0 = h })) 1 (codes "action_disable 911") (codes "action_disable a21.34")
  pub action_enable : NamesHandle (λ h. op.ActionEnable (record { 0 = h })) 1 (codes "action_enable 911") (codes "action_enable a21.34")

-- the ops on tasks and groups
pub record WorkedTaskOps : Type 0 where
  pub task_start : NamesHandle (λ h. op.TaskStart 24 (pos 31 ∷ negsuc 31 ∷ []) 3 (some_cores 5) false (Some (record { 0 = h }))) 3
      (codes "task_start 24 31,-32 3 5 0 911")
      (codes "task_start 24 31,-32 3 5 0 g21.34")
  pub task_start_alone : TellsWords (op.TaskStart 25 [] 4 (some_cores 18446744073709551615) true None) (codes "task_start 25 - 4 18446744073709551615 1 -")
  pub task_enqueue : NamesHandle (λ h. op.TaskEnqueue (record { 0 = h }) (pos 33 ∷ []) (some_cores 9) false (Some (record { 0 = worked_handle 3 }))) 4
      (codes "task_enqueue 911 33 9 0 90244644898") (codes "task_enqueue q21.34 33 9 0 g21.34")
  pub task_enqueue_alone : NamesHandle (λ h. op.TaskEnqueue (record { 0 = h }) [] (some_cores 10) true None) 4 (codes "task_enqueue 911 - 10 1 -")
      (codes "task_enqueue q21.34 - 10 1 -")
  pub task_look : NamesHandle (λ h. op.TaskLook (record { 0 = h }) false) 2 (codes "task_look 911 0") (codes "task_look t21.34 0")
  pub task_look_last : NamesHandle (λ h. op.TaskLook (record { 0 = h }) true) 2 (codes "task_look 911 1") (codes "task_look t21.34 1")
  pub task_cancel : NamesHandle (λ h. op.TaskCancel (record { 0 = h })) 2 (codes "task_cancel 911") (codes "task_cancel t21.34")
  pub group_create : TellsWords op.GroupCreate (codes "group_create")
  pub group_delete : NamesHandle (λ h. op.GroupDelete (record { 0 = h })) 3 (codes "group_delete 911") (codes "group_delete g21.34")
  pub all_look : NamesHandle (λ h. op.AllLook (record { 0 = h }) true) 3 (codes "all_look 911 1") (codes "all_look g21.34 1")
  pub any_look : NamesHandle (λ h. op.AnyLook (record { 0 = h }) false) 3 (codes "any_look 911 0") (codes "any_look g21.34 0")

-- the ops on queues
pub record WorkedQueueOps : Type 0 where
  pub queue_ordered : TellsWords (op.QueueCreate 51 26 5 61 true false) (codes "queue_create 51 26 5 61 1 0")
  pub queue_retains : TellsWords (op.QueueCreate 52 27 6 62 false true) (codes "queue_create 52 27 6 62 0 1")
  pub queue_get : TellsWords (op.QueueGet 53) (codes "queue_get 53")
  pub queue_enable : NamesHandle (λ h. op.QueueEnable (record { 0 = h })) 4 (codes "queue_enable 911") (codes "queue_enable q21.34")
  pub queue_disable : NamesHandle (λ h. op.QueueDisable (record { 0 = h })) 4 (codes "queue_disable 911") (codes "queue_disable q21.34")
  pub queue_delete : NamesHandle (λ h. op.QueueDelete (record { 0 = h })) 4 (codes "queue_delete 911") (codes "queue_delete q21.34")

-- the ops of workers
pub record WorkedWorkOps : Type 0 where
  pub pick : TellsWords op.Pick (codes "pick")
  pub finish : NamesHandle (λ h. op.Finish (record { 0 = h }) (record { kind = kind.Add; args = pos 8 ∷ pos 9 ∷ []; end = Done (pos 17 ∷ []) })) 2
      (codes "finish 911 add 8,9 completed 17") (codes "finish t21.34 add 8,9 completed 17")
  pub finish_empty : NamesHandle (λ h. op.Finish (record { 0 = h }) (record { kind = kind.Echo; args = []; end = Done [] })) 2
      (codes "finish 911 echo - completed -")
      (codes "finish t21.34 echo - completed -")
  pub finish_failed : NamesHandle (λ h. op.Finish (record { 0 = h }) (record { kind = kind.Div; args = pos 7 ∷ []; end = Fails mtapi.ErrArgSize })) 2
      (codes "finish 911 div 7 error MTAPI_ERR_ARG_SIZE") (codes "finish t21.34 div 7 error MTAPI_ERR_ARG_SIZE")
  pub asks : NamesHandle (λ h. op.Asked (record { 0 = h })) 2 (codes "asked 911") (codes "asked t21.34")
  pub watch_end : NamesHandle (λ h. op.WatchEnd (record { 0 = h })) 2 (codes "watch_end 911") (codes "watch_end t21.34")
  pub tally_lock : NamesHandle (λ h. op.TallyLock (record { 0 = h })) 2 (codes "tally_lock 911") (codes "tally_lock t21.34")
  pub tally_read : NamesHandle (λ h. op.TallyRead (record { 0 = h })) 2 (codes "tally_read 911") (codes "tally_read t21.34")
  pub tally_write : NamesHandle (λ h. op.TallyWrite (record { 0 = h }) (negsuc 40)) 2 (codes "tally_write 911 -41") (codes "tally_write t21.34 -41")
  pub tally_end : NamesHandle (λ h. op.TallyEnd (record { 0 = h })) 2 (codes "tally_end 911") (codes "tally_end t21.34")

-- the ops on mutexes, semaphores and reader-writer locks
pub record WorkedLockOps : Type 0 where
  pub mutex_create : TellsWords (op.MutexCreate 54 false) (codes "mutex_create 54 0")
  pub mutex_recursive : TellsWords (op.MutexCreate 55 true) (codes "mutex_create 55 1")
  pub mutex_get : TellsWords (op.MutexGet 56) (codes "mutex_get 56")
  pub mutex_delete : NamesHandle (λ h. op.MutexDelete (record { 0 = h })) 5 (codes "mutex_delete 911") (codes "mutex_delete m21.34")
  pub mutex_look : NamesHandle (λ h. op.MutexLook (record { 0 = h }) true) 5 (codes "mutex_look 911 1") (codes "mutex_look m21.34 1")
  pub mutex_unlock : NamesHandle (λ h. op.MutexUnlock (record { 0 = h }) 71) 5 (codes "mutex_unlock 911 71") (codes "mutex_unlock m21.34 71")
  pub sem_create : TellsWords (op.SemCreate 57 72) (codes "sem_create 57 72")
  pub sem_get : TellsWords (op.SemGet 58) (codes "sem_get 58")
  pub sem_delete : NamesHandle (λ h. op.SemDelete (record { 0 = h })) 6 (codes "sem_delete 911") (codes "sem_delete s21.34")
  pub sem_look : NamesHandle (λ h. op.SemLook (record { 0 = h }) false) 6 (codes "sem_look 911 0") (codes "sem_look s21.34 0")
  pub sem_unlock : NamesHandle (λ h. op.SemUnlock (record { 0 = h })) 6 (codes "sem_unlock 911") (codes "sem_unlock s21.34")
  pub rwl_create : TellsWords (op.RwlCreate 59 32) (codes "rwl_create 59 32")
  pub rwl_get : TellsWords (op.RwlGet 60) (codes "rwl_get 60")
  pub rwl_delete : NamesHandle (λ h. op.RwlDelete (record { 0 = h })) 7 (codes "rwl_delete 911") (codes "rwl_delete r21.34")
  pub rwl_look_last : NamesHandle (λ h. op.RwlLook (record { 0 = h }) false true) 7 (codes "rwl_look 911 0 1") (codes "rwl_look r21.34 0 1")
  pub rwl_look_writer : NamesHandle (λ h. op.RwlLook (record { 0 = h }) true false) 7 (codes "rwl_look 911 1 0") (codes "rwl_look r21.34 1 0")
  pub rwl_unlock : NamesHandle (λ h. op.RwlUnlock (record { 0 = h }) true) 7 (codes "rwl_unlock 911 1") (codes "rwl_unlock r21.34 1")

-- the ops on segments
pub record WorkedSegmentOps : Type 0 where
  pub shmem_create : TellsWords (op.ShmemCreate 63 81) (codes "shmem_create 63 81")
  pub shmem_get : TellsWords (op.ShmemGet 64) (codes "shmem_get 64")
  pub shmem_delete : NamesHandle (λ h. op.ShmemDelete (record { 0 = h })) 8 (codes "shmem_delete 911") (codes "shmem_delete h21.34")
  pub shmem_attach : NamesHandle (λ h. op.ShmemAttach (record { 0 = h })) 8 (codes "shmem_attach 911") (codes "shmem_attach h21.34")
  pub shmem_detach : NamesHandle (λ h. op.ShmemDetach (record { 0 = h })) 8 (codes "shmem_detach 911") (codes "shmem_detach h21.34")
  pub shmem_read : NamesHandle (λ h. op.ShmemRead (record { 0 = h }) 82) 8 (codes "shmem_read 911 82") (codes "shmem_read h21.34 82")
  pub shmem_write : NamesHandle (λ h. op.ShmemWrite (record { 0 = h }) 83 (negsuc 84)) 8 (codes "shmem_write 911 83 -85") (codes "shmem_write h21.34 83 -85")

-- the replies
pub record WorkedReplyTexts : Type 0 where
  pub ok : Replies (λ h. reply.Ok) 1 (codes "ok") (codes "ok")
  pub handle_action : Replies (λ h. reply.Handle h) 1 (codes "handle 911") (codes "handle a21.34")
  pub number : Replies (λ h. reply.Number (negsuc 44)) 1 (codes "number -45") (codes "number -45")
  pub completed : Replies (λ h. reply.Ended (Completed (pos 46 ∷ negsuc 46 ∷ []))) 1 (codes "ended completed 46,-47") (codes "ended completed 46,-47")
  pub completed_empty : Replies (λ h. reply.Ended (Completed [])) 1 (codes "ended completed -") (codes "ended completed -")
  pub cancelled : Replies (λ h. reply.Ended Cancelled) 1 (codes "ended cancelled") (codes "ended cancelled")
  pub failed : Replies (λ h. reply.Ended (Failed mtapi.ErrQueueDeleted)) 1 (codes "ended error MTAPI_ERR_QUEUE_DELETED")
      (codes "ended error MTAPI_ERR_QUEUE_DELETED")
  pub given : Replies (λ h. reply.Given (record { 0 = h }) (Completed (pos 48 ∷ []))) 2 (codes "given 911 completed 48") (codes "given t21.34 completed 48")
  pub given_cancelled : Replies (λ h. reply.Given (record { 0 = h }) Cancelled) 2 (codes "given 911 cancelled") (codes "given t21.34 cancelled")
  pub pending : Replies (λ h. reply.Pending) 1 (codes "pending") (codes "pending")
  pub picked : Replies (λ h. reply.Picked (record { 0 = h }) (record { 0 = worked_handle 1 }) kind.Mul (pos 49 ∷ negsuc 49 ∷ [])) 2
      (codes "picked 911 90211090466 mul 49,-50") (codes "picked t21.34 a21.34 mul 49,-50")
  pub idle : Replies (λ h. reply.Idle) 1 (codes "idle") (codes "idle")
  pub stop : Replies (λ h. reply.Stop) 1 (codes "stop") (codes "stop")
  pub asked_not : Replies (λ h. reply.Asked false) 1 (codes "asked 0") (codes "asked 0")
  pub asked : Replies (λ h. reply.Asked true) 1 (codes "asked 1") (codes "asked 1")
  pub mtapi_status : Replies (λ h. reply.Mtapi mtapi.ErrQueueExists) 1 (codes "status MTAPI_ERR_QUEUE_EXISTS") (codes "status MTAPI_ERR_QUEUE_EXISTS")
  pub mrapi_status : Replies (λ h. reply.Mrapi mrapi.ErrSemExists) 1 (codes "status MRAPI_ERR_SEM_EXISTS") (codes "status MRAPI_ERR_SEM_EXISTS")

-- head lines, seats and numbers of left out entries, handles that are read, and lines that are none
pub record WorkedHeads : Type 0 where
  pub one : head_text (head One 4) ≡ codes "mtapi-journal 1 workers=3 callers=4 tasks=31 actions=32 groups=33 queues=34 objects=35 priorities=6 generations=37"
  pub two : head_text (head Two 4) ≡ codes "mtapi-journal 2 workers=3 callers=4 tasks=31 actions=32 groups=33 queues=34 objects=35 priorities=6 generations=37"
  pub one_read : head_of (codes "mtapi-journal 1 workers=3 callers=4 tasks=31 actions=32 groups=33 queues=34 objects=35 priorities=6 generations=37")
      ≡ Some (head One 4)
  pub two_read : head_of (codes "mtapi-journal 2 workers=3 callers=4 tasks=31 actions=32 groups=33 queues=34 objects=35 priorities=6 generations=37")
      ≡ Some (head Two 4)
  pub most_callers : head_of (codes "mtapi-journal 1 workers=3 callers=9 tasks=31 actions=32 groups=33 queues=34 objects=35 priorities=6 generations=37")
      ≡ Some (head One 9)
  pub too_many_callers : head_of (codes "mtapi-journal 1 workers=3 callers=10 tasks=31 actions=32 groups=33 queues=34 objects=35 priorities=6 generations=37")
      ≡ None
  pub no_caller : head_of (codes "mtapi-journal 1 workers=3 callers=0 tasks=31 actions=32 groups=33 queues=34 objects=35 priorities=6 generations=37") ≡ None
  pub third_text : head_of (codes "mtapi-journal 3 workers=3 callers=4 tasks=31 actions=32 groups=33 queues=34 objects=35 priorities=6 generations=37") ≡ None
  pub first_worker : entry_text (head One 4) (worked_entry 0 op.Pick reply.Idle) 5 ≡ codes "w0 pick -> idle after 5"
  pub last_caller : entry_text (head One 4) (worked_entry 6 op.Enter reply.Ok) 12 ≡ codes "c3 enter -> ok after 12"
  pub line_read : entry_of_line (head One 4) (codes "c3 enter -> ok after 12") ≡ Some (worked_entry 6 op.Enter reply.Ok, 12)
  pub none_left_out : entry_of_line (head One 4) (codes "c3 enter -> ok after 0") ≡ None
  pub no_worker : entry_of_line (head One 4) (codes "w3 pick -> idle") ≡ None
  pub no_further_caller : entry_of_line (head One 4) (codes "c4 enter -> ok") ≡ None
  pub no_tally : entry_of_line (head One 4) (codes "w0 tally_end 911 -> ended completed 5") ≡ None
  pub no_tally_lock : entry_of_line (head One 4) (codes "w0 tally_lock 911 -> asked 1") ≡ None
  pub no_tally_read : entry_of_line (head One 4) (codes "w0 tally_read 911 -> number 1") ≡ None
  pub no_tally_write : entry_of_line (head One 4) (codes "w0 tally_write 911 1 -> ok") ≡ None
  pub no_tally_action : entry_of_line (head One 4) (codes "c0 action_create 1 tally 1 -> handle 911") ≡ None
  pub no_tally_picked : entry_of_line (head One 4) (codes "w0 pick -> picked 911 912 tally 1") ≡ None
  pub tally : entry_of_line (head Two 4) (codes "w0 tally_end 911 -> stop") ≡ Some (worked_entry 0 (op.TallyEnd (record { 0 = 911 })) reply.Stop, 0)
  pub unanswered : entry_of_line (head One 4) (codes "w0 finish 911 add 8,9 completed 18 -> ok") ≡ None
  pub no_handle : handle_of_word (codes "b21.34") ≡ None
  pub handle_read : handle_of_word (codes "s21.34") ≡ Some (worked_handle 6)
  pub group_absent : entry_of_line (head One 4) (codes "c0 task_start 25 - 4 7 1 - -> pending")
      ≡ Some (worked_entry 3 (op.TaskStart 25 [] 4 (some_cores 7) true None) reply.Pending, 0)

-- a journal of two entries
abbrev pub pair : Layout → Journal
pair layout = record {
  layout = layout;
  settings = (head layout 4).settings;
  callers = 4;
  entries = record { entries = worked_entry 3 op.Close reply.Ok ∷ worked_entry 1 op.Pick reply.Stop ∷ []; skipped = 0 ∷ 8 ∷ [] };
}

-- a head line, and the line feed behind it
abbrev pub head_line : List ℕ
head_line = codes "mtapi-journal 2 workers=3 callers=4 tasks=31 actions=32 groups=33 queues=34 objects=35 priorities=6 generations=37" ++ 10 ∷ []

-- a whole journal, and texts that are none: the first line that is wrong is told
pub record WorkedTexts : Type 0 where
  pub written : journal_text (pair Two) ≡ head_line ++ (codes "c0 close -> ok" ++ (10 ∷ (codes "w1 pick -> stop after 8" ++ 10 ∷ [])))
  pub read : journal_of (head_line ++ (codes "c0 close -> ok" ++ (10 ∷ (codes "w1 pick -> stop after 8" ++ 10 ∷ [])))) ≡ Ok (pair Two)
  pub empty : journal_of [] ≡ Err (error.BadLine 1)
  pub no_feed : journal_of (codes "x") ≡ Err error.PartialEnd
  pub bad_head : journal_of (10 ∷ []) ≡ Err (error.BadLine 1)
  pub bad_line : journal_of (head_line ++ (codes "c0 close -> ok" ++ (10 ∷ (codes "w1" ++ (10 ∷ (codes "w2" ++ 10 ∷ [])))))) ≡ Err (error.BadLine 3)
  pub bad_end : journal_of (head_line ++ codes "c0 close -> ok") ≡ Err error.PartialEnd

-- the lines of all ops and replies, and whole journals
pub record WorkedJournals : Type 0 where
  pub node_ops : WorkedNodeOps
  pub task_ops : WorkedTaskOps
  pub queue_ops : WorkedQueueOps
  pub work_ops : WorkedWorkOps
  pub lock_ops : WorkedLockOps
  pub segment_ops : WorkedSegmentOps
  pub replies : WorkedReplyTexts
  pub lines : WorkedHeads
  pub texts : WorkedTexts
