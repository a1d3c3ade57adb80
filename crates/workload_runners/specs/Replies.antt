-- What a caller reads from the replies to its calls.
use Rattle.std.specs.Prelude.{ℕ, ◌==◌, ◌^◌, nat_lt, ℤ, pos, if◌then◌else◌, Bool, true, false, not, Option, Some, None, is_some}
use Rattle.workload_runners.specs.Names.{MtapiStatus, TaskHandle, TaskEnd, Op, Reply, Wanted}
use Rattle.mtapi_values.specs.declared.statuses.MtapiStatus.TheVariants as m
use Rattle.mtapi_values.specs.declared.statuses.MrapiStatus.{MrapiStatus}
use Rattle.mtapi_values.specs.declared.statuses.MrapiStatus.TheVariants as c
use Rattle.mtapi_machine.specs.declared.ops.Op.TheVariants as op
use Rattle.mtapi_machine.specs.declared.replies.Reply.TheVariants as reply
use Rattle.workload_runs.specs.declared.calls.Wanted.TheVariants as want

-- What a call reads from a reply that isn't a status: that it was done, a handle, a number, the end of a task, and a member of a group with its end

abbrev pub done : Reply → Option (Unit {0})
done reply.Ok = Some tt
done _ = None

abbrev pub handle_told : Reply → Option ℕ
handle_told (reply.Handle h) = Some h
handle_told _ = None

-- the number of this job
abbrev pub the_job : ℕ → Reply → Option ℕ
the_job job (reply.Number (pos n)) = if n == job then Some job else None
the_job job _ = None

-- the key of a lock, a number of 32 bits
abbrev pub key : Reply → Option ℕ
key (reply.Number (pos n)) = if nat_lt n (2 ^ 32) then Some n else None
key _ = None

abbrev pub number_in_answer : Reply → Option ℤ
number_in_answer (reply.Number n) = Some n
number_in_answer _ = None

abbrev pub end_in_reply : Reply → Option TaskEnd
end_in_reply (reply.Ended e) = Some e
end_in_reply _ = None

abbrev pub given : Reply → Option (TaskHandle × TaskEnd)
given (reply.Given t e) = Some (t, e)
given _ = None

-- the statuses of one standard: the one that a reply says, and the one that a caller answers for turns that are used up and that no op says
pub record Standard (S : Type 0) : Type 0 where
  pub status : Reply → Option S
  pub spent : S
  pub is_spent : S → Bool

abbrev mtapi_status : Reply → Option MtapiStatus
mtapi_status (reply.Mtapi x) = Some x
mtapi_status _ = None

abbrev is_mtapi_spent : MtapiStatus → Bool
is_mtapi_spent m.ErrSpent = true
is_mtapi_spent _ = false

abbrev pub mtapi_standard : Standard MtapiStatus
mtapi_standard = record { status = mtapi_status; spent = m.ErrSpent; is_spent = is_mtapi_spent }

abbrev mrapi_status : Reply → Option MrapiStatus
mrapi_status (reply.Mrapi x) = Some x
mrapi_status _ = None

abbrev is_mrapi_spent : MrapiStatus → Bool
is_mrapi_spent c.ErrSpent = true
is_mrapi_spent _ = false

abbrev pub mrapi_standard : Standard MrapiStatus
mrapi_standard = record { status = mrapi_status; spent = c.ErrSpent; is_spent = is_mrapi_spent }

module _ {S A : Type 0} (standard : Standard S) (read : Reply → Option A) where
  abbrev says_status : Option S → Bool → Bool
  says_status (Some c) b = not (standard.is_spent c)
  says_status None b = b

  -- the reply has something to read, or says a status of the standard other than that for turns that are used up
  abbrev pub says_something : Reply → Bool
  says_something r = says_status (standard.status r) (is_some (read r))

-- What is read from the replies to each op that a caller makes one turn for, and to each thing that it looks for; of the other ops nothing is said

abbrev pub fits_op : Op → Reply → Bool
fits_op op.Initialize r = says_something mtapi_standard done r
fits_op op.Release r = says_something mtapi_standard done r
fits_op op.Close r = says_something mtapi_standard done r
fits_op op.Final r = says_something mtapi_standard done r
fits_op (op.JobGet job) r = says_something mtapi_standard (the_job job) r
fits_op (op.ActionCreate job kind cores) r = says_something mtapi_standard handle_told r
fits_op (op.ActionDelete a) r = says_something mtapi_standard done r
fits_op (op.ActionDisable a) r = says_something mtapi_standard done r
fits_op (op.ActionEnable a) r = says_something mtapi_standard done r
fits_op (op.TaskStart job args priority cores detached group) r = says_something mtapi_standard handle_told r
fits_op (op.TaskEnqueue q args cores detached group) r = says_something mtapi_standard handle_told r
fits_op (op.TaskCancel t) r = says_something mtapi_standard done r
fits_op op.GroupCreate r = says_something mtapi_standard handle_told r
fits_op (op.GroupDelete g) r = says_something mtapi_standard done r
fits_op (op.QueueCreate id job priority limit ordered retain) r = says_something mtapi_standard handle_told r
fits_op (op.QueueGet id) r = says_something mtapi_standard handle_told r
fits_op (op.QueueEnable q) r = says_something mtapi_standard done r
fits_op (op.QueueDisable q) r = says_something mtapi_standard done r
fits_op (op.QueueDelete q) r = says_something mtapi_standard done r
fits_op (op.MutexCreate id recursive) r = says_something mrapi_standard handle_told r
fits_op (op.MutexGet id) r = says_something mrapi_standard handle_told r
fits_op (op.MutexDelete x) r = says_something mrapi_standard done r
fits_op (op.MutexUnlock x key) r = says_something mrapi_standard done r
fits_op (op.SemCreate id limit) r = says_something mrapi_standard handle_told r
fits_op (op.SemGet id) r = says_something mrapi_standard handle_told r
fits_op (op.SemDelete x) r = says_something mrapi_standard done r
fits_op (op.SemUnlock x) r = says_something mrapi_standard done r
fits_op (op.RwlCreate id limit) r = says_something mrapi_standard handle_told r
fits_op (op.RwlGet id) r = says_something mrapi_standard handle_told r
fits_op (op.RwlDelete x) r = says_something mrapi_standard done r
fits_op (op.RwlUnlock x writer) r = says_something mrapi_standard done r
fits_op (op.ShmemCreate id cells) r = says_something mrapi_standard handle_told r
fits_op (op.ShmemGet id) r = says_something mrapi_standard handle_told r
fits_op (op.ShmemDelete x) r = says_something mrapi_standard done r
fits_op (op.ShmemAttach x) r = says_something mrapi_standard done r
fits_op (op.ShmemDetach x) r = says_something mrapi_standard done r
fits_op (op.ShmemRead x cell) r = says_something mrapi_standard number_in_answer r
fits_op (op.ShmemWrite x cell value) r = says_something mrapi_standard done r
fits_op _ r = true

abbrev pub is_answer_found : Wanted → Reply → Bool
is_answer_found (want.Task t) r = says_something mtapi_standard end_in_reply r
is_answer_found want.Entrance r = says_something mtapi_standard done r
is_answer_found (want.AllMembers g) r = says_something mtapi_standard done r
is_answer_found (want.FirstMember g) r = says_something mtapi_standard given r
is_answer_found (want.Mutex x) r = says_something mrapi_standard key r
is_answer_found (want.Sem x) r = says_something mrapi_standard done r
is_answer_found (want.Rwl x writer) r = says_something mrapi_standard done r
