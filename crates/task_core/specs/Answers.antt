-- What the calls on one task answer, and what they leave.
use Rattle.std.specs.Prelude.{ℕ, Bool, true, false, ◌==◌, List, length, ℤ, Option, Some, None, is_none, Result, Ok, Err, if◌then◌else◌}
use Rattle.mtapi_values.specs.declared.statuses.MtapiStatus.{MtapiStatus}
use Rattle.mtapi_values.specs.declared.statuses.MtapiStatus.TheVariants.{Timeout, ErrTaskInvalid, ErrArgSize, ErrActionFailed}
use Rattle.mtapi_values.specs.declared.ends.TaskEnd.{TaskEnd}
use Rattle.mtapi_values.specs.declared.ends.TaskEnd.TheVariants.{Failed}
use Rattle.mtapi_values.specs.Conditions.{first}
use Rattle.mtapi_objects.specs.Tasks.{Task, with_notes, end_of, task_look_refusals, asked_refusals, asked_once, watch_end_refusals, watch_end}
use Rattle.task_core.specs.declared.states.TaskLook.{TaskLook}
use Rattle.task_core.specs.declared.states.TaskLook.TheVariants.{Ended, Pending, Refused}

-- the refusal, or else this answer
abbrev pub unless_refused : {T : Type 0} → Option MtapiStatus → T → Result T MtapiStatus
unless_refused None answer = Ok answer
unless_refused (Some status) answer = Err status

-- the task leaves its group, and nobody waits for it any more
abbrev pub without_group : Task → Task
without_group t = with_notes (λ n. record n { group = None; detached = true }) t

-- what a look says of a task that hasn't ended
abbrev pub unended_look : Bool → TaskLook
unended_look true = Refused Timeout
unended_look false = Pending

-- what a look says of a task that refuses none
abbrev pub look_at_end : Option (TaskEnd × ℕ) → Bool → TaskLook
look_at_end None last = unended_look last
look_at_end (Some e) last = Ended e.0

abbrev pub look_unless : Option MtapiStatus → TaskLook → TaskLook
look_unless None look = look
look_unless (Some status) look = Refused status

-- the reply to a look of this seat at a task that may be live
abbrev pub task_look_reply : ℕ → Bool → Option Task → TaskLook
task_look_reply who last None = Refused ErrTaskInvalid
task_look_reply who last (Some t) = look_unless (first (task_look_refusals who t)) (look_at_end (end_of t.state) last)

-- whom a look leaves as the waiter
abbrev pub waiter_after : ℕ → Bool → Option ℕ
waiter_after who true = None
waiter_after who false = Some who

-- the reply to an ask on this worker
abbrev pub asked_reply : ℕ → Task → Result Bool MtapiStatus
asked_reply worker t = unless_refused (first (asked_refusals worker t)) t.notes.requested

abbrev pub cancel_asked : ℕ → Option Task → Result Bool MtapiStatus
cancel_asked worker None = Err ErrTaskInvalid
cancel_asked worker (Some t) = asked_reply worker t

-- what an ask leaves
abbrev pub after_asked : ℕ → Task → Task
after_asked worker t = if is_none (first (asked_refusals worker t)) then with_notes asked_once t else t

-- the reply to a watch that wants to end on this worker
abbrev pub watch_end_reply : ℕ → Task → Result TaskEnd MtapiStatus
watch_end_reply worker t = unless_refused (first (watch_end_refusals worker t)) (watch_end t)

abbrev pub watch_end_of : ℕ → Option Task → Result TaskEnd MtapiStatus
watch_end_of worker None = Err ErrTaskInvalid
watch_end_of worker (Some t) = watch_end_reply worker t

-- how a watch ends whose arguments aren't one number from 0 to 64
abbrev pub args_fault : List ℤ → TaskEnd
args_fault args = if length args == 1 then Failed ErrActionFailed else Failed ErrArgSize
