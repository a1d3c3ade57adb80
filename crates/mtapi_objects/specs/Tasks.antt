-- Tasks: what a task is, and what a look, a cancel and the steps of its worker do to it.
use Rattle.std.specs.Prelude.{ℕ, ◌+◌, Bool, true, false, not, ◌&&◌, ◌||◌, ◌==◌, nat_lt, nat_le, List, [], ◌∷◌, length, ℤ, pos, ◌+ℤ◌, Option, Some, None, is_some, is_none, if◌then◌else◌}
use Rattle.std.specs.Ordering.{int_eq}
use Rattle.std.specs.Cmp.Lexicographic.{pointwise}
use Rattle.mtapi_values.specs.declared.kinds.Kind.{Kind}
use Rattle.mtapi_values.specs.declared.kinds.Kind.TheVariants.{Add, Mul, Max, Div, Gcd, Echo, Triangle, Fail, Watch, Tally}
use Rattle.mtapi_values.specs.declared.statuses.MtapiStatus.{MtapiStatus}
use Rattle.mtapi_values.specs.declared.statuses.MtapiStatus.TheVariants.{ErrParameter, ErrTaskInvalid, ErrWaitPending, ErrArgSize, ErrActionFailed}
use Rattle.mtapi_values.specs.declared.ends.TaskEnd.{TaskEnd}
use Rattle.mtapi_values.specs.declared.ends.TaskEnd.TheVariants.{Completed, Cancelled, Failed}
use Rattle.mtapi_values.specs.Conditions.{holds}
use Rattle.mtapi_values.specs.Seats.{is_other}
use Rattle.handle_pool.specs.Issued.{Listed}

-- scheduled; running on a worker with a kind; over, with its end and the number of its end
pub data TaskState : Type 0 where
  Scheduled : TaskState
  Running : ℕ → Kind → TaskState
  Ended : TaskEnd → ℕ → TaskState

-- what a tally has done so far: its stage, how it ends at stage 4, the number that it read, and the handles of its mutex and its
-- segment. The stages: 0 it has done nothing, 1 it has both, 2 it has read, 3 it has written, 4 it has failed
pub record TallyNotes : Type 0 where
  pub stage : ℕ
  pub verdict : TaskEnd
  pub kept : ℤ
  pub mutex : ℕ
  pub segment : ℕ

-- a tally that has done nothing
abbrev pub no_tally : TallyNotes
no_tally = record { stage = 0; verdict = Cancelled; kept = pos 0; mutex = 0; segment = 0 }

-- what is noted of a task: whether nobody waits for its end, its group, the seat that waits for it, whether cancelling was requested,
-- how often a watch asked whether it was, whether the watch was told so, and what a tally has done
pub record Notes : Type 0 where
  pub detached : Bool
  pub group : Option ℕ
  pub waiter : Option ℕ
  pub requested : Bool
  pub looks : ℕ
  pub seen : Bool
  pub tally : TallyNotes

-- what a task was started with, the number of its start, how far it has come, and what is noted of it
pub record Task : Type 0 where
  pub job : ℕ
  pub args : List ℤ
  pub priority : ℕ
  pub cores : ℕ
  pub queue : Option ℕ
  pub start : ℕ
  pub state : TaskState
  pub notes : Notes

-- what a start or an enqueue asks for
pub record NewTask : Type 0 where
  pub job : ℕ
  pub args : List ℤ
  pub priority : ℕ
  pub cores : ℕ
  pub detached : Bool
  pub group : Option ℕ
  pub queue : Option ℕ

-- the notes of a new task
abbrev pub new_notes : Bool → Option ℕ → Notes
new_notes detached group = record { detached = detached; group = group; waiter = None; requested = false; looks = 0; seen = false; tally = no_tally }

-- the scheduled task that it becomes, with the number of its start
abbrev pub new_task : NewTask → ℕ → Task
new_task t start = record {
  job = t.job;
  args = t.args;
  priority = t.priority;
  cores = t.cores;
  queue = t.queue;
  start = start;
  state = Scheduled;
  notes = new_notes t.detached t.group;
}

-- the task hasn't begun
abbrev pub scheduled : TaskState → Bool
scheduled Scheduled = true
scheduled (Running w k) = false
scheduled (Ended e n) = false

-- the worker on which it runs, and with which kind
abbrev pub runner : TaskState → Option (ℕ × Kind)
runner Scheduled = None
runner (Running w k) = Some (w, k)
runner (Ended e n) = None

-- its end, with the number of its end
abbrev pub end_of : TaskState → Option (TaskEnd × ℕ)
end_of Scheduled = None
end_of (Running w k) = None
end_of (Ended e n) = Some (e, n)

-- a task that hasn't begun
abbrev pub is_unstarted : Task → Bool
is_unstarted t = scheduled t.state

-- a task that hasn't ended
abbrev pub is_unended : Task → Bool
is_unended t = is_none (end_of t.state)

-- a task that runs on this worker
abbrev pub runs_on : ℕ → Task → Bool
runs_on w t = holds (λ r. r.0 == w) (runner t.state)

-- the task in another state
abbrev pub with_state : TaskState → Task → Task
with_state x t = record t { state = x }

-- the task with other notes
abbrev pub with_notes : (Notes → Notes) → Task → Task
with_notes f t = record t { notes = f t.notes }

-- The end of a task

-- the end gets this number; a detached task stops being live
abbrev pub ended : TaskEnd → ℕ → Listed Task → Listed Task
ended e n r = record { handle = r.handle; live = r.live && not r.fields.notes.detached; fields = with_state (Ended e n) r.fields }

-- every live task that passes ends, in order of their starts, with numbers from n on
unfoldable pub end_each : (Task → Bool) → TaskEnd → ℕ → List (Listed Task) → List (Listed Task)
end_each p e n [] = []
end_each p e n (r ∷ rs) = if r.live && p r.fields then ended e n r ∷ end_each p e (n + 1) rs else r ∷ end_each p e n rs

-- a running task is marked as requested to cancel
abbrev pub cancel_requested : Notes → Notes
cancel_requested n = record n { requested = true }

-- A look by a seat

-- what a look by this seat at a live task is refused for
abbrev pub task_look_refusals : ℕ → Task → List (Bool × MtapiStatus)
task_look_refusals who t = (t.notes.detached || is_some t.notes.group, ErrParameter) ∷ (is_other who t.notes.waiter, ErrWaitPending) ∷ []

-- this seat waits for it, or none does
abbrev pub with_waiter : Option ℕ → Notes → Notes
with_waiter w n = record n { waiter = w }

-- The steps of a running task, on a worker

-- kinds by number, so that two can be compared
abbrev pub kind_number : Kind → ℕ
kind_number Add = 1
kind_number Mul = 2
kind_number Max = 3
kind_number Div = 4
kind_number Gcd = 5
kind_number Echo = 6
kind_number Triangle = 7
kind_number Fail = 8
kind_number Watch = 9
kind_number Tally = 10

-- it runs on the worker, with this kind
abbrev pub runs_as : ℕ → Kind → Task → Bool
runs_as w k t = holds (λ r. (r.0 == w) && (kind_number r.1 == kind_number k)) (runner t.state)

-- a finish with this kind and these arguments is refused where the task doesn't run so
abbrev pub finish_refusals : ℕ → Kind → List ℤ → Task → List (Bool × MtapiStatus)
finish_refusals w kind args t = (not (runs_as w kind t && pointwise int_eq t.args args), ErrTaskInvalid) ∷ []

-- how often a watch with these arguments looks, where they are one number from 0 to 64
abbrev pub watch_looks : List ℤ → Option ℕ
watch_looks (pos n ∷ []) = if nat_le n 64 then Some n else None
watch_looks _ = None

-- a watch may ask once more while it has not seen the request and has looks left
abbrev pub asked_refusals : ℕ → Task → List (Bool × MtapiStatus)
asked_refusals w t =
    (not (runs_as w Watch t), ErrTaskInvalid)
    ∷ (is_none (watch_looks t.args) || t.notes.seen || holds (λ n. t.notes.looks == n) (watch_looks t.args), ErrParameter) ∷ []

-- what an ask leaves: it has seen the request, or it has looked once more
abbrev pub asked_once : Notes → Notes
asked_once n = if n.requested then record n { seen = true } else record n { looks = n.looks + 1 }

-- a watch with good arguments may end once it has seen the request or has no looks left
abbrev pub watch_end_refusals : ℕ → Task → List (Bool × MtapiStatus)
watch_end_refusals w t =
    (not (runs_as w Watch t), ErrTaskInvalid)
    ∷ (not t.notes.seen && holds (λ n. nat_lt t.notes.looks n) (watch_looks t.args), ErrParameter) ∷ []

-- how a watch ends
abbrev pub watch_end : Task → TaskEnd
watch_end t =
    if not (length t.args == 1) then Failed ErrArgSize
    else if is_none (watch_looks t.args) then Failed ErrActionFailed
    else if t.notes.seen then Cancelled else Completed t.args

-- The steps of a tally, on a worker

-- what its four arguments name: the ids of a mutex and of a segment, a cell, and the number to add
pub record Adds : Type 0 where
  pub mutex : ℕ
  pub segment : ℕ
  pub cell : ℕ
  pub number : ℤ

-- what its arguments name, where they are four and the first three aren't negative
abbrev pub tally_args : List ℤ → Option Adds
tally_args (pos m ∷ pos s ∷ pos cell ∷ v ∷ []) = Some (record { mutex = m; segment = s; cell = cell; number = v })
tally_args _ = None

-- the cell that it adds to, and the number that it adds
abbrev pub cell_in : Option Adds → ℕ
cell_in None = 0
cell_in (Some a) = a.cell

abbrev pub number_in : Option Adds → ℤ
number_in None = pos 0
number_in (Some a) = a.number

-- the number that it read and the one that it adds, together
abbrev pub added : Task → ℤ
added t = t.notes.tally.kept +ℤ number_in (tally_args t.args)

-- the notes with what a tally has done
abbrev pub with_tally : (TallyNotes → TallyNotes) → Notes → Notes
with_tally f n = record n { tally = f n.tally }

-- it has failed with this status; it has both; it has read this number; it has written
abbrev pub tally_failed : MtapiStatus → TallyNotes → TallyNotes
tally_failed c t = record t { stage = 4; verdict = Failed c }

abbrev pub tally_has : ℕ → ℕ → TallyNotes → TallyNotes
tally_has mutex segment t = record t { stage = 1; mutex = mutex; segment = segment }

abbrev pub tally_read : ℤ → TallyNotes → TallyNotes
tally_read z t = record t { stage = 2; kept = z }

abbrev pub tally_written : TallyNotes → TallyNotes
tally_written t = record t { stage = 3 }
