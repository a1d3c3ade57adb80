-- For each law that serves the run in threads a list that it refuses. Some lists are legal and have what the law leaves out: the op that
-- moves the phase, or the entry of the seat itself. Some laws refuse a state, or a reply.
use Rattle.std.specs.Prelude.{true, false, List, [], ◌∷◌, ◌++◌, None, pos, replicate, slice_set}
use Rattle.mtapi_values.specs.declared.kinds.Kind.TheVariants as kind
use Rattle.history_law.specs.Names.{Cancelled, Timeout, ErrTaskInvalid, Fails, Listed, Task, new_task, with_notes, with_state, no_tally, entry, State, opening, seats, NodeEntry, after, usual, main_entry, worker, worked_first_handle, add_task, picks_first, finishes_first, Op, h1}
use Rattle.mtapi_objects.specs.Tasks.{Ended}
use Rattle.mtapi_machine.specs.declared.ops.Op.TheVariants as op
use Rattle.mtapi_machine.specs.declared.replies.Reply.TheVariants as reply
use Rattle.mtapi_machine.specs.Worked.{task_handle}
use Rattle.history_law.specs.Accepted.{TasksEndOnce}
use Rattle.history_law.specs.Seats.{OnceListed, KeepsWaiter, WorkerKeeps, EndsInTime, KeepsPhase, KeepsRelease, KeepsEarly, AreUntouched, KeepsStops, BySeats, EntersBehindRelease, FinalsBehindStops, KeepsOnce, Work, HasMarks}
use Rattle.history_law.specs.Refused.{refused_action_op, too_early, final_first}
use Rattle.history_law.specs.Quiet.{EndsPlainly}
use Rattle.history_law.specs.Served.{ServesOp}
use Rattle.history_law.specs.TallyHolds.{TalliesHold}
use Rattle.history_law.specs.WorkedSum.{two_workers, gets_both, tallies_begin}

-- a node with a task
unfoldable pub started : List NodeEntry
started = main_entry op.Initialize reply.Ok ∷ main_entry refused_action_op (reply.Handle worked_first_handle)
    ∷ main_entry (add_task 0) (reply.Handle worked_first_handle) ∷ []

-- main waits for it, and looks a last time; the worker takes it, and ends it, or says that it ended too late
abbrev pub waits_entries : List NodeEntry
waits_entries = main_entry (op.TaskLook (task_handle worked_first_handle) false) reply.Pending ∷ []

abbrev pub looks_last : List NodeEntry
looks_last = main_entry (op.TaskLook (task_handle worked_first_handle) true) (reply.Mtapi Timeout) ∷ []

abbrev pub takes : List NodeEntry
takes = picks_first ∷ []

abbrev pub ends_entries : List NodeEntry
ends_entries = finishes_first ∷ []

abbrev pub ends_late : List NodeEntry
ends_late = worker (op.Finish (task_handle worked_first_handle) (record { kind = kind.Add; args = pos 2 ∷ pos 3 ∷ []; end = Fails Timeout })) reply.Ok ∷ []

-- the node is opened; main releases the callers; the node is closed; a caller enters
abbrev pub opens_entries : List NodeEntry
opens_entries = main_entry op.Initialize reply.Ok ∷ []

abbrev pub releases : List NodeEntry
releases = main_entry op.Initialize reply.Ok ∷ main_entry op.Release reply.Ok ∷ []

abbrev pub closes_it : List NodeEntry
closes_it = main_entry op.Close reply.Ok ∷ []

abbrev pub enters_first : List NodeEntry
enters_first = entry 2 op.Enter reply.Ok ∷ []

-- there is no seat 3
abbrev pub by_no_seat : List NodeEntry
by_no_seat = entry 3 op.Pick reply.Idle ∷ []

-- a state with these tasks, and one whose worker has stopped
abbrev pub state_with_tasks : List (Listed Task) → State
state_with_tasks l = record (opening usual) { tasks = l }

abbrev pub a_task : Task
a_task = new_task (record { job = 1; args = []; priority = 0; cores = 1; detached = false; group = None; queue = None }) 0

abbrev pub listed_once : Task → Listed Task
listed_once t = record { handle = worked_first_handle; live = true; fields = t }

abbrev pub has_looked : Task
has_looked = with_notes (λ n. record n { looks = 1 }) a_task

abbrev pub has_stopped : State
has_stopped = record (opening usual) { stopped = slice_set (replicate 25 false) 0 true }

-- a state with no mark of a worker
abbrev pub has_no_marks : State
has_no_marks = record (opening usual) { stopped = [] }

-- a state whose task was cancelled
abbrev pub was_cancelled : Task
was_cancelled = with_state (Ended Cancelled 0) a_task

-- what the worker has of the task that it took, and the op that finishes it
abbrev pub adding : Work
adding = record { kind = kind.Add; args = pos 2 ∷ pos 3 ∷ []; looks = 0; seen = false; tally = no_tally }

abbrev pub finishes_it : Op
finishes_it = finishes_first.op

-- a tally runs that has got its mutex and its segment
abbrev pub has_got_both : State
has_got_both = after two_workers (tallies_begin ++ gets_both 0 h1 ∷ [])

-- each law refuses its list or state
pub record RunLawsRefuse : Type 0 where
  pub accepted : TasksEndOnce usual too_early → ⊥
  pub once : OnceListed (state_with_tasks (listed_once a_task ∷ listed_once a_task ∷ [])) → ⊥
  pub once_stays : KeepsOnce (state_with_tasks (listed_once a_task ∷ [])) (state_with_tasks (listed_once a_task ∷ listed_once a_task ∷ [])) → ⊥
  pub waiter : KeepsWaiter (after usual (started ++ waits_entries)) looks_last 1 worked_first_handle → ⊥
  pub work : WorkerKeeps (after usual (started ++ takes)) (after usual (started ++ (takes ++ ends_entries))) 0 → ⊥
  pub served : ServesOp (after usual (started ++ takes)) 0 (task_handle worked_first_handle) adding finishes_it (reply.Mtapi ErrTaskInvalid) → ⊥
  pub untouched : AreUntouched (state_with_tasks (listed_once has_looked ∷ [])) → ⊥
  pub seats : BySeats (seats (opening usual)) by_no_seat → ⊥
  pub late : EndsInTime (after usual (started ++ (takes ++ ends_late))) → ⊥
  pub phase : KeepsPhase (opening usual) opens_entries → ⊥
  pub release : KeepsRelease (opening usual) releases → ⊥
  pub early : KeepsEarly (opening usual) closes_it → ⊥
  pub stopped : KeepsStops has_stopped (opening usual) → ⊥
  pub room : HasMarks has_no_marks → ⊥
  pub enter : EntersBehindRelease enters_first → ⊥
  pub final_step : FinalsBehindStops usual final_first → ⊥
  pub quiet_ends : EndsPlainly (state_with_tasks (listed_once was_cancelled ∷ [])) worked_first_handle → ⊥
  pub tally_mutex : TalliesHold (record has_got_both { mutexes = [] }) → ⊥
  pub tally_segment : TalliesHold (record has_got_both { segments = [] }) → ⊥
