-- The rows of the ops by which callers start tasks, look at them and cancel them.
use Rattle.std.specs.Prelude.{ℕ, Bool, not, ◌&&◌, ◌||◌, ◌==◌, nat_lt, List, [], ◌∷◌, ◌++◌, ℤ, Option, Some, None, is_some, is_none, option_map, if◌then◌else◌}
use Rattle.mtapi_machine.specs.Names.{MtapiStatus, Cancelled, GroupHandle, Mask, holds, live_object, any_listed, count_listed, has_job, has_enabled_job, NewTask, TaskState, Scheduled, Running, Ended, cancel_requested, task_look_refusals, with_waiter, Queue, is_unended_in, put_refusals}
use Rattle.mtapi_values.specs.declared.statuses.MtapiStatus.TheVariants as m
use Rattle.mtapi_machine.specs.declared.replies.Reply.{Reply}
use Rattle.mtapi_machine.specs.declared.replies.Reply.TheVariants.{Ok, Pending, Mtapi}
use Rattle.mtapi_machine.specs.declared.replies.Reply.TheVariants as reply
use Rattle.mtapi_machine.specs.State.{State, tasks, queues}
use Rattle.mtapi_machine.specs.Moves.{starts_task, ends_task, notes, leaves, is_served}
use Rattle.mtapi_machine.specs.Row.{Row, unless, says, gives, mtapi_unless, mtapi, mtapi_open, on, creates}

-- Starting

-- what the job, the group and the cores of a new task may be refused for
abbrev pub start_refusals : State → NewTask → List (Bool × MtapiStatus)
start_refusals s t =
    (not (any_listed (has_job t.job) s.actions), m.ErrJobInvalid)
    ∷ (holds (λ g. is_none (live_object s.groups g)) t.group, m.ErrGroupInvalid)
    ∷ (not (any_listed (has_enabled_job t.job) s.actions), m.ErrActionDisabled)
    ∷ (not (is_served s t.job t.cores), m.ErrNoCore) ∷ []

-- a task may not be detached and in a group
abbrev pub is_detached_member : Bool → Option GroupHandle → Bool
is_detached_member detached group = detached && is_some group

abbrev pub number_of : Option GroupHandle → Option ℕ
number_of g = option_map (λ x. x.0) g

-- the task that a start asks for: it has no queue
abbrev pub asked_for : ℕ → List ℤ → ℕ → Mask → Bool → Option GroupHandle → NewTask
asked_for job args priority cores detached group =
    record { job = job; args = args; priority = priority; cores = cores.0; detached = detached; group = number_of group; queue = None }

-- a scheduled task
abbrev pub task_start : State → Reply → ℕ → List ℤ → ℕ → Mask → Bool → Option GroupHandle → Row
task_start s r job args priority cores detached group =
    let t : NewTask = asked_for job args priority cores detached group in
    mtapi_open s (mtapi_unless
    ((not (nat_lt priority s.terms.settings.priorities) || is_detached_member detached group, m.ErrParameter) ∷ start_refusals s t)
    (creates tasks s r (λ h. starts_task h t)))

-- the task that an enqueue asks for: it has the queue's job and priority
abbrev pub asked_of : ℕ → Queue → List ℤ → Mask → Bool → Option GroupHandle → NewTask
asked_of q x args cores detached group =
    record { job = x.job; args = args; priority = x.priority; cores = cores.0; detached = detached; group = number_of group; queue = Some q }

-- a scheduled task of a queue
abbrev pub task_enqueue : State → Reply → ℕ → List ℤ → Mask → Bool → Option GroupHandle → Row
task_enqueue s r q args cores detached group =
    mtapi_open s (unless (is_detached_member detached group) (Mtapi m.ErrParameter) (on queues s q (λ x.
    let t : NewTask = asked_of q x args cores detached group in
    mtapi_unless (put_refusals x ++ start_refusals s t ++ (count_listed (is_unended_in q) s.tasks == x.limit, m.ErrQueueLimit) ∷ [])
    (creates tasks s r (λ h. starts_task h t)))))

-- Looking and cancelling

-- a look at a task in this state: an ended one gives its end and stops being live; else this seat waits on or, at its last look, no longer
abbrev pub looks_at : ℕ → ℕ → Bool → TaskState → Row
looks_at who h last (Ended e n) = gives (reply.Ended e) (leaves h ∷ [])
looks_at who h last _ = if last then gives (Mtapi m.Timeout) (notes h (with_waiter None) ∷ []) else gives Pending (notes h (with_waiter (Some who)) ∷ [])

abbrev pub task_look : State → ℕ → ℕ → Bool → Row
task_look s who t last = mtapi s (on tasks s t (λ x. mtapi_unless (task_look_refusals who x) (looks_at who t last x.state)))

-- a scheduled task ends cancelled; a running one is asked to stop; one that has ended is left
abbrev pub cancels : ℕ → TaskState → Row
cancels h Scheduled = gives Ok (ends_task h Cancelled ∷ [])
cancels h (Running w k) = gives Ok (notes h cancel_requested ∷ [])
cancels h (Ended e n) = says Ok

abbrev pub task_cancel : State → ℕ → Row
task_cancel s t = mtapi s (on tasks s t (λ x. cancels t x.state))
