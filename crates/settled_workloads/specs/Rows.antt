-- What the statements of a workload ask for, as the code has it.
use Rattle.std.specs.Prelude.{ℕ, ◌==◌, Bool, true, not, ◌&&◌, ◌||◌, List, [], ◌∷◌, Option, Some, None, ℤ, if◌then◌else◌}
use Rattle.std.specs.List.{list_any, list_all, flat_map}
use Rattle.workload_file.specs.declared.workload.Statement.{Statement}
use Rattle.settled_runs.specs.Plain.{queue_in}
use Rattle.settled_runs.specs.Settled.{are_alike}
use Rattle.mtapi_values.specs.Statuses.{mtapi_number}
use Rattle.mtapi_values.specs.declared.kinds.Kind.{Kind}
use Rattle.mtapi_values.specs.declared.statuses.MtapiStatus.{MtapiStatus}
use Rattle.action_fn.specs.Answers.{answer_of}
use Rattle.mtapi_objects.specs.Actions.{Action, new_action}
use Rattle.mtapi_objects.specs.Groups.{fault_of}
use Rattle.mtapi_objects.specs.Queues.{Queue}
use Rattle.mtapi_objects.specs.Tasks.{NewTask}
use Rattle.mtapi_machine.specs.WorkRows.{task_end}
use Rattle.settled_workloads.specs.declared.rows.ActionRow.{ActionRow}
use Rattle.settled_workloads.specs.declared.rows.QueueRow.{QueueRow}
use Rattle.settled_workloads.specs.declared.rows.TaskRow.{TaskRow}

-- the actions of rows
abbrev pub row_action : ActionRow → Action
row_action r = new_action r.job r.kind r.cores.0

abbrev pub action_row : Option ActionRow → List Action
action_row None = []
action_row (Some r) = row_action r ∷ []

-- the row of a queue
abbrev pub queue_row : Queue → QueueRow
queue_row q = record { id = q.id; job = q.job; priority = q.priority; limit = q.limit }

-- the task of a row
abbrev pub row_task : TaskRow → NewTask
row_task t = record { job = t.job; args = t.args.now; priority = t.priority; cores = t.cores.0; detached = t.detached; group = t.group; queue = t.queue }

-- the kind of the first action of the job
abbrev pub kind_found : ℕ → List ActionRow → Option Kind
kind_found job [] = None
kind_found job (r ∷ rs) = if r.job == job then Some r.kind else kind_found job rs

-- the status of what a kind answers, where that isn't completed
abbrev pub fault_by : Kind → List ℤ → Option MtapiStatus
fault_by kind args = fault_of (task_end (answer_of kind args))

-- the ids of the queues that these statements make
abbrev pub id_in : Option Queue → List ℕ
id_in None = []
id_in (Some q) = q.id ∷ []

abbrev pub ids_of : List Statement → List ℕ
ids_of ss = flat_map (λ s. id_in (queue_in s.deed)) ss

-- the numbers differ
abbrev pub differ : List ℕ → Bool
differ [] = true
differ (x ∷ xs) = not (list_any (λ y. y == x) xs) && differ xs

-- the first of these agrees with each other one: of actions, of numbers, and of faults of groups
abbrev pub first_is_alike : List ActionRow → Bool
first_is_alike [] = true
first_is_alike (r ∷ rs) = list_all (λ s. are_alike (row_action r) (row_action s)) rs

abbrev pub first_differs : List ℕ → Bool
first_differs [] = true
first_differs (x ∷ xs) = not (list_any (λ y. y == x) xs)

abbrev pub first_agrees : List (ℕ × MtapiStatus) → Bool
first_agrees [] = true
first_agrees (x ∷ xs) = list_all (λ y. not (x.0 == y.0) || (mtapi_number x.1 == mtapi_number y.1)) xs
