-- The plain report of a workload, told from its statements alone: it knows no workers, no order and no journal.
use Rattle.std.specs.Prelude.{ℕ, ◌==◌, List, [], ◌∷◌, ◌++◌, Option, Some, None, slice_get, option_and_then, if◌then◌else◌}
use Rattle.std.specs.Option.{option_map, option_or}
use Rattle.std.specs.List.{find, flat_map}
use Rattle.settled_runs.specs.Names.{TaskEnd, MtapiStatus, mtapi_name, answer_of, Action, new_action, has_job, NewTask, fault_of, Queue, new_queue, Deed, Statement, Part, Workload}
use Rattle.mtapi_machine.specs.WorkRows.{task_end}
use Rattle.workload_file.specs.declared.workload.Deed.TheVariants as deed
use Rattle.workload_file.specs.Reading.{name_text}
use Rattle.run_report.specs.Tasks.{ended_text}
use Rattle.run_report.specs.Calls.{marked_line}

-- What the statements ask for

-- the statements of all parts, in order
abbrev pub all_statements : Workload → List Statement
all_statements load = flat_map (λ p. p.statements) load.parts

-- the action that a statement makes
abbrev pub action_in : Deed → List Action
action_in (deed.Action job kind cores) = new_action job kind cores.0 ∷ []
action_in _ = []

-- those that these statements make, in order
abbrev pub actions_in : List Statement → List Action
actions_in ss = flat_map (λ s. action_in s.deed) ss

-- the queue that a statement makes
abbrev pub queue_in : Deed → Option Queue
queue_in (deed.Queue id job priority limit ordered retain) = Some (new_queue id job priority limit ordered retain)
queue_in _ = None

-- the queue that the statement at this place makes
abbrev pub queue_at : List Statement → ℕ → Option Queue
queue_at ss place = option_and_then (λ s. queue_in s.deed) (slice_get ss place)

-- the task that a statement asks for, where the places of its part's statements stand for the handles of a group and a queue
unfoldable pub task_in : List Statement → Deed → Option NewTask
task_in ss (deed.Start job args priority cores detached group) =
    Some (record { job = job; args = args; priority = priority; cores = cores.0; detached = detached; group = group; queue = None })
task_in ss (deed.Enqueue queue args cores detached group) =
    option_map (λ q. record { job = q.job; args = args; priority = q.priority; cores = cores.0; detached = detached; group = group; queue = Some queue })
    (queue_at ss queue)
task_in ss _ = None

-- the end of a task where nothing but its action ends it: the answer of the kind of its job's first action
unfoldable pub plain_end : List Action → NewTask → Option TaskEnd
plain_end actions t = option_map (λ a. task_end (answer_of a.kind t.args)) (find (has_job t.job) actions)

-- the status of this end, where it isn't completed
unfoldable pub plain_fault : List Action → NewTask → Option MtapiStatus
plain_fault actions t = option_and_then fault_of (plain_end actions t)

-- The lines of tasks

-- the line of a statement that asks for a task: its part, a dot, its name, a space, and the plain end
abbrev pub plain_task_line : List Action → List ℕ → Statement → Option NewTask → List ℕ
plain_task_line actions part s None = []
plain_task_line actions part s (Some t) = part ++ (46 ∷ (name_text s.name ++ (32 ∷ (ended_text (plain_end actions t) ++ 10 ∷ []))))

-- the lines of the tasks of a part
abbrev pub plain_task_lines : List Action → Part → List ℕ
plain_task_lines actions p = flat_map (λ s. plain_task_line actions p.name s (task_in p.statements s.deed)) p.statements

-- The lines of calls

-- for each group, by the place that bound it, the first fault of a member that was put into it since the last wait for all of them
abbrev pub Faults : Type 0
Faults = ℕ → Option MtapiStatus

abbrev pub no_faults : Faults
no_faults g = None

-- the group has this fault
abbrev pub with_fault : ℕ → Option MtapiStatus → Faults → Faults
with_fault g fault faults h = if h == g then fault else faults h

-- behind a task with this fault, if any, that was put into this group, if any
abbrev pub with_group_fault : Option ℕ → Option MtapiStatus → Faults → Faults
with_group_fault None fault faults = faults
with_group_fault (Some g) fault faults = with_fault g (option_or (faults g) fault) faults

-- behind a statement that asks for this task, if any
abbrev pub with_task_asked : List Action → Option NewTask → Faults → Faults
with_task_asked actions None faults = faults
with_task_asked actions (Some t) faults = with_group_fault t.group (plain_fault actions t) faults

-- behind a statement: a wait for all tasks of a group leaves none in it
unfoldable pub faults_behind : List Action → List Statement → Faults → Deed → Faults
faults_behind actions ss faults (deed.WaitAll group timeout) = with_fault group None faults
faults_behind actions ss faults d = with_task_asked actions (task_in ss d) faults

-- a wait for all tasks of a group writes its fault, and no other statement writes a line
unfoldable pub plain_call_line : List ℕ → Faults → Statement → Deed → List ℕ
plain_call_line part faults s (deed.WaitAll group timeout) = marked_line 33 part s.line (option_map mtapi_name (faults group))
plain_call_line part faults s _ = []

-- the lines of these statements of a part, behind those that left these faults
unfoldable pub plain_calls_from : List Action → Part → Faults → List Statement → List ℕ
plain_calls_from actions p faults [] = []
plain_calls_from actions p faults (s ∷ ss) =
    plain_call_line p.name faults s s.deed ++ plain_calls_from actions p (faults_behind actions p.statements faults s.deed) ss

-- the lines of the calls of a part
abbrev pub plain_call_lines : List Action → Part → List ℕ
plain_call_lines actions p = plain_calls_from actions p no_faults p.statements

-- The report

-- the lines of all tasks, part by part, and then those of all calls
unfoldable pub plain_report : Workload → List ℕ
plain_report load =
    flat_map (plain_task_lines (actions_in (all_statements load))) load.parts ++ flat_map (plain_call_lines (actions_in (all_statements load))) load.parts
