-- How the code's task records are seen as tasks, and what is read from one.
use Rattle.std.specs.Prelude.{ℕ, ◌≤◌, List, ℤ, Option, Some, None, unwrap_or}
use Rattle.std.specs.Option.{option_map}
use Rattle.mtapi_values.specs.declared.ends.TaskEnd.{TaskEnd}
use Rattle.mtapi_values.specs.declared.handles.GroupHandle.{GroupHandle}
use Rattle.mtapi_values.specs.declared.handles.QueueHandle.{QueueHandle}
use Rattle.mtapi_objects.specs.Tasks.{TaskState, Scheduled, Running, Ended, NewTask, watch_looks}
use Rattle.task_core.specs.declared.record.Progress.{Progress}
use Rattle.task_core.specs.declared.record.Progress.TheVariants as progress
use Rattle.task_core.specs.declared.states.TaskState.{TaskState as ShownState}
use Rattle.task_core.specs.declared.states.TaskState.TheVariants.{Scheduled as ShownScheduled, Running as ShownRunning, Ended as ShownEnded}
use Rattle.task_core.specs.declared.states.NewTask.{NewTask as AskedTask}

-- the numbers of handles
abbrev pub group_number : Option GroupHandle → Option ℕ
group_number g = option_map (λ (h : GroupHandle). h.0) g

abbrev pub queue_number : Option QueueHandle → Option ℕ
queue_number q = option_map (λ (h : QueueHandle). h.0) q

-- what a start or an enqueue asks for, with plain numbers
abbrev pub asked_task : AskedTask → NewTask
asked_task t = record {
  job = t.job;
  args = t.args;
  priority = t.priority;
  cores = t.cores.0;
  detached = t.detached;
  group = group_number t.group;
  queue = queue_number t.queue;
}

-- how far the task has come
abbrev pub state_of_progress : Progress → TaskState
state_of_progress progress.Scheduled = Scheduled
state_of_progress (progress.Running worker kind) = Running worker kind
state_of_progress (progress.Ended end number) = Ended end number

-- a state without the end
abbrev pub shown_state : TaskState → ShownState
shown_state Scheduled = ShownScheduled
shown_state (Running worker kind) = ShownRunning worker kind
shown_state (Ended end number) = ShownEnded

-- the end, and its number
abbrev pub end_noted : Option (TaskEnd × ℕ) → Option TaskEnd
end_noted None = None
end_noted (Some e) = Some e.0

abbrev pub number_noted : Option (TaskEnd × ℕ) → Option ℕ
number_noted None = None
number_noted (Some e) = Some e.1

-- a watch has looked no more often than its arguments say
abbrev pub LooksWithin : List ℤ → ℕ → Type 0
LooksWithin args looks = looks ≤ unwrap_or (watch_looks args) 0
