-- How the tasks of a run of a settled workload end.
use Rattle.std.specs.Prelude.{◌≡◌, ℕ, true, List, ◌∷◌, ◌++◌, length, Some}
use Rattle.settled_runs.specs.Names.{Layout, NewTask, Workload, NodeEntry, Legal, after, StartsTask, end_at, RunOf, run_terms}
use Rattle.history_law.specs.Accepted.{accepted}
use Rattle.settled_runs.specs.Plain.{all_statements, actions_in, plain_end}
use Rattle.settled_runs.specs.Settled.{is_settled}

-- at the end of these entries the task that the entry started has its plain end
pub record EndsAsPlanned (layout : Layout) (load : Workload) (es : List NodeEntry) (e : NodeEntry) (h : ℕ) : Type 0 where
  pub task : NewTask
  pub asked : StartsTask task e.op
  pub ends : end_at (after (run_terms layout load) es).tasks h ≡ plain_end (actions_in (all_statements load)) task

-- in a run of a settled workload each task that was accepted does, in whatever order its entries came
abbrev pub SettledTasksEndAsPlanned : Type 0
SettledTasksEndAsPlanned =
    (layout : Layout) (load : Workload) (es : List NodeEntry) (ns : List ℕ) → is_settled load ≡ true → Legal (run_terms layout load) es → length es ≡ length ns
    → RunOf load es ns
    → (before behind : List NodeEntry) (e : NodeEntry) (h : ℕ) → es ≡ before ++ e ∷ behind → accepted e ≡ Some h → EndsAsPlanned layout load es e h
