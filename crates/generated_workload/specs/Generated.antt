-- The workload that is generated: tasks of two sorts in one group, and a wait for all of them.
use Rattle.std.specs.Prelude.{ℕ, ℤ, zero, suc, pos, ◌+◌, ◌-◌, ◌^◌, ◌%◌, ◌==◌, List, [], ◌∷◌, ◌++◌, codes, false, Some, None, if◌then◌else◌}
use Rattle.std.specs.Fmt.{decimal}
use Rattle.mtapi_values.specs.Attributes.{NodeSettings}
use Rattle.mtapi_values.specs.declared.kinds.Kind.TheVariants as kind
use Rattle.mtapi_values.specs.declared.masks.Mask.{Mask}
use Rattle.mtapi_values.specs.declared.timeouts.Timeout.TheVariants as timeout
use Rattle.workload_file.specs.declared.workload.Deed.{Deed}
use Rattle.workload_file.specs.declared.workload.Deed.TheVariants as deed
use Rattle.workload_file.specs.declared.workload.Statement.{Statement}
use Rattle.workload_file.specs.declared.workload.Workload.{Workload}
use Rattle.workload_file.specs.Changes.{usual_settings}

-- a statement at this line that binds this name
abbrev pub binding_at : ℕ → List ℕ → Deed → Statement
binding_at line name deed = record { line = line; name = Some name; deed = deed }

abbrev pub all_cores : Mask
all_cores = record { 0 = 2 ^ 64 - 1 }

-- an action that adds, one that gives triangle numbers, and a group
abbrev pub first_statements : List Statement
first_statements =
    binding_at 2 (codes "a") (deed.Action 1 kind.Add all_cores)
    ∷ binding_at 3 (codes "b") (deed.Action 2 kind.Triangle all_cores)
    ∷ binding_at 4 (codes "g") deed.Group
    ∷ []

-- a task of this job in the group, which the third statement binds
abbrev pub start_deed : ℕ → List ℤ → Deed
start_deed job args = deed.Start job args 0 all_cores false (Some 2)

-- an even task adds its number and 7, and an odd one gives the triangle number of its number modulo 64
abbrev pub task_deed : ℕ → Deed
task_deed i = if i % 2 == 0 then start_deed 1 (pos i ∷ pos 7 ∷ []) else start_deed 2 (pos (i % 64) ∷ [])

-- the name of a task: t and its number
abbrev pub generated_task_name : ℕ → List ℕ
generated_task_name i = 116 ∷ decimal i

-- a task, by its number from 0; the first one stands at line 5
abbrev pub task_statement : ℕ → Statement
task_statement i = binding_at (i + 5) (generated_task_name i) (task_deed i)

-- the first n tasks
unfoldable pub generated_tasks : ℕ → List Statement
generated_tasks zero = []
generated_tasks (suc n) = generated_tasks n ++ task_statement n ∷ []

-- the wait for all tasks, behind n of them
abbrev pub last_statement : ℕ → Statement
last_statement n = record { line = n + 5; name = None; deed = deed.WaitAll 2 timeout.Infinite }

-- room for n tasks, and w workers
abbrev pub generated_settings : ℕ → ℕ → NodeSettings
generated_settings n w = record usual_settings { workers = w; tasks = n }

-- the workload of n tasks with w workers: the node stands at line 1, and all else in main's part
unfoldable pub generated : ℕ → ℕ → Workload
generated n w = record {
  node_line = 1;
  settings = generated_settings n w;
  parts = record { line = 0; name = codes "main"; statements = first_statements ++ (generated_tasks n ++ last_statement n ∷ []) } ∷ [];
}
