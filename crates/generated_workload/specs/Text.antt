-- The text of the generated workload.
use Rattle.std.specs.Prelude.{ℕ, ℤ, zero, suc, pos, ◌%◌, ◌==◌, List, [], ◌∷◌, ◌++◌, codes, if◌then◌else◌}
use Rattle.std.specs.List.{join_with_byte}
use Rattle.std.specs.Fmt.{decimal}
use Rattle.number_text.specs.Lists.{list_text}
use Rattle.workload_file.specs.Written.{line_text}
use Rattle.generated_workload.specs.Generated.{generated_task_name}

-- the words of the node's line
abbrev pub node_words : ℕ → ℕ → List (List ℕ)
node_words n w = codes "node" ∷ (codes "workers=" ++ decimal w) ∷ (codes "max_tasks=" ++ decimal n) ∷ []

-- the words of a start in the group
abbrev pub start_words : List ℕ → ℕ → List ℤ → List (List ℕ)
start_words name job args = codes "start" ∷ name ∷ (codes "job=" ++ decimal job) ∷ (codes "args=" ++ list_text args) ∷ codes "group=g" ∷ []

-- the words of a task: an even one is given its number and 7, and an odd one its number modulo 64
abbrev pub task_words : ℕ → List (List ℕ)
task_words i = if i % 2 == 0 then start_words (generated_task_name i) 1 (pos i ∷ pos 7 ∷ []) else start_words (generated_task_name i) 2 (pos (i % 64) ∷ [])

-- the lines of the first n tasks
unfoldable pub generated_task_lines : ℕ → List (List ℕ)
generated_task_lines zero = []
generated_task_lines (suc n) = generated_task_lines n ++ line_text (task_words n) ∷ []

-- the lines before the first task
abbrev pub first_lines : ℕ → ℕ → List (List ℕ)
first_lines n w = line_text (node_words n w) ∷ codes "action a job=1 kind=add" ∷ codes "action b job=2 kind=triangle" ∷ codes "group g" ∷ []

-- the line behind all tasks
abbrev pub final_line : List ℕ
final_line = codes "wait_all g timeout=inf"

-- the text of n tasks with w workers: its lines with a line feed between them
abbrev pub generated_text : ℕ → ℕ → List ℕ
generated_text n w = join_with_byte 10 (first_lines n w ++ (generated_task_lines n ++ final_line ∷ []))
