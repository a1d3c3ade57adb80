-- The plain summary of a workload, told from its statements alone: it knows no workers, no order and no journal.
use Rattle.std.specs.Prelude.{◌≡◌, ℕ, ◌+◌, List, [], ◌∷◌, Option, Some, None}
use Rattle.settled_runs.specs.Names.{Layout, Action, NewTask, NodeEntry, Statement, Part, Workload, no_totals, with_end, totals_text, summary}
use Rattle.run_report.specs.declared.totals.Totals.{Totals}
use Rattle.settled_runs.specs.Plain.{all_statements, actions_in, task_in, plain_end}
use Rattle.settled_runs.specs.RunGranted.{SettledRun}

-- with a statement that asks for this task, if any: it ends plainly
abbrev pub with_plain_task : List Action → Totals → Option NewTask → Totals
with_plain_task actions t None = t
with_plain_task actions t (Some x) = record (with_end t (plain_end actions x)) { tasks = t.tasks + 1 }

-- with these statements of a part, whose places stand for what all of them bind
unfoldable pub with_plain_tasks : List Action → List Statement → Totals → List Statement → Totals
with_plain_tasks actions all t [] = t
with_plain_tasks actions all t (s ∷ ss) = with_plain_tasks actions all (with_plain_task actions t (task_in all s.deed)) ss

-- with these parts
unfoldable pub with_plain_parts : List Action → Totals → List Part → Totals
with_plain_parts actions t [] = t
with_plain_parts actions t (p ∷ ps) = with_plain_parts actions (with_plain_tasks actions p.statements t p.statements) ps

-- the line of all tasks, each counted by its plain end
unfoldable pub plain_summary : Workload → List ℕ
plain_summary load = totals_text (with_plain_parts (actions_in (all_statements load)) no_totals load.parts)

-- the summary of a run of a settled workload is the plain one, whatever the number of workers and in whichever order the calls came
abbrev pub SettledSummariesArePlain : Type 0
SettledSummariesArePlain = (layout : Layout) (load : Workload) (es : List NodeEntry) (ns : List ℕ) → SettledRun layout load es ns
    → summary layout load es ≡ plain_summary load
