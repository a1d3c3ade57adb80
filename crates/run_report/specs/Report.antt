-- The report of a run.
use Rattle.std.specs.Prelude.{ℕ, List, ◌++◌, length, Option}
use Rattle.std.specs.List.{flat_map}
use Rattle.run_report.specs.Names.{TaskEnd, Workload, Layout, terms_with, end_at, NodeEntry, after}
use Rattle.mtapi_machine.specs.declared.terms.Terms.{Terms}
use Rattle.run_report.specs.Replies.{Told, all_told}
use Rattle.run_report.specs.Calls.{task_lines, call_lines}

-- the terms of a run of a workload: its settings, and one caller for each part
abbrev pub run_terms : Layout → Workload → Terms
run_terms layout load = terms_with layout load.settings (length load.parts)

-- each part with the replies to its statements
abbrev pub parts_told : Workload → List NodeEntry → List Told
parts_told load es = all_told load.settings.workers es load.parts

-- the lines of all tasks, part by part, and then those of all calls
abbrev pub report_by : (ℕ → Option TaskEnd) → List Told → List ℕ
report_by ends parts = flat_map (task_lines ends) parts ++ flat_map call_lines parts

-- the report of a run with this journal: a task's end is the one in its record in the journal's last state
unfoldable pub report : Layout → Workload → List NodeEntry → List ℕ
report layout load es = report_by (end_at (after (run_terms layout load) es).tasks) (parts_told load es)
