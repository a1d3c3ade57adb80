-- That no report and no deadlock of a workload is missing in a list.
use Rattle.std.specs.Prelude.{◌≡◌, ℕ, ◌≤◌, List, length}
use Rattle.std.specs.List.{Contains, Any}
use Rattle.workload_file.specs.declared.workload.Workload.{Workload}
use Rattle.mtapi_values.specs.declared.handles.Layout.{Layout}
use Rattle.mtapi_machine.specs.Legal.{NodeEntry, Legal}
use Rattle.workload_runs.specs.RunOf.{RunOf}
use Rattle.run_report.specs.Replies.{decided}
use Rattle.run_report.specs.Report.{report, run_terms}
use Rattle.begun_runs.specs.Begun.{Stuck}

-- each part has come as far in the one history as in the other: as many of its calls have come to a reply
abbrev pub SamePlaces : Workload → List NodeEntry → List NodeEntry → Type 0
SamePlaces load es ds = (who : ℕ) → load.settings.workers ≤ who → length (decided who ds) ≡ length (decided who es)

-- every legal journal of a run, in either layout, has one of these reports
abbrev pub HasAllReports : Workload → List (List ℕ) → Type 0
HasAllReports load reports =
    (layout : Layout) (es : List NodeEntry) (ns : List ℕ) → length es ≡ length ns → Legal (run_terms layout load) es → RunOf load es ns
    → Contains reports (report layout load es)

-- of each deadlock there is one of these histories in which each part has come as far
abbrev pub HasAllDeadlocks : Workload → List (List NodeEntry) → Type 0
HasAllDeadlocks load histories = (layout : Layout) (es : List NodeEntry) (ns : List ℕ) → Stuck load layout es ns → Any (SamePlaces load es) histories

-- no report is missing, and no deadlock
pub record Complete (load : Workload) (reports : List (List ℕ)) (histories : List (List NodeEntry)) : Type 0 where
  pub each_report : HasAllReports load reports
  pub each_deadlock : HasAllDeadlocks load histories
