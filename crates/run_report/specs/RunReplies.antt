-- Which replies the report of a run reads.
use Rattle.std.specs.Prelude.{◌≡◌, ℕ, List, length, map}
use Rattle.run_report.specs.Names.{Workload, NodeEntry}
use Rattle.workload_runs.specs.RunOf.{RunOf}
use Rattle.run_report.specs.Report.{parts_told}

-- the replies that the report of a run reads, part by part, are those to which the calls of the part's statements came
abbrev pub ReadsTheRun : Type 0
ReadsTheRun = (load : Workload) (es : List NodeEntry) (ns : List ℕ) → length es ≡ length ns → (run : RunOf load es ns)
    → map (λ t. t.replies) (parts_told load es) ≡ run.replies
