-- The report of a run of a settled workload: it is the plain one, whatever the number of workers and in whichever order the calls came.
use Rattle.std.specs.Prelude.{◌≡◌, ℕ, List}
use Rattle.settled_runs.specs.Names.{Layout, Workload, NodeEntry, report}
use Rattle.settled_runs.specs.Plain.{plain_report}
use Rattle.settled_runs.specs.RunGranted.{SettledRun}

-- so it is of every legal journal that is a run of it
abbrev pub SettledReportsArePlain : Type 0
SettledReportsArePlain = (layout : Layout) (load : Workload) (es : List NodeEntry) (ns : List ℕ) → SettledRun layout load es ns
    → report layout load es ≡ plain_report load

-- so two runs of settled workloads with the same parts have one report, whatever their settings, the numbers of workers among them
abbrev pub SettledReportsAreAlike : Type 0
SettledReportsAreAlike =
    (layout other : Layout) (a b : Workload) (es fs : List NodeEntry) (ns ms : List ℕ) → a.parts ≡ b.parts → SettledRun layout a es ns
    → SettledRun other b fs ms → report layout a es ≡ report other b fs
