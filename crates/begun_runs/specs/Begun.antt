-- What a run of a workload is before its end, and when it can't go on.
use Rattle.std.specs.Prelude.{◌≡◌, ℕ, List, [], ◌++◌, length}
use Rattle.workload_file.specs.declared.workload.Workload.{Workload}
use Rattle.mtapi_values.specs.declared.handles.Layout.{Layout}
use Rattle.mtapi_machine.specs.Legal.{NodeEntry, Legal, after}
use Rattle.mtapi_machine.specs.Kept.{kept}
use Rattle.node_journals.specs.Journals.{KeptEntries}
use Rattle.workload_runs.specs.RunOf.{RunOf}
use Rattle.run_report.specs.Report.{run_terms}

-- The journal with these entries, and these numbers beside them, is that of a run which has begun: some entries behind it, with a number
-- beside each, make it a run, whatever the machine would reply.
pub record Begun (load : Workload) (es : List NodeEntry) (ns : List ℕ) : Type 0 where
  pub rest : List NodeEntry
  pub beside : List ℕ
  pub even : length es ≡ length ns
  pub even_rest : length rest ≡ length beside
  pub run : RunOf load (es ++ rest) (ns ++ beside)

-- the later list is the earlier one with more behind it
abbrev pub EntriesGoOn : KeptEntries → KeptEntries → Type 0
EntriesGoOn a b = (rest : List NodeEntry) × (beside : List ℕ) × (b.entries ≡ a.entries ++ rest) × (b.skipped ≡ a.skipped ++ beside)

-- A deadlock: such a journal, legal and not yet a run, which nothing carries on but entries that a journal leaves out.
pub record Stuck (load : Workload) (layout : Layout) (es : List NodeEntry) (ns : List ℕ) : Type 0 where
  pub legal : Legal (run_terms layout load) es
  pub begun : Begun load es ns
  pub unended : RunOf load es ns → ⊥
  pub still : (more : List NodeEntry) (beside : List ℕ) → Legal (run_terms layout load) (es ++ more) → Begun load (es ++ more) (ns ++ beside)
      → kept (after (run_terms layout load) es) more ≡ []

-- each front of a run has begun, and so has each front of what has begun
abbrev pub FrontsOfRuns : Type 0
FrontsOfRuns = (load : Workload) (es more : List NodeEntry) (ns beside : List ℕ) → length es ≡ length ns → length more ≡ length beside
    → RunOf load (es ++ more) (ns ++ beside)
    → Begun load es ns

abbrev pub FrontsOfBegun : Type 0
FrontsOfBegun = (load : Workload) (es more : List NodeEntry) (ns beside : List ℕ) → length es ≡ length ns → Begun load (es ++ more) (ns ++ beside)
    → Begun load es ns

-- no legal run carries a deadlock on
abbrev pub NoRunGoesOn : Type 0
NoRunGoesOn = (load : Workload) (layout : Layout) (es more : List NodeEntry) (ns beside : List ℕ) → Stuck load layout es ns
    → length (es ++ more) ≡ length (ns ++ beside) → Legal (run_terms layout load) (es ++ more) → RunOf load (es ++ more) (ns ++ beside) → ⊥
