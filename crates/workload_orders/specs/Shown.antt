-- What is known of the reports and the deadlocks that are listed.
use Rattle.std.specs.Prelude.{◌≡◌, ℕ, List, [], ◌∷◌, length, map}
use Rattle.workload_file.specs.declared.workload.Workload.{Workload}
use Rattle.begun_runs.specs.Begun.{Begun, Stuck}
use Rattle.workload_orders.specs.Names.{IsLegal, IsJournalRun, report}
use Rattle.workload_orders.specs.declared.listed.Report.{Report}
use Rattle.workload_orders.specs.declared.listed.Deadlock.{Deadlock}
use Rattle.workload_orders.specs.declared.listed.Orders.{Orders}

-- the journal is a legal history, a run of the workload, and the text is its report; there is a number beside each entry
pub record Shows (load : Workload) (r : Report) : Type 0 where
  pub legal : IsLegal r.journal
  pub run : IsJournalRun load r.journal
  pub even : length r.journal.entries.entries ≡ length r.journal.entries.skipped
  pub is : r.text.items ≡ report r.journal.layout load r.journal.entries.entries

-- each report has such a journal
abbrev pub AllShow : Workload → List Report → Type 0
AllShow load [] = Unit {0}
AllShow load (r ∷ rs) = Shows load r × AllShow load rs

-- the journal behind a deadlock is a legal history, with the workload's settings and callers, the front of a run of it, and no run
pub record HasHistory (load : Workload) (d : Deadlock) : Type 0 where
  pub settings : d.journal.settings ≡ load.settings
  pub callers : d.journal.callers ≡ length load.parts
  pub legal : IsLegal d.journal
  pub begun : Begun load d.journal.entries.entries d.journal.entries.skipped
  pub unended : IsJournalRun load d.journal → ⊥

-- each deadlock has such a journal
abbrev pub AllHaveHistories : Workload → List Deadlock → Type 0
AllHaveHistories load [] = Unit {0}
AllHaveHistories load (d ∷ ds) = HasHistory load d × AllHaveHistories load ds

-- each deadlock is one: no seat goes on behind its journal
abbrev pub AllAreStuck : Workload → List Deadlock → Type 0
AllAreStuck load [] = Unit {0}
AllAreStuck load (d ∷ ds) = Stuck load d.journal.layout d.journal.entries.entries d.journal.entries.skipped × AllAreStuck load ds

-- the texts of these reports
abbrev pub report_texts : List Report → List (List ℕ)
report_texts reports = map (λ r. r.text.items) reports

-- all that is known of what is listed
pub record IsShown (load : Workload) (o : Orders) : Type 0 where
  pub reports : AllShow load o.reports.items
  pub deadlocks : AllHaveHistories load o.deadlocks.items
  pub stuck : AllAreStuck load o.deadlocks.items
  pub stops : AllHaveHistories load o.stops.items
