-- Of a settled workload one report is all.
use Rattle.std.specs.Prelude.{IfOk}
use Rattle.std.specs.declared.alloc.AllocError.{AllocError}
use Rattle.std.proofs.Common.{Bool, Result, Ok, Err, ◌≡◌, true, ◌≤◌, List, [], ◌∷◌, length, sym, ◌∙◌, arith, subst}
use Rattle.mtapi_machine.specs.Legal.{Legal}
use Rattle.mtapi_machine.specs.State.{terms_with}
use Rattle.mtapi_machine.specs.declared.terms.Terms.{Terms}
use Rattle.workload_file.specs.Formed.{WellFormed}
use Rattle.workload_file.specs.declared.workload.Workload.{Workload}
use Rattle.settled_runs.specs.RunGranted.{SettledRun}
use Rattle.settled_runs.specs.Settled.{is_settled}
use Rattle.settled_runs.proofs.RunReport.{settled_reports_are_plain}
use Rattle.begun_runs.specs.Complete.{HasAllReports}
use Rattle.workload_orders.specs.declared.listed.Report.{Report}
use Rattle.workload_orders.specs.Shown.{Shows, AllShow, report_texts}

-- the run that shows a report, as one of a settled workload
shown_run : (load : Workload) (r : Report) → is_settled load ≡ true → WellFormed load → Shows load r
    → SettledRun r.journal.layout load r.journal.entries.entries r.journal.entries.skipped
shown_run load r settled formed s = record {
  settled = settled;
  formed = formed;
  legal = subst (λ (t : Terms). Legal t r.journal.entries.entries) (λ i. terms_with r.journal.layout (s.run.settings i) (s.run.callers i)) s.legal;
  same = s.even;
  run = s.run.run;
}

pub one_is_all : (load : Workload) (rs : List Report) → is_settled load ≡ true → WellFormed load → 1 ≤ length rs → AllShow load rs
    → HasAllReports load (report_texts rs)
one_is_all load [] settled formed some shown layout es ns even legal run = absurd (omega (arith, some))
one_is_all load (r ∷ rs) settled formed some shown layout es ns even legal run = (
  0,
  omega arith,
  shown.0.is ∙ (settled_reports_are_plain r.journal.layout load r.journal.entries.entries r.journal.entries.skipped (shown_run load r settled formed shown.0)
      ∙ sym (settled_reports_are_plain layout load es ns (record { settled = settled; formed = formed; legal = legal; same = even; run = run }))),
)

-- so it is where the test of that, if it had memory enough, says so
pub all_if : (load : Workload) (rs : List Report) (told : Result Bool AllocError) → IfOk told (λ b. b ≡ is_settled load) → WellFormed load → 1 ≤ length rs
    → AllShow load rs → IfOk told (λ b. b ≡ true → HasAllReports load (report_texts rs))
all_if load rs (Ok b) is formed some shown = λ yes. one_is_all load rs (sym is ∙ yes) formed some shown
all_if load rs (Err e) is formed some shown = tt
