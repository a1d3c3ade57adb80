-- What the command writes of a settled workload is told by the workload's statements alone.
use Rattle.mtapi_top.proofs.Names.{◌≡◌, ℕ, true, List, length, ◌++◌, Option, Some, None, refl, sym, ◌∙◌, ap, subst, IfSome, Result, Ok, Layout, Workload, workload_of, WellFormed, Legal, Journal, journal_text, terms_with, IsLegal, plain_report, is_settled, Asked, InRange, generated, IsRun, RanWorkload, IsLoadOf, output, generated_summary, IsPlainOutput}
use Rattle.workload_file.specs.declared.faults.Fault.{Fault}
use Rattle.mtapi_machine.specs.declared.terms.Terms.{Terms}
use Rattle.run_report.specs.Report.{report}
use Rattle.journal_check.specs.Verdicts.{IsJournalRun as IsRunOf}
use Rattle.workload_file.proofs.Invariant.{workload_formed}
use Rattle.generated_workload.proofs.Formed.{is_formed}
use Rattle.settled_runs.specs.PlainSummary.{plain_summary}
use Rattle.settled_runs.specs.RunGranted.{SettledRun}
use Rattle.settled_runs.proofs.RunReport.{settled_reports_are_plain}
use Rattle.settled_runs.proofs.PlainSummary.{settled_summaries_are_plain}
use Rattle.mtapi_top.specs.declared.words.Asked.TheVariants as asks
use Rattle.mtapi_top.proofs.GeneratedSettled.{generated_settled}

settled_run : (load : Workload) (j : Journal) → WellFormed load → IsRun load j → is_settled load ≡ true
    → SettledRun j.layout load j.entries.entries j.entries.skipped
settled_run load j f r e = record {
  settled = e;
  formed = f;
  legal = subst (λ (x : Layout). Legal (terms_with x load.settings (length load.parts)) j.entries.entries) (sym r.layout) r.legal;
  same = r.beside;
  run = r.run;
}

-- the report of a journal that is judged to be a run of a settled workload
pub settled_report : (load : Workload) (j : Journal) → WellFormed load → length j.entries.skipped ≡ length j.entries.entries → IsLegal j → IsRunOf load j
    → is_settled load ≡ true
    → report j.layout load j.entries.entries ≡ plain_report load
settled_report load j f b l r s = settled_reports_are_plain j.layout load j.entries.entries j.entries.skipped (record {
  settled = s;
  formed = f;
  legal = subst (λ (t : Terms). Legal t j.entries.entries) (λ i. terms_with j.layout (r.settings i) (r.callers i)) l;
  same = sym b;
  run = r.run;
})

-- the summary of generated tasks names no workers
one_summary : (n w : ℕ) → plain_summary (generated n w) ≡ generated_summary n
unfolding plain_summary generated
one_summary n w = refl

one_load : (r : Result Workload Fault) (x y : Workload) → r ≡ Ok x → r ≡ Ok y → x ≡ y
one_load r x y i k = let both = sym i ∙ k in cc

module _ (j : Journal) (P : List ℕ → Type 0) where
  by_asked : (asked : Asked) (bytes : Option (List ℕ)) (load : Workload) → IsLoadOf asked bytes load → IsRun load j → InRange asked
      → P (output asked load j) → IsPlainOutput (Some asked) bytes j P
  by_asked asks.Report None load i r g p = tt
  by_asked asks.Report (Some b) load i r g p = λ mine e s.
      let same : load ≡ mine = one_load (workload_of b) load mine i.1 e in
      subst (λ (x : Workload). P (plain_report x)) same
      (subst P (settled_reports_are_plain j.layout load j.entries.entries j.entries.skipped
      (settled_run load j (workload_formed b load i.1) r (subst (λ (x : Workload). is_settled x ≡ true) (sym same) s))) p)
  by_asked asks.Journal None load i r g p = tt
  by_asked asks.Journal (Some b) load i r g p = λ mine e s.
      let same : load ≡ mine = one_load (workload_of b) load mine i.1 e in
      subst (λ (x : Workload). P (plain_report x ++ journal_text j)) same
      (subst (λ (x : List ℕ). P (x ++ journal_text j))
      (settled_reports_are_plain j.layout load j.entries.entries j.entries.skipped
      (settled_run load j (workload_formed b load i.1) r (subst (λ (x : Workload). is_settled x ≡ true) (sym same) s))) p)
  by_asked (asks.Generated n w) bytes load i r g p =
      let e : is_settled load ≡ true = subst (λ (x : Workload). is_settled x ≡ true) (sym i) (generated_settled n w g.0 g.1 g.2 g.3) in
      let f : WellFormed load = subst WellFormed (sym i) (is_formed n w g.0 g.1 g.2 g.3) in
      subst P (settled_summaries_are_plain j.layout load j.entries.entries j.entries.skipped (settled_run load j f r e) ∙ ap plain_summary i
      ∙ one_summary n w) p
  by_asked asks.Check bytes load i r g p = tt

  pub plain_output : (words : Option Asked) (bytes : Option (List ℕ)) → RanWorkload words bytes j P → IfSome words InRange → IsPlainOutput words bytes j P
  plain_output words bytes r g =
      subst (λ (x : Option Asked). IsPlainOutput x bytes j P) (sym r.asks)
      (by_asked r.asked bytes r.load r.is r.is_run (subst (λ (x : Option Asked). IfSome x InRange) r.asks g) r.written)
