-- What contracts cite of the crates below.
pub use Rattle.journal_check.specs.Verdicts.{IsLegal, IsJournalRun}
pub use Rattle.run_report.specs.Report.{report}
