-- What is promised of a run that the program makes, and of one that it verifies.
use Rattle.std.specs.Prelude.{◌≡◌, ℕ, List, ◌++◌, Some}
use Rattle.workload_file.specs.declared.workload.Workload.{Workload}
use Rattle.node_journals.specs.declared.entries.Journal.{Journal}
use Rattle.workload_runners.specs.RunJournals.{IsRun}
use Rattle.run_report.specs.Report.{report}
use Rattle.journal_text.specs.Journals.{journal_text}
use Rattle.kept_texts.specs.Joined.{IsJournalBehind}
use Rattle.journal_check.specs.declared.verdicts.Verdict.TheVariants.{Yes}
use Rattle.mtapi_top.specs.Headline.{IsRead}
use Rattle.mtapi_top.specs.Check.{IsJudged, verdict_line}

-- The bytes are a workload, of which the first text is the report of a run, and the second that of the run's journal.
pub record IsKept (bytes shown kept : List ℕ) : Type 0 where
  pub load : Workload
  pub is : IsRead (Some bytes) load
  pub journal : Journal
  pub is_run : IsRun load journal
  pub reports : shown ≡ report journal.layout load journal.entries.entries
  pub keeps : kept ≡ journal_text journal

-- The text is the report of a run of the workload that the bytes are, and the verdict yes on that run's journal behind them.
pub record IsVerified (bytes text : List ℕ) : Type 0 where
  pub shown : List ℕ
  pub kept : List ℕ
  pub run : IsKept bytes shown kept
  pub whole : List ℕ
  pub joined : IsJournalBehind bytes kept whole
  pub judged : IsJudged (Some whole) Yes
  pub written : text ≡ shown ++ verdict_line Yes
