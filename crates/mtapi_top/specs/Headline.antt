-- What is promised of a run of a workload.
use Rattle.std.specs.Prelude.{◌≡◌, ℕ, List, [], ◌++◌, ◌≤◌, length, codes, Ok, Option, Some, IfSome}
use Rattle.workload_file.specs.declared.workload.Workload.{Workload}
use Rattle.workload_file.specs.Reading.{workload_of}
use Rattle.node_journals.specs.declared.entries.Journal.{Journal}
use Rattle.workload_runners.specs.RunJournals.{IsRun}
use Rattle.run_report.specs.Report.{report}
use Rattle.run_report.specs.Summary.{summary}
use Rattle.journal_text.specs.Journals.{journal_text}
use Rattle.journal_text.specs.Journals.{journal_of as journal_read}
use Rattle.mtapi_top.specs.declared.words.Asked.{Asked}
use Rattle.mtapi_top.specs.declared.words.Asked.TheVariants as asks
use Rattle.generated_workload.specs.Generated.{generated}

-- the workload is that of the bytes read, where the source tells them
abbrev pub IsRead : Option (List ℕ) → Workload → Type 0
IsRead bytes load = IfSome bytes (λ b. (length b ≤ 1048576) × (workload_of b ≡ Ok load))

-- the workload whose run was asked for: the one that is read, or the generated one; there is none where a journal is to be judged
abbrev pub IsLoadOf : Asked → Option (List ℕ) → Workload → Type 0
IsLoadOf asks.Report bytes load = IsRead bytes load
IsLoadOf asks.Journal bytes load = IsRead bytes load
IsLoadOf (asks.Generated n w) bytes load = load ≡ generated n w
IsLoadOf asks.Check bytes load = ⊥

-- the output that was asked for, of a run of a workload that left this journal
abbrev pub output : Asked → Workload → Journal → List ℕ
output asks.Report load j = report j.layout load j.entries.entries
output asks.Journal load j = report j.layout load j.entries.entries ++ journal_text j
output (asks.Generated n w) load j = summary j.layout load j.entries.entries
output asks.Check load j = []

-- a text is text 2 of a journal: it begins as the head line of that text does
abbrev pub IsTextTwo : List ℕ → Type 0
IsTextTwo text = (rest : List ℕ) × (text ≡ codes "mtapi-journal 2 " ++ rest)

-- where its text is part of the output, that text is read again as the same journal
abbrev pub IsReadAgain : Asked → Journal → Type 0
IsReadAgain asks.Journal j = journal_read (journal_text j) ≡ Ok j
IsReadAgain _ j = Unit {0}

-- The journal is that of a run of the workload that was asked for, and P holds of the output of that run.
pub record RanWorkload (words : Option Asked) (bytes : Option (List ℕ)) (j : Journal) (P : List ℕ → Type 0) : Type 0 where
  pub asked : Asked
  pub asks : words ≡ Some asked
  pub load : Workload
  pub is : IsLoadOf asked bytes load
  pub is_run : IsRun load j
  pub again : IsReadAgain asked j
  pub written : P (output asked load j)
