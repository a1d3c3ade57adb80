-- Settled workloads: the generated one is settled, and the output of a run of one is told by its statements alone.
use Rattle.std.specs.Prelude.{◌≡◌, ℕ, ◌≤◌, true, List, ◌++◌, Option, Some, None, IfSome, Ok}
use Rattle.workload_file.specs.declared.workload.Workload.{Workload}
use Rattle.workload_file.specs.Reading.{workload_of}
use Rattle.node_journals.specs.declared.entries.Journal.{Journal}
use Rattle.journal_text.specs.Journals.{journal_text}
use Rattle.settled_runs.specs.Plain.{plain_report}
use Rattle.settled_runs.specs.PlainSummary.{plain_summary}
use Rattle.settled_runs.specs.Settled.{is_settled}
use Rattle.mtapi_top.specs.declared.words.Asked.{Asked}
use Rattle.mtapi_top.specs.declared.words.Asked.TheVariants as asks
use Rattle.generated_workload.specs.Generated.{generated}

-- of each number of tasks and of workers
abbrev pub GeneratedIsSettled : Type 0
GeneratedIsSettled = (n w : ℕ) → 1 ≤ n → n ≤ 19000 → 1 ≤ w → w ≤ 16 → is_settled (generated n w) ≡ true

-- the summary of n generated tasks: the same for each number of workers
abbrev pub generated_summary : ℕ → List ℕ
generated_summary n = plain_summary (generated n 1)

-- where the bytes are a settled workload, P holds of what is told of it
abbrev pub OfSettled : Option (List ℕ) → (Workload → List ℕ) → (List ℕ → Type 0) → Type 0
OfSettled bytes told P = IfSome bytes (λ b. (load : Workload) → workload_of b ≡ Ok load → is_settled load ≡ true → P (told load))

-- P holds of the plain report of the workload that is read, where it is settled, with the journal behind it where that was asked for; and
-- of the summary of the tasks that are generated
abbrev pub IsPlainOutput : Option Asked → Option (List ℕ) → Journal → (List ℕ → Type 0) → Type 0
IsPlainOutput None bytes j P = Unit {0}
IsPlainOutput (Some asks.Report) bytes j P = OfSettled bytes plain_report P
IsPlainOutput (Some asks.Journal) bytes j P = OfSettled bytes (λ load. plain_report load ++ journal_text j) P
IsPlainOutput (Some (asks.Generated n w)) bytes j P = P (generated_summary n)
IsPlainOutput (Some asks.Check) bytes j P = Unit {0}
