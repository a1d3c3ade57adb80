-- What a verdict on a journal says.
use Rattle.std.specs.Prelude.{◌≡◌, ◌↔◌, ℕ, ◌<◌, ◌≤◌, List, length, take}
use Rattle.workload_file.specs.declared.workload.Workload.{Workload}
use Rattle.mtapi_machine.specs.declared.terms.Terms.{Terms}
use Rattle.mtapi_machine.specs.Legal.{NodeEntry, Legal}
use Rattle.workload_runs.specs.RunOf.{RunOf}
use Rattle.node_journals.specs.declared.entries.Journal.{Journal}
use Rattle.journal_check.specs.declared.verdicts.Verdict.{Verdict}
use Rattle.journal_check.specs.declared.verdicts.Verdict.TheVariants.{Yes, Illegal, NotRun}

-- the terms that a journal names: its own layout, settings and callers
abbrev pub terms_of_journal : Journal → Terms
terms_of_journal j = record { layout = j.layout; settings = j.settings; callers = j.callers }

-- the journal is a legal history of the one-thread machine with its own terms
abbrev pub IsLegal : Journal → Type 0
IsLegal j = Legal (terms_of_journal j) j.entries.entries

-- n is the least number, from 1, such that the first n entries aren't legal
pub record IsFirstIllegal (terms : Terms) (L : List NodeEntry) (n : ℕ) : Type 0 where
  pub some : 1 ≤ n
  pub illegal : Legal terms (take n L) → ⊥
  pub before : (m : ℕ) → 1 ≤ m → m < n → Legal terms (take m L)

-- its settings and its callers are the workload's, and it is a run of it
pub record IsJournalRun (load : Workload) (j : Journal) : Type 0 where
  pub settings : j.settings ≡ load.settings
  pub callers : j.callers ≡ length load.parts
  pub run : RunOf load j.entries.entries j.entries.skipped

-- each verdict comes exactly where it holds
pub record IsVerdict (load : Workload) (j : Journal) (v : Verdict) : Type 0 where
  pub yes : (v ≡ Yes) ↔ (IsLegal j × IsJournalRun load j)
  pub illegal : (n : ℕ) → (v ≡ Illegal n) ↔ IsFirstIllegal (terms_of_journal j) j.entries.entries n
  pub not_run : (v ≡ NotRun) ↔ (IsLegal j × (IsJournalRun load j → ⊥))
