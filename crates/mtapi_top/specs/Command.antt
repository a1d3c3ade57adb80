-- How the command ends, and what each end says.
use Rattle.std.specs.Prelude.{◌≡◌, ◌⊎◌, ℕ, ◌≤◌, ◌<◌, ◌^◌, List, [], ◌∷◌, ◌++◌, length, codes, Bool, true, false, Option, Some, None, IfSome, is_some, Ok, Err}
use Rattle.std.specs.Fmt.{decimal}
use Rattle.std.specs.Io.KnownBytes.{Appends}
use Rattle.byte_io.specs.Causes.{Rose, AppendsFront, WritesText}
use Rattle.workload_file.specs.declared.workload.Workload.{Workload}
use Rattle.workload_file.specs.declared.faults.Fault.{Fault}
use Rattle.workload_file.specs.Causes.{cause_text}
use Rattle.workload_file.specs.Reading.{workload_of}
use Rattle.node_journals.specs.declared.entries.Journal.{Journal}
use Rattle.journal_check.specs.declared.verdicts.Verdict.{Verdict}
use Rattle.journal_check.specs.declared.verdicts.Verdict.TheVariants as verdict
use Rattle.mtapi_top.specs.declared.ends.End.{End}
use Rattle.mtapi_top.specs.declared.ends.End.TheVariants as end
use Rattle.mtapi_top.specs.declared.ends.Outcome.{Outcome}
use Rattle.mtapi_top.specs.declared.words.Asked.{Asked}
use Rattle.mtapi_top.specs.Words.{reads_workload}
use Rattle.mtapi_top.specs.Headline.{RanWorkload}

-- the bytes are a workload
abbrev pub IsWorkload : List ℕ → Type 0
IsWorkload bytes = (length bytes ≤ 1048576) × (load : Workload) × (workload_of bytes ≡ Ok load)

-- the bytes are refused: they are no workload
abbrev pub IsRefused : List ℕ → Type 0
IsRefused bytes = (1048576 < length bytes) ⊎ ((length bytes ≤ 1048576) × (fault : Fault) × (workload_of bytes ≡ Err fault))

-- where words that read a workload were asked, the bytes are one
abbrev pub HasRead : Option Asked → Option (List ℕ) → Type 0
HasRead words bytes = reads_workload words ≡ true → IfSome bytes IsWorkload

-- what stands outside the command: how many reads, writes and threads were refused so far, and what the output holds
pub record Outside : Type 0 where
  pub reads : ℕ
  pub writes : ℕ
  pub threads : ℕ
  pub held : Option (List ℕ)

-- what is known at each end of a run: of the words, the bytes of the source, and what stood outside before and stands there then
abbrev pub Ends : Option Asked → Option (List ℕ) → Outside → Outside → End → Type 0
Ends words bytes a b (end.Done journal) = RanWorkload words bytes journal (Appends a.held b.held)
Ends words bytes a b end.Usage = (words ≡ None) × (b.held ≡ a.held)
Ends words bytes a b (end.Refused line cause) =
    (reads_workload words ≡ true) × IfSome bytes (λ t. (length t ≤ 1048576) × (workload_of t ≡ Err (record { line = line; cause = cause }))) × (b.held ≡ a.held)
Ends words bytes a b end.TooLong = (reads_workload words ≡ true) × IfSome bytes (λ t. 1048576 < length t) × (b.held ≡ a.held)
Ends words bytes a b end.ReadFault = (reads_workload words ≡ true) × Rose a.reads b.reads × (b.held ≡ a.held)
Ends words bytes a b (end.WriteFault journal) = Rose a.writes b.writes × RanWorkload words bytes journal (AppendsFront a.held b.held)
Ends words bytes a b end.Memory = (is_some words ≡ true) × (b.held ≡ a.held)
Ends words bytes a b end.NoThread = (is_some words ≡ true) × Rose a.threads b.threads × HasRead words bytes × (b.held ≡ a.held)
Ends words bytes a b (end.Spent s) = (is_some words ≡ true) × (2 ^ 62 ≤ s) × HasRead words bytes × (b.held ≡ a.held)
Ends words bytes a b _ = ⊥

-- the status for a verdict
abbrev pub verdict_status : Verdict → ℕ
verdict_status verdict.Yes = 0
verdict_status (verdict.Illegal n) = 9
verdict_status verdict.NotRun = 9

-- the status of the process
abbrev pub status_of : End → ℕ
status_of (end.Done journal) = 0
status_of end.Usage = 2
status_of (end.Refused line cause) = 3
status_of end.TooLong = 3
status_of end.ReadFault = 4
status_of (end.WriteFault journal) = 5
status_of end.Memory = 6
status_of end.NoThread = 7
status_of (end.Spent s) = 8
status_of (end.Judged v) = verdict_status v
status_of (end.VerdictFault v) = 5
status_of end.InputTooLong = 3
status_of (end.JournalLine line) = 3
status_of end.JournalCut = 3

-- the journal of the run, where there was one
abbrev pub journal_in_end : End → Option Journal
journal_in_end (end.Done journal) = Some journal
journal_in_end (end.WriteFault journal) = Some journal
journal_in_end _ = None

-- what shows that the turns are used up, where they did
abbrev pub spent_of : End → Option ℕ
spent_of (end.Spent s) = Some s
spent_of _ = None

-- what is said on the error output
unfoldable pub message : End → List ℕ
message (end.Done journal) = []
message end.Usage = codes "usage: mtapi run [--journal] | mtapi gen N [W] | mtapi check" ++ 10 ∷ []
message (end.Refused line cause) = codes "mtapi: line " ++ (decimal line ++ (codes ": " ++ (cause_text cause ++ 10 ∷ [])))
message end.TooLong = codes "mtapi: workload too long" ++ 10 ∷ []
message end.ReadFault = codes "mtapi: read fault" ++ 10 ∷ []
message (end.WriteFault journal) = codes "mtapi: write fault" ++ 10 ∷ []
message end.Memory = codes "mtapi: out of memory" ++ 10 ∷ []
message end.NoThread = codes "mtapi: thread refused" ++ 10 ∷ []
message (end.Spent s) = codes "mtapi: turns spent" ++ 10 ∷ []
message (end.Judged v) = []
message (end.VerdictFault v) = codes "mtapi: write fault" ++ 10 ∷ []
message end.InputTooLong = codes "mtapi: input too long" ++ 10 ∷ []
message (end.JournalLine line) = codes "mtapi: journal line " ++ (decimal line ++ 10 ∷ [])
message end.JournalCut = codes "mtapi: journal cut short" ++ 10 ∷ []

-- the message names a line
abbrev pub has_line : End → Bool
has_line (end.Refused line cause) = true
has_line (end.JournalLine line) = true
has_line _ = false

-- The outcome is told by an end: its status, its journal, what shows that the turns are used up, and its message on the error output.
pub record IsTold (end : End) (e e' : ℕ) (o o' : Option (List ℕ)) (outcome : Outcome) : Type 0 where
  pub status : outcome.status ≡ status_of end
  pub journal : outcome.journal ≡ journal_in_end end
  pub spent : outcome.spent ≡ spent_of end
  pub said : WritesText e e' o o' (message end)
