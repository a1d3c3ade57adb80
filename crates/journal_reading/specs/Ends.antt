-- How a program that shows a run ends, and what each end says of the input.
use Rattle.std.specs.Prelude.{◌≡◌, ◌⊎◌, ℕ, ◌≤◌, ◌<◌, Bool, true, false, List, [], ◌∷◌, ◌++◌, length, codes, Option, Some, None, Result, Ok, Err}
use Rattle.std.specs.Fmt.{decimal}
use Rattle.std.specs.Io.KnownBytes.{Appends}
use Rattle.byte_io.specs.Causes.{AppendsFront, WritesText}
use Rattle.node_journals.specs.declared.entries.Journal.{Journal}
use Rattle.workload_file.specs.declared.workload.Workload.{Workload}
use Rattle.workload_file.specs.declared.faults.Fault.{Fault}
use Rattle.workload_file.specs.Causes.{cause_text}
use Rattle.workload_file.specs.Reading.{workload_of}
use Rattle.journal_text.specs.declared.faults.TextError.TheVariants as errors
use Rattle.journal_text.specs.Journals.{journal_of}
use Rattle.journal_text.specs.Splits.{OfParts}
use Rattle.journal_reading.specs.declared.reading.KeptRun.{KeptRun}
use Rattle.journal_reading.specs.declared.ends.RunView.{RunView}
use Rattle.journal_reading.specs.declared.ends.ShowEnd.{ShowEnd}
use Rattle.journal_reading.specs.declared.ends.ShowEnd.TheVariants as end

-- why the part of an input before its first journal line is no workload
abbrev pub FrontFails : List ℕ → ShowEnd → Type 0
FrontFails front (end.Refused line cause) = (length front ≤ 1048576) × (workload_of front ≡ Err (record { line = line; cause = cause }))
FrontFails front end.WorkloadTooLong = 1048576 < length front
FrontFails front end.Memory = Unit {0}
FrontFails front _ = ⊥

-- the part before the first journal line is a workload
abbrev pub IsFrontWorkload : List ℕ → Type 0
IsFrontWorkload front = (length front ≤ 1048576) × (load : Workload) × (workload_of front ≡ Ok load)

-- it is none: it is too long, or has a fault
abbrev pub IsNoWorkload : List ℕ → Type 0
IsNoWorkload front = (1048576 < length front) ⊎ ((fault : Fault) × (workload_of front ≡ Err fault))

-- what may stand there: before a picture's journal anything, before a trace's a workload
abbrev pub IsFront : RunView → List ℕ → Type 0
IsFront RunView.Picture front = Unit {0}
IsFront RunView.Trace front = IsFrontWorkload front

-- what stands there is refused: for a trace, or for want of memory
abbrev pub IsTextRefused : RunView → List ℕ → ShowEnd → Type 0
IsTextRefused RunView.Picture front e = e ≡ end.Memory
IsTextRefused RunView.Trace front e = FrontFails front e

-- the workload that stands there, if it is one, or why it is refused; before a picture's journal it may be none
abbrev pub FrontGives : RunView → List ℕ → Result (Option Workload) ShowEnd → Type 0
FrontGives view front (Ok (Some load)) = (length front ≤ 1048576) × (workload_of front ≡ Ok load)
FrontGives view front (Ok None) = (view ≡ RunView.Picture) × IsNoWorkload front
FrontGives view front (Err e) = IsTextRefused view front e

-- why what stands in an input from its first journal line on is no journal
abbrev pub RestFails : List ℕ → ShowEnd → Type 0
RestFails rest (end.BadLine line) = journal_of rest ≡ Err (errors.BadLine line)
RestFails rest end.CutShort = journal_of rest ≡ Err errors.PartialEnd
RestFails rest end.Memory = Unit {0}
RestFails rest _ = ⊥

-- the journal that stands there, or why it is none
abbrev pub RestGives : List ℕ → Result Journal ShowEnd → Type 0
RestGives rest (Ok j) = journal_of rest ≡ Ok j
RestGives rest (Err e) = RestFails rest e

-- what stands there is a journal
abbrev pub IsJournal : List ℕ → Type 0
IsJournal rest = (j : Journal) × (journal_of rest ≡ Ok j)

-- the input is a journal behind what may stand before it
abbrev pub IsJournalInput : RunView → List ℕ → Type 0
IsJournalInput view bytes = OfParts bytes (λ front rest. IsFront view front × IsJournal rest)

-- why an input is none: by its first part, or where that may stand there, by the rest
abbrev pub InputFails : RunView → List ℕ → ShowEnd → Type 0
InputFails view bytes e = OfParts bytes (λ front rest. IsTextRefused view front e ⊎ (IsFront view front × RestFails rest e))

-- the run that an input keeps: its workload, where that is known, and its journal
abbrev pub IsRunOf : RunView → List ℕ → KeptRun → Type 0
IsRunOf view bytes run = OfParts bytes (λ front rest. FrontGives view front (Ok run.workload) × RestGives rest (Ok run.journal))

-- a text shows the run that an input keeps, and P holds of it
abbrev pub HasText : (KeptRun → List ℕ → Type 0) → RunView → List ℕ → (List ℕ → Type 0) → Type 0
HasText IsShown view bytes P = (run : KeptRun) × IsRunOf view bytes run × ((text : List ℕ) × IsShown run text × P text)

-- An input that isn't too long keeps a run, and what the output held has grown by a text that shows it, or by a front of one where a
-- write failed; or else it is refused so.
abbrev pub EndsOf : (KeptRun → List ℕ → Type 0) → RunView → Option (List ℕ) → Option (List ℕ) → List ℕ → ShowEnd → Type 0
EndsOf IsShown view old new bytes end.Done = HasText IsShown view bytes (λ text. Appends old new text)
EndsOf IsShown view old new bytes end.WriteFault = HasText IsShown view bytes (λ text. AppendsFront old new text)
EndsOf IsShown view old new bytes e = InputFails view bytes e

-- what an end says of the bytes of the input and of the output before and after; want of memory and a failed read say nothing
abbrev pub ShowsInput : (KeptRun → List ℕ → Type 0) → RunView → Option (List ℕ) → Option (List ℕ) → List ℕ → ShowEnd → Type 0
ShowsInput IsShown view old new bytes end.TooLong = 67108864 < length bytes
ShowsInput IsShown view old new bytes end.Memory = Unit {0}
ShowsInput IsShown view old new bytes end.ReadFault = Unit {0}
ShowsInput IsShown view old new bytes e = (length bytes ≤ 67108864) × EndsOf IsShown view old new bytes e

-- the status of an end
abbrev pub show_status : ShowEnd → ℕ
show_status end.Done = 0
show_status end.Usage = 2
show_status end.TooLong = 3
show_status (end.Refused line cause) = 3
show_status end.WorkloadTooLong = 3
show_status (end.BadLine line) = 3
show_status end.CutShort = 3
show_status end.ReadFault = 4
show_status end.WriteFault = 5
show_status end.Memory = 6

-- the text was written, or a write of it failed
abbrev pub show_writes : ShowEnd → Bool
show_writes end.Done = true
show_writes end.WriteFault = true
show_writes _ = false

-- the input isn't too long, and is a journal behind what may stand before it
abbrev pub HasInput : RunView → List ℕ → Type 0
HasInput view bytes = (length bytes ≤ 67108864) × IsJournalInput view bytes

-- what is said of the words that a program takes
unfoldable pub usage : RunView → List ℕ
usage RunView.Picture = codes "usage: mtapi picture" ++ 10 ∷ []
usage RunView.Trace = codes "usage: mtapi trace" ++ 10 ∷ []

-- what is said on the error output
unfoldable pub show_message : RunView → ShowEnd → List ℕ
show_message view end.Done = []
show_message view end.Usage = usage view
show_message view end.TooLong = codes "mtapi: input too long" ++ 10 ∷ []
show_message view (end.Refused line cause) = codes "mtapi: line " ++ (decimal line ++ (codes ": " ++ (cause_text cause ++ 10 ∷ [])))
show_message view end.WorkloadTooLong = codes "mtapi: workload too long" ++ 10 ∷ []
show_message view (end.BadLine line) = codes "mtapi: journal line " ++ (decimal line ++ 10 ∷ [])
show_message view end.CutShort = codes "mtapi: journal cut short" ++ 10 ∷ []
show_message view end.ReadFault = codes "mtapi: read fault" ++ 10 ∷ []
show_message view end.WriteFault = codes "mtapi: write fault" ++ 10 ∷ []
show_message view end.Memory = codes "mtapi: out of memory" ++ 10 ∷ []

-- the message names a line
abbrev pub shows_line : ShowEnd → Bool
shows_line (end.Refused line cause) = true
shows_line (end.BadLine line) = true
shows_line _ = false

-- the end is told by its status, and by its message on the error output
pub record IsShowTold (view : RunView) (e : ShowEnd) (before now : ℕ) (old new : Option (List ℕ)) (status : ℕ) : Type 0 where
  pub answered : status ≡ show_status e
  pub said : WritesText before now old new (show_message view e)
