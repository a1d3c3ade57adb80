-- The word `check`: where the journal begins, what is told of it, and why it is refused.
use Rattle.std.specs.Prelude.{◌≡◌, ◌⊎◌, ℕ, ◌≤◌, ◌<◌, List, [], ◌∷◌, ◌++◌, length, codes, Option, IfSome, Result, Ok, Err}
use Rattle.std.specs.Fmt.{decimal}
use Rattle.std.specs.Io.KnownBytes.{Appends}
use Rattle.byte_io.specs.Causes.{Rose, AppendsFront}
use Rattle.workload_file.specs.declared.workload.Workload.{Workload}
use Rattle.workload_file.specs.Reading.{workload_of}
use Rattle.node_journals.specs.declared.entries.Journal.{Journal}
use Rattle.journal_text.specs.declared.faults.TextError.{TextError}
use Rattle.journal_text.specs.declared.faults.TextError.TheVariants as errors
use Rattle.journal_text.specs.Journals.{journal_of}
use Rattle.journal_text.specs.Splits.{OfParts}
use Rattle.journal_check.specs.declared.verdicts.Verdict.{Verdict}
use Rattle.journal_check.specs.declared.verdicts.Verdict.TheVariants as verdict
use Rattle.journal_check.specs.Verdicts.{IsVerdict}
use Rattle.mtapi_top.specs.declared.ends.End.{End}
use Rattle.mtapi_top.specs.declared.ends.End.TheVariants as end
use Rattle.mtapi_top.specs.Command.{IsWorkload, IsRefused}

-- ---- the input

-- the input is a workload, and behind it a journal
abbrev pub IsInput : List ℕ → Workload → Journal → Type 0
IsInput bytes load j = (length bytes ≤ 67108864)
    × OfParts bytes (λ front rest. (length front ≤ 1048576) × (workload_of front ≡ Ok load) × (journal_of rest ≡ Ok j))

-- The input is refused: it is too long, or its first part is no workload, or that is one and the rest is no journal.
abbrev pub IsRefusedInput : List ℕ → Type 0
IsRefusedInput bytes = (67108864 < length bytes)
    ⊎ ((length bytes ≤ 67108864) × OfParts bytes (λ front rest. IsRefused front ⊎ (IsWorkload front × (error : TextError) × (journal_of rest ≡ Err error))))

-- ---- the verdict

-- the line that tells a verdict
unfoldable pub verdict_line : Verdict → List ℕ
verdict_line verdict.Yes = codes "yes" ++ 10 ∷ []
verdict_line (verdict.Illegal n) = codes "no: illegal entry " ++ (decimal n ++ 10 ∷ [])
verdict_line verdict.NotRun = codes "no: not a run" ++ 10 ∷ []

-- The verdict is that on the journal of the input, beside its workload.
pub record IsJudged (bytes : Option (List ℕ)) (v : Verdict) : Type 0 where
  pub load : Workload
  pub journal : Journal
  pub input : IfSome bytes (λ t. IsInput t load journal)
  pub verdict : IsVerdict load journal v

-- ---- the ends

-- why a first part is no workload
abbrev pub FirstPartFails : List ℕ → End → Type 0
FirstPartFails front (end.Refused line cause) = (length front ≤ 1048576) × (workload_of front ≡ Err (record { line = line; cause = cause }))
FirstPartFails front end.TooLong = 1048576 < length front
FirstPartFails front end.Memory = Unit {0}
FirstPartFails front _ = ⊥

-- the workload that a first part is, or why it is none
abbrev pub FirstPartGives : List ℕ → Result Workload End → Type 0
FirstPartGives front (Ok load) = (length front ≤ 1048576) × (workload_of front ≡ Ok load)
FirstPartGives front (Err e) = FirstPartFails front e

-- why a rest is no journal
abbrev pub LastPartFails : List ℕ → End → Type 0
LastPartFails rest (end.JournalLine line) = journal_of rest ≡ Err (errors.BadLine line)
LastPartFails rest end.JournalCut = journal_of rest ≡ Err errors.PartialEnd
LastPartFails rest end.Memory = Unit {0}
LastPartFails rest _ = ⊥

-- the journal that a rest is, or why it is none
abbrev pub LastPartGives : List ℕ → Result Journal End → Type 0
LastPartGives rest (Ok j) = journal_of rest ≡ Ok j
LastPartGives rest (Err e) = LastPartFails rest e

-- why an input that isn't too long has no verdict: by its first part, or where that is a workload, by the rest
abbrev pub IsUnjudged : List ℕ → End → Type 0
IsUnjudged bytes e = OfParts bytes (λ front rest. FirstPartFails front e ⊎ (IsWorkload front × LastPartFails rest e))

-- the same of an input that may not be told
abbrev pub HasNoVerdict : Option (List ℕ) → End → Type 0
HasNoVerdict bytes e = IfSome bytes (λ t. (length t ≤ 67108864) × IsUnjudged t e)

-- the input and the output of `check`: how many reads and writes were refused so far, and what the output holds
pub record Channels : Type 0 where
  pub reads : ℕ
  pub writes : ℕ
  pub held : Option (List ℕ)

-- what is known at each end of `check`: of the bytes of the source, and of the input and the output before and then
abbrev pub Checks : Option (List ℕ) → Channels → Channels → End → Type 0
Checks bytes a b (end.Judged v) = IsJudged bytes v × Appends a.held b.held (verdict_line v)
Checks bytes a b (end.VerdictFault v) = Rose a.writes b.writes × IsJudged bytes v × AppendsFront a.held b.held (verdict_line v)
Checks bytes a b end.InputTooLong = IfSome bytes (λ t. 67108864 < length t) × (b.held ≡ a.held)
Checks bytes a b (end.Refused line cause) = HasNoVerdict bytes (end.Refused line cause) × (b.held ≡ a.held)
Checks bytes a b end.TooLong = HasNoVerdict bytes end.TooLong × (b.held ≡ a.held)
Checks bytes a b (end.JournalLine line) = HasNoVerdict bytes (end.JournalLine line) × (b.held ≡ a.held)
Checks bytes a b end.JournalCut = HasNoVerdict bytes end.JournalCut × (b.held ≡ a.held)
Checks bytes a b end.ReadFault = Rose a.reads b.reads × (b.held ≡ a.held)
Checks bytes a b end.Memory = b.held ≡ a.held
Checks bytes a b _ = ⊥

-- what is known at each end of writing a verdict
abbrev pub WritesVerdict : ℕ → ℕ → Option (List ℕ) → Option (List ℕ) → Verdict → End → Type 0
WritesVerdict before now old new v (end.Judged x) = (x ≡ v) × Appends old new (verdict_line v)
WritesVerdict before now old new v (end.VerdictFault x) = (x ≡ v) × Rose before now × AppendsFront old new (verdict_line v)
WritesVerdict before now old new v end.Memory = new ≡ old
WritesVerdict before now old new v _ = ⊥
