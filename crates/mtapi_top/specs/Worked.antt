-- Worked rows of how the command ends. Each is decided by computing.
use Rattle.std.specs.Prelude.{◌≡◌, ℕ, Bool, true, false, List, [], ◌∷◌, codes, map, Option, Some, None}
use Rattle.workload_file.specs.declared.faults.Cause.TheVariants as cause
use Rattle.node_journals.specs.declared.entries.Journal.{Journal}
use Rattle.journal_check.specs.declared.verdicts.Verdict.TheVariants as verdict
use Rattle.mtapi_top.specs.declared.ends.End.{End}
use Rattle.mtapi_top.specs.declared.ends.End.TheVariants as end
use Rattle.mtapi_top.specs.Command.{status_of, journal_in_end, spent_of, message, has_line}

-- all ends, with the journal of a run, where line 17 of the workload is faulty, line 204 of the journal, or its entry 5
abbrev pub ends_of_command : Journal → List End
ends_of_command j = end.Done j ∷ end.Usage ∷ end.Refused 17 cause.NameTaken ∷ end.TooLong ∷ end.ReadFault ∷ end.WriteFault j ∷ end.Memory ∷ end.NoThread
    ∷ end.Spent 80 ∷ end.Judged verdict.Yes ∷ end.Judged (verdict.Illegal 5) ∷ end.Judged verdict.NotRun ∷ end.VerdictFault verdict.Yes
    ∷ end.InputTooLong ∷ end.JournalLine 204 ∷ end.JournalCut ∷ []

-- what is said of each
abbrev pub said : List (List ℕ)
said = [] ∷ codes "usage: mtapi run [--journal] | mtapi gen N [W] | mtapi check\n" ∷ codes "mtapi: line 17: name taken\n"
    ∷ codes "mtapi: workload too long\n" ∷ codes "mtapi: read fault\n" ∷ codes "mtapi: write fault\n" ∷ codes "mtapi: out of memory\n"
    ∷ codes "mtapi: thread refused\n" ∷ codes "mtapi: turns spent\n" ∷ [] ∷ [] ∷ [] ∷ codes "mtapi: write fault\n"
    ∷ codes "mtapi: input too long\n" ∷ codes "mtapi: journal line 204\n" ∷ codes "mtapi: journal cut short\n" ∷ []

-- a line is named in the third message and in the last but one
abbrev pub naming_lines : List Bool
naming_lines = false ∷ false ∷ true ∷ false ∷ false ∷ false ∷ false ∷ false ∷ false ∷ false ∷ false ∷ false ∷ false ∷ false ∷ true ∷ false ∷ []

-- with the first and the sixth end there is a journal
abbrev pub journals : Journal → List (Option Journal)
journals j = Some j ∷ None ∷ None ∷ None ∷ None ∷ Some j ∷ None ∷ None ∷ None ∷ None ∷ None ∷ None ∷ None ∷ None ∷ None ∷ None ∷ []

pub record WorkedEnds (j : Journal) : Type 0 where
  -- 0 and 2 to 9: 3 where an input is refused, 9 where a journal is
  pub statuses : map status_of (ends_of_command j) ≡ (0 ∷ 2 ∷ 3 ∷ 3 ∷ 4 ∷ 5 ∷ 6 ∷ 7 ∷ 8 ∷ 0 ∷ 9 ∷ 9 ∷ 5 ∷ 3 ∷ 3 ∷ 3 ∷ [])
  pub messages : map message (ends_of_command j) ≡ said
  pub lines : map has_line (ends_of_command j) ≡ naming_lines
  pub kept : map journal_in_end (ends_of_command j) ≡ journals j
  pub spent : map spent_of (end.Spent 80 ∷ end.Memory ∷ []) ≡ (Some 80 ∷ None ∷ [])
