-- Worked rows of how a program that shows a run ends. Each is decided by computing.
use Rattle.std.specs.Prelude.{◌≡◌, ℕ, Bool, true, false, List, [], ◌∷◌, codes, map}
use Rattle.workload_file.specs.declared.faults.Cause.TheVariants as cause
use Rattle.journal_reading.specs.declared.ends.RunView.{RunView}
use Rattle.journal_reading.specs.declared.ends.ShowEnd.{ShowEnd}
use Rattle.journal_reading.specs.declared.ends.ShowEnd.TheVariants as end
use Rattle.journal_reading.specs.Ends.{show_status, show_writes, show_message, shows_line}

-- all ends: line 17 before the journal is faulty, or line 204 of the journal
abbrev pub all_show_ends : List ShowEnd
all_show_ends = end.Done ∷ end.Usage ∷ end.TooLong ∷ end.Refused 17 cause.NameTaken ∷ end.WorkloadTooLong ∷ end.BadLine 204 ∷ end.CutShort
    ∷ end.ReadFault ∷ end.WriteFault ∷ end.Memory ∷ []

-- what is said of each end but for the words that a program takes
abbrev pub said_of_ends : List ℕ → List (List ℕ)
said_of_ends usage = [] ∷ usage ∷ codes "mtapi: input too long\n" ∷ codes "mtapi: line 17: name taken\n" ∷ codes "mtapi: workload too long\n"
    ∷ codes "mtapi: journal line 204\n" ∷ codes "mtapi: journal cut short\n" ∷ codes "mtapi: read fault\n" ∷ codes "mtapi: write fault\n"
    ∷ codes "mtapi: out of memory\n" ∷ []

pub record WorkedShowEnds : Type 0 where
  -- 0 where the text was written, 2 for further words, 3 for an input that is refused, and 4, 5 and 6 for the three faults
  pub statuses : map show_status all_show_ends ≡ (0 ∷ 2 ∷ 3 ∷ 3 ∷ 3 ∷ 3 ∷ 3 ∷ 4 ∷ 5 ∷ 6 ∷ [])
  -- what is said of each end, by either program
  pub picture : map (show_message RunView.Picture) all_show_ends ≡ said_of_ends (codes "usage: mtapi picture\n")
  pub trace : map (show_message RunView.Trace) all_show_ends ≡ said_of_ends (codes "usage: mtapi trace\n")
  -- the message of the fourth and of the sixth names a line
  pub lines : map shows_line all_show_ends ≡ (false ∷ false ∷ false ∷ true ∷ false ∷ true ∷ false ∷ false ∷ false ∷ false ∷ [])
  -- something may be written in the first and in the last but one
  pub writing : map show_writes all_show_ends ≡ (true ∷ false ∷ false ∷ false ∷ false ∷ false ∷ false ∷ false ∷ true ∷ false ∷ [])
