-- Worked rows of what is told of mistakes and of how lines are mended, with values that all differ. Each is decided by computing.
use Rattle.std.specs.Prelude.{◌≡◌, ℕ, true, false, List, [], ◌∷◌, codes, map, Vec}
use Rattle.std.specs.Global.{Global}
use Rattle.workload_file.specs.declared.faults.Cause.{Cause}
use Rattle.workload_file.specs.declared.faults.Cause.TheVariants as cause
use Rattle.workload_mistakes.specs.declared.mistakes.Meant.TheVariants as meant
use Rattle.workload_mistakes.specs.declared.mistakes.Part.{Part}
use Rattle.workload_mistakes.specs.declared.mistakes.Mend.{Mend}
use Rattle.workload_mistakes.specs.declared.mistakes.Mend.TheVariants as mend
use Rattle.workload_mistakes.specs.declared.mistakes.Mistake.{Mistake}
use Rattle.workload_mistakes.specs.declared.explaining.ExplainEnd.{ExplainEnd}
use Rattle.workload_mistakes.specs.declared.explaining.ExplainEnd.TheVariants as end
use Rattle.workload_mistakes.specs.Ends.{explain_status, explain_message, explain_writes}
use Rattle.workload_mistakes.specs.Told.{ends, has_end}
use Rattle.workload_mistakes.specs.Mending.{binding_line, part_in, usual_text, read_for, mended, mended_text}
use Rattle.workload_mistakes.specs.Page.{mistake_text, is_behind, in_order, page_text}

abbrev pub worked_part : ℕ → ℕ → Part
worked_part from long = record { from = from; long = long }

-- two lines of which each has a name and a word that isn't taken
abbrev pub two_lines : List ℕ
two_lines = codes "actio Sum job=7\nwait tt  for=9 0123456789 group=g\n"

-- the first is read as the binding of its name, and of the second a word gives way to an option with a value
abbrev pub first_mend : Mend
first_mend = mend.Line meant.Action (worked_part 6 3)

abbrev pub second_mend : Mend
second_mend = mend.Word (worked_part 9 5) 8 (worked_part 16 14)

module _ (hint : Vec ℕ Global) where
  abbrev pub told_mistake : ℕ → ℕ → Cause → Mend → Mistake
  told_mistake line column why instead = record { line = line; cause = why; column = column; hint = hint; mend = instead }

  abbrev pub no_mend : Mend
  no_mend = mend.Line meant.Nothing (worked_part 0 0)

  -- in line 3 at column 14, in line 2 at column 9, in line 2 at column 5, and in line 4 at column 1
  abbrev pub late : Mistake
  late = told_mistake 3 14 cause.BadValue no_mend

  abbrev pub middle : Mistake
  middle = told_mistake 2 9 cause.OptionMissing no_mend

  abbrev pub early : Mistake
  early = told_mistake 2 5 cause.UnknownOption no_mend

  abbrev pub last : Mistake
  last = told_mistake 4 1 cause.UnknownWord no_mend

  abbrev pub at_name : Mistake
  at_name = told_mistake 1 1 cause.UnknownWord first_mend

  abbrev pub at_option : Mistake
  at_option = told_mistake 2 9 cause.UnknownOption second_mend

  abbrev pub ninth : Mistake
  ninth = told_mistake 5 1 cause.TooManyCallers no_mend

  -- One of the lines ends the look, wherever it stands among them.
  pub record WorkedLookEnds : Type 0 where
    pub none : has_end (late ∷ middle ∷ last ∷ early ∷ []) ≡ false
    pub nothing : has_end [] ≡ false
    pub first : has_end (ninth ∷ late ∷ []) ≡ true
    pub behind : has_end (late ∷ ninth ∷ []) ≡ true

  -- Mistakes stand by their lines, then by their columns, and those of one place as they were found.
  pub record WorkedOrder : Type 0 where
    pub later_line : is_behind late middle ≡ true
    pub earlier_line : is_behind middle late ≡ false
    pub later_column : is_behind middle early ≡ true
    pub earlier_column : is_behind early middle ≡ false
    pub line_first : is_behind last late ≡ true
    pub itself : is_behind late late ≡ false
    pub sorted : in_order (late ∷ middle ∷ last ∷ early ∷ []) ≡ (early ∷ middle ∷ late ∷ last ∷ [])
    pub as_found : map (λ m. m.cause) (in_order (told_mistake 2 9 cause.BadValue no_mend ∷ middle ∷ told_mistake 2 9 cause.NameTaken no_mend ∷ []))
        ≡ (cause.BadValue ∷ cause.OptionMissing ∷ cause.NameTaken ∷ [])

  -- What a page says where this hint is the text "7 to 9".
  pub record WorkedPage : Type 0 where
    pub line : mistake_text late ≡ codes "line 3, column 14: bad value: 7 to 9\n"
    pub none : page_text [] false ≡ codes "no mistake\n"
    pub one : page_text (last ∷ []) false ≡ codes "line 4, column 1: unknown word: 7 to 9\n"
    pub more : page_text (late ∷ middle ∷ []) true
        ≡ codes "line 2, column 9: option missing: 7 to 9\nline 3, column 14: bad value: 7 to 9\nand perhaps more\n"

  -- What is read in place of faulty lines.
  pub record WorkedMends : Type 0 where
    pub first : mended at_name two_lines ≡ codes "action Sum job=1 kind=add\nwait tt  for=9 0123456789 group=g\n"
    pub second : mended at_option two_lines ≡ codes "actio Sum job=7\nwait tt timeout=nowait789 group=g\n"
    pub both : mended_text (at_name ∷ at_option ∷ []) two_lines ≡ codes "action Sum job=1 kind=add\nwait tt timeout=nowait789 group=g\n"

-- all ends
abbrev pub all_ends : List ExplainEnd
all_ends = end.Clean ∷ end.Usage ∷ end.Faulty ∷ end.TooLong ∷ end.ReadFault ∷ end.WriteFault ∷ end.Memory ∷ []

-- The status of each end, what is said of it, and in which something may be written.
pub record WorkedExplainEnds : Type 0 where
  pub statuses : map explain_status all_ends ≡ (0 ∷ 2 ∷ 3 ∷ 3 ∷ 4 ∷ 5 ∷ 6 ∷ [])
  pub said : map explain_message all_ends ≡ ([] ∷ codes "usage: mtapi explain\n" ∷ [] ∷ codes "mtapi: workload too long\n"
      ∷ codes "mtapi: read fault\n" ∷ codes "mtapi: write fault\n" ∷ codes "mtapi: out of memory\n" ∷ [])
  pub writing : map explain_writes all_ends ≡ (true ∷ false ∷ true ∷ false ∷ false ∷ true ∷ false ∷ [])

-- all causes, in the order in which a line is looked at
abbrev pub all_causes : List Cause
all_causes = cause.LineTooLong ∷ cause.BadByte ∷ cause.UnknownWord ∷ cause.TooManyStatements ∷ cause.TooManyCallers ∷ cause.Misplaced ∷ cause.BadName
    ∷ cause.UnknownOption ∷ cause.OptionTwice ∷ cause.BadValue ∷ cause.OptionMissing ∷ cause.NameTaken ∷ cause.NameUnknown ∷ []

-- Behind which lines nothing is looked at: the statement that is one too many, and the caller that is.
pub record WorkedLastLines : Type 0 where
  pub last : map ends all_causes
      ≡ (false ∷ false ∷ false ∷ true ∷ true ∷ false ∷ false ∷ false ∷ false ∷ false ∷ false ∷ false ∷ false ∷ [])

-- Each meaning of a line has one that binds the name.
pub record WorkedBindings : Type 0 where
  pub nothing : binding_line meant.Nothing (codes "N") ≡ []
  pub node : binding_line meant.Node (codes "N") ≡ codes "node"
  pub begin : binding_line meant.Begin (codes "N") ≡ codes "begin"
  pub caller : binding_line meant.Caller (codes "N") ≡ codes "caller N"
  pub action : binding_line meant.Action (codes "N") ≡ codes "action N job=1 kind=add"
  pub task : binding_line meant.Task (codes "N") ≡ codes "start N job=1"
  pub group : binding_line meant.Group (codes "N") ≡ codes "group N"
  pub queue : binding_line meant.Queue (codes "N") ≡ codes "queue_get N id=0"
  pub mutex : binding_line meant.Mutex (codes "N") ≡ codes "mutex_get N id=0"
  pub sem : binding_line meant.Sem (codes "N") ≡ codes "sem_get N id=0"
  pub rwl : binding_line meant.Rwl (codes "N") ≡ codes "rwl_get N id=0"
  pub shmem : binding_line meant.Shmem (codes "N") ≡ codes "shmem_get N id=0"
  pub usual : part_in (worked_part 16 14) usual_text ≡ codes "timeout=nowait"

pub record WorkedMistakes : Type 0 where
  pub order : (hint : Vec ℕ Global) → WorkedOrder hint
  pub page : (hint : Vec ℕ Global) → hint.items ≡ codes "7 to 9" → WorkedPage hint
  pub mends : (hint : Vec ℕ Global) → WorkedMends hint
  pub bindings : WorkedBindings
  pub ends : WorkedExplainEnds
  pub causes : WorkedLastLines
  pub looks : (hint : Vec ℕ Global) → WorkedLookEnds hint
