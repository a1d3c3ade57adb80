-- How an explanation ends, and what is said of each end.
use Rattle.std.specs.Prelude.{◌≡◌, ℕ, Bool, true, false, List, [], codes, Option}
use Rattle.byte_io.specs.Causes.{WritesText}
use Rattle.workload_mistakes.specs.declared.explaining.ExplainEnd.{ExplainEnd}
use Rattle.workload_mistakes.specs.declared.explaining.ExplainEnd.TheVariants as end

-- the status of an end
abbrev pub explain_status : ExplainEnd → ℕ
explain_status end.Clean = 0
explain_status end.Usage = 2
explain_status end.Faulty = 3
explain_status end.TooLong = 3
explain_status end.ReadFault = 4
explain_status end.WriteFault = 5
explain_status end.Memory = 6

-- what is said on the error output
unfoldable pub explain_message : ExplainEnd → List ℕ
explain_message end.Clean = []
explain_message end.Usage = codes "usage: mtapi explain\n"
explain_message end.Faulty = []
explain_message end.TooLong = codes "mtapi: workload too long\n"
explain_message end.ReadFault = codes "mtapi: read fault\n"
explain_message end.WriteFault = codes "mtapi: write fault\n"
explain_message end.Memory = codes "mtapi: out of memory\n"

-- what is told of the text may be written: all of it, or a front of it where a write failed
abbrev pub explain_writes : ExplainEnd → Bool
explain_writes end.Clean = true
explain_writes end.Faulty = true
explain_writes end.WriteFault = true
explain_writes _ = false

-- the end is told by its status, and by its message on the error output
pub record IsExplainTold (e : ExplainEnd) (before now : ℕ) (old new : Option (List ℕ)) (status : ℕ) : Type 0 where
  pub answered : status ≡ explain_status e
  pub said : WritesText before now old new (explain_message e)
