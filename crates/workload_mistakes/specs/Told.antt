-- What it means that lines are faulty.
use Rattle.std.specs.Prelude.{◌≡◌, ℕ, ◌<◌, ◌≤◌, Bool, true, false, ◌||◌, ◌⊎◌, List, [], ◌∷◌, length, Ok, Err}
use Rattle.workload_file.specs.declared.faults.Cause.{Cause}
use Rattle.workload_file.specs.declared.faults.Cause.TheVariants as cause
use Rattle.workload_file.specs.declared.faults.Fault.{Fault}
use Rattle.workload_file.specs.declared.workload.Workload.{Workload}
use Rattle.workload_file.specs.Reading.{workload_of}
use Rattle.workload_mistakes.specs.declared.mistakes.Mistake.{Mistake}
use Rattle.workload_mistakes.specs.declared.reading.Verdict.{Verdict}
use Rattle.workload_mistakes.specs.declared.reading.Verdict.TheVariants as verdict
use Rattle.workload_mistakes.specs.Mending.{mended, mended_text}

-- the bytes are a workload
abbrev pub IsTextWorkload : List ℕ → Type 0
IsTextWorkload bytes = (load : Workload) × (workload_of bytes ≡ Ok load)

-- the fault that a mistake is
abbrev pub fault_of_mistake : Mistake → Fault
fault_of_mistake m = record { line = m.line; cause = m.cause }

-- each line is the first faulty one, for its first cause, when those told before it are mended
abbrev pub AreFaulty : List Mistake → List ℕ → Type 0
AreFaulty [] text = Unit {0}
AreFaulty (m ∷ ms) text = (workload_of text ≡ Err (fault_of_mistake m)) × AreFaulty ms (mended m text)

-- what a verdict says of a text; want of memory says nothing
abbrev pub Judges : List ℕ → Verdict → Type 0
Judges text verdict.Workload = IsTextWorkload text
Judges text (verdict.Faulty line cause) = workload_of text ≡ Err (record { line = line; cause = cause })
Judges text verdict.TooLong = 1048576 < length text
Judges text verdict.Memory = Unit {0}

-- nothing is looked at behind a line with this cause
abbrev pub ends : Cause → Bool
ends cause.TooManyStatements = true
ends cause.TooManyCallers = true
ends _ = false

-- one of the lines has such a cause
abbrev pub has_end : List Mistake → Bool
has_end [] = false
has_end (m ∷ ms) = ends m.cause || has_end ms

-- why there may be more: 50 lines are told, nothing is looked at behind one of them, or the mended text is too long to be read
abbrev pub IsCut : List Mistake → List ℕ → Type 0
IsCut ms bytes = (50 ≤ length ms) ⊎ ((has_end ms ≡ true) ⊎ (1048576 < length (mended_text ms bytes)))
