-- What reading a source answers.
use Rattle.std.specs.Prelude.{◌≡◌, ℕ, ◌≤◌, ◌<◌, List, length, drop, Option, IfSome, Result, Ok, Err}
use Rattle.std.specs.Io.KnownBytes.{IsAtEnd}
use Rattle.workload_file.specs.declared.workload.Workload.{Workload}
use Rattle.workload_file.specs.declared.faults.LoadError.{LoadError}
use Rattle.workload_file.specs.declared.faults.LoadError.TheVariants as errors
use Rattle.workload_file.specs.Reading.{workload_of}

-- For the bytes of a source, and those left behind: the workload that they are, or why they are none.
-- The source is read to its end, or to one byte past the limit.
abbrev pub Loads : List ℕ → Option (List ℕ) → Result Workload LoadError → Type 0
Loads bytes left (Ok load) = (length bytes ≤ 1048576) × (workload_of bytes ≡ Ok load) × IsAtEnd left
Loads bytes left (Err (errors.Refused line cause)) = (length bytes ≤ 1048576) × (workload_of bytes ≡ Err (record { line = line; cause = cause })) × IsAtEnd left
Loads bytes left (Err errors.TooLong) = (1048576 < length bytes) × IfSome left (λ rest. rest ≡ drop 1048577 bytes)
Loads bytes left (Err errors.Memory) = Unit {0}
Loads bytes left (Err errors.Read) = Unit {0}

-- the source counted no fault, and gave at most one byte past the limit, where it tells its bytes
pub record ReadsClean (before now : ℕ) (old new : Option (List ℕ)) : Type 0 where
  pub faults : now ≡ before
  pub taken : IfSome old (λ bytes. IfSome new (λ rest. rest ≡ drop 1048577 bytes))

-- this holds with each answer but a failed read and `out of memory`
abbrev pub HoldsBut : Type 0 → Result Workload LoadError → Type 0
HoldsBut P (Ok load) = P
HoldsBut P (Err (errors.Refused line cause)) = P
HoldsBut P (Err errors.TooLong) = P
HoldsBut P (Err errors.Memory) = Unit {0}
HoldsBut P (Err errors.Read) = Unit {0}
