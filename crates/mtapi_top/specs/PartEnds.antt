-- How the parts of the command end. Its own functions alone cite this.
use Rattle.std.specs.Prelude.{◌≡◌, ℕ, ◌≤◌, ◌<◌, List, length, true, false, Option, IfSome, Err}
use Rattle.std.specs.Io.KnownBytes.{Appends}
use Rattle.byte_io.specs.Causes.{Rose, AppendsFront}
use Rattle.workload_file.specs.declared.faults.LoadError.{LoadError}
use Rattle.workload_file.specs.declared.faults.LoadError.TheVariants as errors
use Rattle.workload_file.specs.Reading.{workload_of}
use Rattle.node_journals.specs.declared.entries.Journal.{Journal}
use Rattle.workload_runners.specs.declared.run.NoRun.{NoRun}
use Rattle.workload_runners.specs.declared.run.NoRun.TheVariants as reason
use Rattle.mtapi_top.specs.declared.ends.End.{End}
use Rattle.mtapi_top.specs.declared.ends.End.TheVariants as end
use Rattle.mtapi_top.specs.declared.words.Asked.{Asked}
use Rattle.mtapi_top.specs.Words.{reads_workload, judges, InRange}
use Rattle.mtapi_top.specs.Command.{Outside, Ends, status_of, journal_in_end}
use Rattle.mtapi_top.specs.Check.{Channels, Checks}
use Rattle.mtapi_top.specs.Ended.{IsReadFor}

-- why there is no workload to run: but for want of memory, only where one is read
abbrev pub HasNoWorkload : Option Asked → Option (List ℕ) → ℕ → ℕ → LoadError → Type 0
HasNoWorkload words bytes before now errors.Memory = Unit {0}
HasNoWorkload words bytes before now errors.Read = (reads_workload words ≡ true) × Rose before now
HasNoWorkload words bytes before now errors.TooLong = (reads_workload words ≡ true) × IfSome bytes (λ t. 1048576 < length t)
HasNoWorkload words bytes before now (errors.Refused line cause) =
    (reads_workload words ≡ true) × IfSome bytes (λ t. (length t ≤ 1048576) × (workload_of t ≡ Err (record { line = line; cause = cause })))

-- the end where there is no workload to run
abbrev pub without_load : LoadError → End
without_load errors.Memory = end.Memory
without_load errors.Read = end.ReadFault
without_load errors.TooLong = end.TooLong
without_load (errors.Refused line cause) = end.Refused line cause

-- the end where there is no journal of a run
abbrev pub without_run : NoRun → End
without_run reason.Refused = end.NoThread
without_run (reason.Spent s) = end.Spent s
without_run reason.Memory = end.Memory

-- what is known at each end of writing the output of a run
abbrev pub WritesOutput : ℕ → ℕ → Option (List ℕ) → Option (List ℕ) → List ℕ → Journal → End → Type 0
WritesOutput before now old new text j (end.Done x) = (x ≡ j) × Appends old new text
WritesOutput before now old new text j (end.WriteFault x) = (x ≡ j) × Rose before now × AppendsFront old new text
WritesOutput before now old new text j _ = ⊥

-- what the word `check` sees of what stands outside a run
abbrev pub channels_of : Outside → Channels
channels_of s = record { reads = s.reads; writes = s.writes; held = s.held }

-- How the command comes to its end, before it tells it: the end has its cause, what was written is what it writes, no more was read than
-- it takes, and a thread was refused only where it says so.
pub record ComesTo (words : Option Asked) (old new : Option (List ℕ)) (a b : Outside) (end : End) : Type 0 where
  pub range : IfSome words InRange
  pub run : judges words ≡ false → Ends words old a b end
  pub check : judges words ≡ true → Checks old (channels_of a) (channels_of b) end
  pub read : IsReadFor words old new a.reads b.reads (status_of end) (journal_in_end end)
  pub threads : (status_of end ≡ 7 → ⊥) → b.threads ≡ a.threads
  pub later : (a.reads ≤ b.reads) × (a.writes ≤ b.writes)
