-- How the command ended: one relation between its words, what stood outside it before and after, and what it answered.
use Rattle.std.specs.Prelude.{◌≡◌, ◌⊎◌, ℕ, List, Bool, true, false, Option, IfSome}
use Rattle.std.specs.Io.KnownBytes.{IsAtEnd}
use Rattle.byte_io.specs.Causes.{TakesAtMost}
use Rattle.workload_file.specs.Loading.{ReadsClean}
use Rattle.node_journals.specs.declared.entries.Journal.{Journal}
use Rattle.journal_text.specs.Journals.{ReadsJournalClean as ReadsInput}
use Rattle.mtapi_top.specs.declared.ends.End.{End}
use Rattle.mtapi_top.specs.declared.ends.Outcome.{Outcome}
use Rattle.mtapi_top.specs.declared.words.Asked.{Asked}
use Rattle.mtapi_top.specs.Words.{reads_workload, judges}
use Rattle.mtapi_top.specs.Command.{Outside, Ends, IsTold}
use Rattle.mtapi_top.specs.Check.{Channels, Checks}

-- What stands outside the command: the bytes that its source has left and how many reads failed so far, how many writes failed and what
-- the output holds, how many starts of threads were refused, how many writes of messages failed and what was said.
pub record Streams : Type 0 where
  pub left : Option (List ℕ)
  pub reads : ℕ
  pub writes : ℕ
  pub held : Option (List ℕ)
  pub threads : ℕ
  pub says : ℕ
  pub said : Option (List ℕ)

-- what a run sees of it
abbrev pub outside : Streams → Outside
outside s = record { reads = s.reads; writes = s.writes; threads = s.threads; held = s.held }

-- what the word `check` sees of it
abbrev pub channels : Streams → Channels
channels s = record { reads = s.reads; writes = s.writes; held = s.held }

-- the status is neither that of a failed read nor that of want of memory
abbrev pub IsPastReading : ℕ → Type 0
IsPastReading status = (status ≡ 4 → ⊥) × (status ≡ 6 → ⊥)

-- What was read, where the command ends with this status. Words that ask for no workload and for no journal to be judged read nothing. With
-- the other ones the source gave at most one byte past the limit, and but for the status of a failed read it counted no fault. But for
-- that and want of memory it was read to its end, or to that byte; and to its end where a run came back.
pub record IsReadFor (words : Option Asked) (old new : Option (List ℕ)) (before now : ℕ) (status : ℕ) (journal : Option Journal) : Type 0 where
  pub unread : reads_workload words ≡ false → judges words ≡ false → (new ≡ old) × (now ≡ before)
  pub clean : reads_workload words ≡ true → IsPastReading status → ReadsClean before now old new
  pub whole : reads_workload words ≡ true → IfSome journal (λ j. IfSome old (λ bytes. IsAtEnd new))
  pub input : judges words ≡ true → IsPastReading status → ReadsInput before now old new
  pub few : reads_workload words ≡ true → TakesAtMost 1048577 old new
  pub few_judged : judges words ≡ true → TakesAtMost 67108865 old new
  pub faultless : (status ≡ 4 → ⊥) → now ≡ before

-- the statuses with which no run was begun: of words that are none of the command, of a refused text and of a failed read
abbrev pub StartsNothing : ℕ → Type 0
StartsNothing status = (status ≡ 2) ⊎ (status ≡ 3) ⊎ (status ≡ 4)

-- How the command ended: with an end that has its cause, and with which that was written which it writes; the status, the journal, what
-- shows that the turns are used up and the message are those of this end.
pub record HasEnded (words : Option Asked) (a b : Streams) (outcome : Outcome) : Type 0 where
  pub end : End
  pub run : judges words ≡ false → Ends words a.left (outside a) (outside b) end
  pub check : judges words ≡ true → Checks a.left (channels a) (channels b) end
  pub told : IsTold end a.says b.says a.said b.said outcome
