-- What can be written: values in the ranges of their types.
use Rattle.std.specs.Prelude.{◌≡◌, ℕ, ℤ, ◌+◌, ◌<◌, ◌≤◌, ◌^◌, true, List, [], ◌∷◌, length, Some, FitsSigned}
use Rattle.std.specs.{List.AllByRecursion, Int.w64}
use Rattle.mtapi_values.specs.{Attributes.AreNodeSettings, declared.ends.TaskEnd.TaskEnd}
use Rattle.mtapi_machine.specs.Legal.{NodeEntry, IsHonest}
use Rattle.node_journals.specs.declared.entries.Journal.{Journal}
use Rattle.journal_text.specs.{declared.heads.Head.Head, declared.values.Value.Value, Ops.op_spelled, Replies.reply_spelled}
use Rattle.journal_text.specs.{Lines.has_words, Journals.head_for}

-- at most 16 numbers of 64 bits, with sign
pub record AreArgs (zs : List ℤ) : Type 0 where
  pub few : length zs ≤ 16
  pub fit : AllByRecursion (FitsSigned w64) zs

-- the value is in its type's range
abbrev pub ValueFits : Value → Type 0
ValueFits (Value.Number n) = n < 2 ^ 32
ValueFits (Value.Whole z) = FitsSigned w64 z
ValueFits (Value.Cores mask) = mask.0 < 2 ^ 64
ValueFits (Value.Args zs) = AreArgs zs
ValueFits (Value.Handle h) = h < 2 ^ 64
ValueFits (Value.Group (Some h)) = h < 2 ^ 64
ValueFits (Value.End (TaskEnd.Completed zs)) = AreArgs zs
ValueFits _ = Unit {0}

-- what is written of an entry is in its range, and a finished task has its kind's answer
pub record PartsFit (e : NodeEntry) (n : ℕ) : Type 0 where
  pub op : AllByRecursion ValueFits (op_spelled e.op).1
  pub reply : AllByRecursion ValueFits (reply_spelled e.reply).1
  pub honest : IsHonest e.op
  pub number : n < 2 ^ 64

-- the same of each entry that has a number beside it
abbrev pub AllPartsFit : List NodeEntry → List ℕ → Type 0
AllPartsFit (e ∷ es) (n ∷ ns) = PartsFit e n × AllPartsFit es ns
AllPartsFit _ _ = Unit {0}

-- the entry is by a seat, and the text of the layout has its words
pub record HasPlace (head : Head) (e : NodeEntry) : Type 0 where
  pub seat : e.who < head.settings.workers + head.callers
  pub words : has_words head.layout e ≡ true

-- both
pub record EntryFits (head : Head) (e : NodeEntry) (n : ℕ) : Type 0 where
  pub place : HasPlace head e
  pub parts : PartsFit e n

-- the settings are in their ranges, and there are 1 to 9 callers
pub record HeadFits (head : Head) : Type 0 where
  pub settings : AreNodeSettings head.settings
  pub some : 1 ≤ head.callers
  pub few : head.callers ≤ 9

-- the entries fit, with as many numbers beside them
abbrev pub EntriesFit : Head → List NodeEntry → List ℕ → Type 0
EntriesFit head [] [] = Unit {0}
EntriesFit head (e ∷ es) (n ∷ ns) = EntryFits head e n × EntriesFit head es ns
EntriesFit head _ _ = ⊥

-- the journal can be written, and its values are in the ranges of their types
pub record JournalFits (j : Journal) : Type 0 where
  pub head : HeadFits (head_for j)
  pub entries : EntriesFit (head_for j) j.entries.entries j.entries.skipped

-- The journal can be written: there are 1 to 9 callers, each entry is by a seat, and where the layout is one no entry is of a tally.
pub record IsWritable (j : Journal) : Type 0 where
  pub some : 1 ≤ j.callers
  pub few : j.callers ≤ 9
  pub places : AllByRecursion (HasPlace (head_for j)) j.entries.entries
