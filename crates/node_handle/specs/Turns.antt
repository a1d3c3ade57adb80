-- What one call of a counted node does, and what its journal is.
use Rattle.std.specs.Prelude.{◌≡◌, ℕ, ◌^◌, ◌≤◌, List, [], ◌∷◌, ◌++◌, length, ◌⊎◌, ◌↔◌, true, false, Option, None, Result, Ok, IfOk, IfSome, IsErr}
use Rattle.std.specs.declared.alloc.AllocError.{AllocError}
use Rattle.history.specs.Histories.{entry}
use Rattle.mtapi_values.specs.declared.statuses.MtapiStatus.TheVariants.{ErrParameter, ErrSpent}
use Rattle.mtapi_machine.specs.declared.ops.Op.{Op}
use Rattle.mtapi_machine.specs.declared.replies.Reply.{Reply}
use Rattle.mtapi_machine.specs.declared.replies.Reply.TheVariants.{Mtapi}
use Rattle.mtapi_machine.specs.Legal.{NodeEntry}
use Rattle.node_journals.specs.declared.entries.Journal.{Journal}
use Rattle.node_core.specs.declared.journaled.JournaledTerms.{JournaledTerms}
use Rattle.node_core.specs.Keeping.{KeptAs}
use Rattle.node_core.specs.Logs.{StandsKept, journal_terms, journal_seats, is_lost}
use Rattle.node_handle.specs.declared.counted.CountedNode.{CountedNode}

-- the node stands for this list, and has counted it
pub record StandsCounted (n : CountedNode) (L : List NodeEntry) : Type 0 where
  pub stands : StandsKept n.node L
  pub turns : n.turns ≡ length L

-- what no call changes: the settings and the callers, and whether a journal is kept
abbrev pub terms_counted : CountedNode → JournaledTerms
terms_counted n = journal_terms n.node

-- how many seats call the node
abbrev pub seats_of : CountedNode → ℕ
seats_of n = journal_seats (terms_counted n)

-- the call of this seat was made: each history gets its entry, at the end
pub record MadeCall (old : CountedNode) (who : ℕ) (op : Op) (r : Reply) (new : CountedNode) : Type 0 where
  pub terms : terms_counted new ≡ terms_counted old
  pub counts : (L : List NodeEntry) → StandsCounted old L → StandsCounted new (L ++ entry who op r ∷ [])

-- no call was made: there is no such seat, or the turns are used up
abbrev pub Refused : CountedNode → ℕ → Reply → CountedNode → Type 0
Refused old who r new = (new ≡ old) × (((seats_of old ≤ who) × (r ≡ Mtapi ErrParameter)) ⊎ ((2 ^ 62 ≤ old.turns) × (r ≡ Mtapi ErrSpent)))

-- the call was made, or refused
abbrev pub MadeOrRefused : CountedNode → ℕ → Op → Reply → CountedNode → Type 0
MadeOrRefused old who op r new = MadeCall old who op r new ⊎ Refused old who r new

-- the journal is that of each list that the node stands for
abbrev pub IsJournalOf : CountedNode → Journal → Type 0
IsJournalOf n j = (L : List NodeEntry) → StandsCounted n L → KeptAs (terms_counted n).node j L

-- the journal is given, where one is kept and none of it is lost
pub record JournalGiven (n : CountedNode) (r : Result (Option Journal) AllocError) : Type 0 where
  pub none : (r ≡ Ok None) ↔ ((terms_counted n).keeps ≡ false)
  pub lost : IsErr r ↔ (is_lost n.node ≡ true)
  pub kept : (L : List NodeEntry) → StandsCounted n L → IfOk r (λ o. IfSome o (λ j. KeptAs (terms_counted n).node j L))
