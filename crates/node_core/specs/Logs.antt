-- What it means that a node with a journal stands for a history.
use Rattle.std.specs.Prelude.{◌≡◌, ℕ, Bool, true, false, List, ◌∷◌, [], ◌++◌, Option, Some, None, Result, Ok, Err, alloc_error, slice_index}
use Rattle.std.specs.Bool.{MatchBool}
use Rattle.std.specs.declared.alloc.AllocError.{AllocError}
use Rattle.mtapi_machine.specs.declared.terms.Terms.{Terms}
use Rattle.mtapi_machine.specs.State.{State, opening}
use Rattle.mtapi_machine.specs.Legal.{NodeEntry, Legal}
use Rattle.mtapi_machine.specs.Kept.{kept, skipped, counted, counts_after, no_counts, is_pending}
use Rattle.node_journals.specs.declared.entries.Journal.{Journal}
use Rattle.node_core.specs.declared.journaled.Kept.{Kept}
use Rattle.node_core.specs.declared.journaled.Kept.TheVariants.{Nothing, Lost, Entries}
use Rattle.node_core.specs.declared.journaled.Log.{Log}
use Rattle.node_core.specs.declared.journaled.Journaled.{Journaled}
use Rattle.node_core.specs.declared.journaled.JournaledTerms.{JournaledTerms}
use Rattle.node_journals.specs.Journals.{KeptEntries}
use Rattle.node_core.specs.Stands.{NodeStands, terms_of_node, seat_count, some_terms}

-- a journal is kept, be it lost by now or not
abbrev pub keeps : Kept → Bool
keeps Nothing = false
keeps Lost = true
keeps (Entries k) = true

-- memory was short, and the journal is lost
abbrev pub lost : Kept → Bool
lost Nothing = false
lost Lost = true
lost (Entries k) = false

-- what is kept once this entry was added, with this number beside it
abbrev pub AddsTo : Kept → NodeEntry → ℕ → Kept → Type 0
AddsTo old e n Nothing = old ≡ Nothing
AddsTo old e n Lost = keeps old ≡ true
AddsTo old e n (Entries k) = (j : KeptEntries) × (old ≡ Entries j) × (k ≡ record { entries = j.entries ++ e ∷ []; skipped = j.skipped ++ n ∷ [] })

-- one more entry: it is left out, or added with the number of its seat
pub record Logs (old : Log) (dropped : Bool) (e : NodeEntry) (new : Log) : Type 0 where
  pub kept : MatchBool dropped (new.kept ≡ old.kept) (AddsTo old.kept e (slice_index old.counts e.who) new.kept)
  pub counts : new.counts ≡ counted dropped (is_pending e.reply) old.counts e.who

-- what is kept is the kept entries of the list, with their numbers
abbrev pub KeepsOf : State → Kept → List NodeEntry → Type 0
KeepsOf s Nothing L = Unit {0}
KeepsOf s Lost L = Unit {0}
KeepsOf s (Entries k) L = (k.entries ≡ kept s L) × (k.skipped ≡ skipped s no_counts L)

-- the same, and for each seat how many of its Pending entries were left out since its last kept one
pub record LoggedFrom (s : State) (g : Log) (L : List NodeEntry) : Type 0 where
  pub kept : KeepsOf s g.kept L
  pub counts : g.counts ≡ counts_after s no_counts L

-- the node stands for the list, and the log is the list's
pub record StandsKept (j : Journaled) (L : List NodeEntry) : Type 0 where
  pub node : NodeStands j.node L
  pub log : LoggedFrom (opening (terms_of_node j.node)) j.log L

-- what no op changes: the node's terms, and whether a journal is kept
abbrev pub journal_terms : Journaled → JournaledTerms
journal_terms j = record { node = terms_of_node j.node; keeps = keeps j.log.kept }

-- memory was short for the journal
abbrev pub is_lost : Journaled → Bool
is_lost j = lost j.log.kept

abbrev pub journal_seats : JournaledTerms → ℕ
journal_seats t = seat_count t.node

abbrev pub journal_legal : JournaledTerms → List NodeEntry → Type 0
journal_legal t L = Legal t.node L

abbrev pub some_journal_terms : JournaledTerms
some_journal_terms = record { node = some_terms; keeps = false }

-- the journal is one of a node with these terms
pub record HasTerms (t : Terms) (j : Journal) : Type 0 where
  pub layout : j.layout ≡ t.layout
  pub settings : j.settings ≡ t.settings
  pub callers : j.callers ≡ t.callers

-- the journal with what was kept; an error where it is lost
abbrev pub IsKeptJournal : Terms → Kept → Result (Option Journal) AllocError → Type 0
IsKeptJournal t Nothing r = r ≡ Ok None
IsKeptJournal t Lost r = r ≡ Err alloc_error
IsKeptJournal t (Entries k) r = r ≡ Ok (Some (record { layout = t.layout; settings = t.settings; callers = t.callers; entries = k }))
